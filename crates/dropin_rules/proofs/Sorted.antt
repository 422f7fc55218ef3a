-- Proves that members added one by one are in the order of their keys.
use Rattle.std.proofs.Common.{◌≡◌, ℕ, List, [], ◌∷◌, refl}
use Rattle.std.specs.Prelude.{codes}
use Rattle.serde_json.specs.Data.{Data, Members, no_members, member, put, string}
use Rattle.ruleset_json.specs.declared.name.Key.{Key}
use Rattle.ruleset_json.specs.declared.name.Key.TheVariants as key
use Rattle.ruleset_json.specs.Names.{key_word}
use Rattle.dropin_rules.specs.RulesText.{texts}

-- The members after a string is added under its key.
abbrev pub with : Key → List ℕ → Members → Members
with k text members = put (key_word k) (string text) members

pub pressure_above : (cgroup duration resource threshold : List ℕ) → with key.Threshold threshold (with key.Resource resource (with key.Duration duration (with key.Cgroup cgroup no_members)))
    ≡ texts ((key.Cgroup, cgroup) ∷ (key.Duration, duration) ∷ (key.Resource, resource) ∷ (key.Threshold, threshold) ∷ [])
unfolding key_word
pressure_above cgroup duration resource threshold = refl

pub pressure_rising_beyond : (cgroup duration ratio resource threshold : List ℕ) → with key.Threshold threshold (with key.Resource resource (with key.FastFallRatio ratio (with key.Duration duration (with key.Cgroup cgroup no_members))))
    ≡ texts ((key.Cgroup, cgroup) ∷ (key.Duration, duration) ∷ (key.FastFallRatio, ratio) ∷ (key.Resource, resource) ∷ (key.Threshold, threshold) ∷ [])
unfolding key_word
pressure_rising_beyond cgroup duration ratio resource threshold = refl

pub memory_above : (cgroup duration threshold : List ℕ) → with key.Threshold threshold (with key.Duration duration (with key.Cgroup cgroup no_members))
    ≡ texts ((key.Cgroup, cgroup) ∷ (key.Duration, duration) ∷ (key.Threshold, threshold) ∷ [])
unfolding key_word
memory_above cgroup duration threshold = refl

pub memory_reclaim : (cgroup duration : List ℕ) → with key.Duration duration (with key.Cgroup cgroup no_members) ≡ texts ((key.Cgroup, cgroup) ∷ (key.Duration, duration) ∷ [])
unfolding key_word
memory_reclaim cgroup duration = refl

pub swap_free : (threshold : List ℕ) → with key.ThresholdPct threshold no_members ≡ texts ((key.ThresholdPct, threshold) ∷ [])
swap_free threshold = refl

pub exists : (cgroup negate : List ℕ) → with key.Negate negate (with key.Cgroup cgroup no_members) ≡ texts ((key.Cgroup, cgroup) ∷ (key.Negate, negate) ∷ [])
unfolding key_word
exists cgroup negate = refl

pub size_or_growth : (always cgroup percentile ratio delay recursive threshold : List ℕ) →
    with key.SizeThreshold threshold (with key.Recursive recursive (with key.PostActionDelay delay (with key.MinGrowthRatio ratio (with key.GrowingSizePercentile percentile (with key.Cgroup cgroup (with key.AlwaysContinue always no_members))))))
    ≡ texts ((key.AlwaysContinue, always) ∷ (key.Cgroup, cgroup) ∷ (key.GrowingSizePercentile, percentile) ∷ (key.MinGrowthRatio, ratio) ∷ (key.PostActionDelay, delay) ∷ (key.Recursive, recursive) ∷ (key.SizeThreshold, threshold) ∷ [])
unfolding key_word
size_or_growth always cgroup percentile ratio delay recursive threshold = refl

pub swap_usage : (always cgroup delay recursive threshold : List ℕ) →
    with key.Threshold threshold (with key.Recursive recursive (with key.PostActionDelay delay (with key.Cgroup cgroup (with key.AlwaysContinue always no_members))))
    ≡ texts ((key.AlwaysContinue, always) ∷ (key.Cgroup, cgroup) ∷ (key.PostActionDelay, delay) ∷ (key.Recursive, recursive) ∷ (key.Threshold, threshold) ∷ [])
unfolding key_word
swap_usage always cgroup delay recursive threshold = refl

pub pressure : (always cgroup delay recursive resource : List ℕ) →
    with key.Resource resource (with key.Recursive recursive (with key.PostActionDelay delay (with key.Cgroup cgroup (with key.AlwaysContinue always no_members))))
    ≡ texts ((key.AlwaysContinue, always) ∷ (key.Cgroup, cgroup) ∷ (key.PostActionDelay, delay) ∷ (key.Recursive, recursive) ∷ (key.Resource, resource) ∷ [])
unfolding key_word
pressure always cgroup delay recursive resource = refl

pub pg_scan : (always cgroup delay recursive : List ℕ) →
    with key.Recursive recursive (with key.PostActionDelay delay (with key.Cgroup cgroup (with key.AlwaysContinue always no_members)))
    ≡ texts ((key.AlwaysContinue, always) ∷ (key.Cgroup, cgroup) ∷ (key.PostActionDelay, delay) ∷ (key.Recursive, recursive) ∷ [])
unfolding key_word
pg_scan always cgroup delay recursive = refl

pub rule : (chain groups name : Data) → put (codes "name") name (put (codes "detectors") groups (put (codes "actions") chain no_members))
    ≡ member (codes "actions") chain (member (codes "detectors") groups (member (codes "name") name no_members))
rule chain groups name = refl
