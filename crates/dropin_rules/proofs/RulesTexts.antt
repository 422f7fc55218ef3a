-- Proves that the JSON data of rules are made only of strings, lists and objects, and that their
-- tree represents them.
use Rattle.std.proofs.Common.{◌≡◌, ℕ, suc, ◌/◌, ◌%◌, ◌^◌, ◌<◌, ◌≤◌, List, [], ◌∷◌, ◌++◌, Bool, true, false, Some, refl, arith}
use Rattle.std.specs.Prelude.{All, IsUtf8, codes, decimal, map}
use Rattle.std.proofs.lemmas.Fmt.{IsAscii-decimal}
use Rattle.std.proofs.lemmas.Str.{IsUtf8-append, IsUtf8-from_ascii}
use Rattle.json.proofs.Printed.Utf8.{IsUtf8-are_ascii}
use Rattle.psi_base.specs.declared.event.Res.{Res}
use Rattle.psi_base.specs.declared.event.Res.TheVariants as res
use Rattle.psi_spec.specs.Fields.{resource_word}
use Rattle.serde_json.specs.Data.{Data}
use Rattle.serde_json.specs.Read.{of_items, of_json}
use Rattle.serde_json.specs.View.{items_of}
use Rattle.serde_json.specs.Written.{items_outline, outline}
use Rattle.ruleset_json.specs.declared.name.ActionName.{ActionName}
use Rattle.ruleset_json.specs.declared.name.ActionName.TheVariants as action_name
use Rattle.ruleset_json.specs.declared.name.DetectorName.{DetectorName}
use Rattle.ruleset_json.specs.declared.name.DetectorName.TheVariants as detector_name
use Rattle.ruleset_json.specs.declared.name.Key.{Key}
use Rattle.ruleset_json.specs.declared.name.Key.TheVariants as key
use Rattle.ruleset_json.specs.declared.types.Action.{Action}
use Rattle.ruleset_json.specs.declared.types.Action.TheVariants as action
use Rattle.ruleset_json.specs.declared.types.DetectorGroup.{DetectorGroup}
use Rattle.ruleset_json.specs.declared.types.DetectorSpec.{DetectorSpec}
use Rattle.ruleset_json.specs.declared.types.DetectorSpec.TheVariants as detector
use Rattle.ruleset_json.specs.declared.types.Rule.{Rule}
use Rattle.ruleset_json.specs.declared.types.Size.{Size}
use Rattle.ruleset_json.specs.declared.types.Size.TheVariants as size
use Rattle.ruleset_json.specs.Arguments.{truth_text}
use Rattle.ruleset_json.specs.GroupRanges.{FitsGroup}
use Rattle.ruleset_json.specs.Names.{action_word, detector_word, key_word}
use Rattle.ruleset_json.specs.Ranges.{FitsAction, FitsDetector, IsRatio, IsSize}
use Rattle.ruleset_json.specs.RuleRanges.{FitsRule, FitsRules}
use Rattle.dropin_rules.specs.HasPatterns.{ActionHasPatterns, DetectorHasPatterns, GroupHasPatterns, RuleHasPatterns, RulesHavePatterns}
use Rattle.dropin_rules.specs.RulesText.{action_data, detector_data, group_data, ratio_text, rule_data, rules_data, size_text}
use Rattle.dropin_rules.proofs.Ascii.{patterns_utf8}
use Rattle.dropin_rules.proofs.OnlyTexts.{ItemsOnlyTexts, OnlyTexts}

-- ---- texts of arguments

number_utf8 : (n : ℕ) → n < 2 ^ 64 → IsUtf8 (decimal n)
number_utf8 n fits = IsUtf8-from_ascii (decimal n) (IsAscii-decimal n fits)

few_utf8 : (n : ℕ) → n ≤ 1000000 → IsUtf8 (decimal n)
few_utf8 n few = number_utf8 n (omega (arith, few))

percent_utf8 : (n : ℕ) → n ≤ 100 → IsUtf8 (decimal n)
percent_utf8 n few = number_utf8 n (omega (arith, few))

digit_utf8 : (n : ℕ) → IsUtf8 (decimal (n % 10))
digit_utf8 n = number_utf8 (n % 10) (omega arith)

ratio_utf8 : (n : ℕ) → IsRatio n → IsUtf8 (ratio_text n)
ratio_utf8 n fits =
    let whole = number_utf8 (n / 1000) (omega (arith, fits)) in
    let point = IsUtf8-append (decimal (n / 1000)) (codes ".") whole (IsUtf8-are_ascii (codes ".") refl) in
    let tenths = IsUtf8-append (decimal (n / 1000) ++ codes ".") (decimal (n / 100 % 10)) point (digit_utf8 (n / 100)) in
    let hundredths = IsUtf8-append (decimal (n / 1000) ++ codes "." ++ decimal (n / 100 % 10)) (decimal (n / 10 % 10)) tenths (digit_utf8 (n / 10)) in
    IsUtf8-append (decimal (n / 1000) ++ codes "." ++ decimal (n / 100 % 10) ++ decimal (n / 10 % 10)) (decimal (n % 10)) hundredths (digit_utf8 n)

size_utf8 : (s : Size) → IsSize s → IsUtf8 (size_text s)
size_utf8 (size.Bytes n) fits = number_utf8 n (omega (arith, fits))
size_utf8 (size.Percent n) fits = IsUtf8-append (decimal n) (codes "%") (percent_utf8 n fits) (IsUtf8-are_ascii (codes "%") refl)

truth_utf8 : (b : Bool) → IsUtf8 (truth_text b)
truth_utf8 true = IsUtf8-are_ascii (codes "true") refl
truth_utf8 false = IsUtf8-are_ascii (codes "false") refl

resource_utf8 : (r : Res) → IsUtf8 (resource_word r)
resource_utf8 res.Io = IsUtf8-are_ascii (codes "io") refl
resource_utf8 res.Memory = IsUtf8-are_ascii (codes "memory") refl
resource_utf8 res.Cpu = IsUtf8-are_ascii (codes "cpu") refl

key_utf8 : (k : Key) → IsUtf8 (key_word k)
unfolding key_word
key_utf8 key.Cgroup = IsUtf8-are_ascii (codes "cgroup") refl
key_utf8 key.Resource = IsUtf8-are_ascii (codes "resource") refl
key_utf8 key.Threshold = IsUtf8-are_ascii (codes "threshold") refl
key_utf8 key.ThresholdPct = IsUtf8-are_ascii (codes "threshold_pct") refl
key_utf8 key.Duration = IsUtf8-are_ascii (codes "duration") refl
key_utf8 key.FastFallRatio = IsUtf8-are_ascii (codes "fast_fall_ratio") refl
key_utf8 key.Negate = IsUtf8-are_ascii (codes "negate") refl
key_utf8 key.SizeThreshold = IsUtf8-are_ascii (codes "size_threshold") refl
key_utf8 key.GrowingSizePercentile = IsUtf8-are_ascii (codes "growing_size_percentile") refl
key_utf8 key.MinGrowthRatio = IsUtf8-are_ascii (codes "min_growth_ratio") refl
key_utf8 key.Recursive = IsUtf8-are_ascii (codes "recursive") refl
key_utf8 key.AlwaysContinue = IsUtf8-are_ascii (codes "always_continue") refl
key_utf8 key.PostActionDelay = IsUtf8-are_ascii (codes "post_action_delay") refl

detector_word_utf8 : (name : DetectorName) → IsUtf8 (detector_word name)
unfolding detector_word
detector_word_utf8 detector_name.PressureAbove = IsUtf8-are_ascii (codes "pressure_above") refl
detector_word_utf8 detector_name.PressureRisingBeyond = IsUtf8-are_ascii (codes "pressure_rising_beyond") refl
detector_word_utf8 detector_name.MemoryAbove = IsUtf8-are_ascii (codes "memory_above") refl
detector_word_utf8 detector_name.MemoryReclaim = IsUtf8-are_ascii (codes "memory_reclaim") refl
detector_word_utf8 detector_name.SwapFree = IsUtf8-are_ascii (codes "swap_free") refl
detector_word_utf8 detector_name.Exists = IsUtf8-are_ascii (codes "exists") refl

action_word_utf8 : (name : ActionName) → IsUtf8 (action_word name)
unfolding action_word
action_word_utf8 action_name.SizeOrGrowth = IsUtf8-are_ascii (codes "kill_by_memory_size_or_growth") refl
action_word_utf8 action_name.SwapUsage = IsUtf8-are_ascii (codes "kill_by_swap_usage") refl
action_word_utf8 action_name.Pressure = IsUtf8-are_ascii (codes "kill_by_pressure") refl
action_word_utf8 action_name.PgScan = IsUtf8-are_ascii (codes "kill_by_pg_scan") refl

-- ---- plugins

args_utf8 : IsUtf8 (codes "args")
args_utf8 = IsUtf8-are_ascii (codes "args") refl

name_utf8 : IsUtf8 (codes "name")
name_utf8 = IsUtf8-are_ascii (codes "name") refl

detector_only : (d : DetectorSpec) → FitsDetector d → DetectorHasPatterns d → OnlyTexts (detector_data d)
detector_only (detector.PressureAbove cgroup resource threshold duration) fits are = (
  args_utf8,
  (key_utf8 key.Cgroup, patterns_utf8 cgroup are, (key_utf8 key.Duration, few_utf8 duration fits.2, (key_utf8 key.Resource, resource_utf8 resource, (key_utf8 key.Threshold, percent_utf8 threshold fits.1, tt)))),
  (name_utf8, detector_word_utf8 detector_name.PressureAbove, tt),
)
detector_only (detector.PressureRisingBeyond cgroup resource threshold duration ratio) fits are = (
  args_utf8,
  (key_utf8 key.Cgroup, patterns_utf8 cgroup are, (key_utf8 key.Duration, few_utf8 duration fits.2, (key_utf8 key.FastFallRatio, ratio_utf8 ratio fits.3, (key_utf8 key.Resource, resource_utf8 resource, (key_utf8 key.Threshold, percent_utf8 threshold fits.1, tt))))),
  (name_utf8, detector_word_utf8 detector_name.PressureRisingBeyond, tt),
)
detector_only (detector.MemoryAbove cgroup threshold duration) fits are = (
  args_utf8,
  (key_utf8 key.Cgroup, patterns_utf8 cgroup are, (key_utf8 key.Duration, few_utf8 duration fits.1, (key_utf8 key.Threshold, size_utf8 threshold fits.0, tt))),
  (name_utf8, detector_word_utf8 detector_name.MemoryAbove, tt),
)
detector_only (detector.MemoryReclaim cgroup duration) fits are = (
  args_utf8,
  (key_utf8 key.Cgroup, patterns_utf8 cgroup are, (key_utf8 key.Duration, few_utf8 duration fits, tt)),
  (name_utf8, detector_word_utf8 detector_name.MemoryReclaim, tt),
)
detector_only (detector.SwapFree threshold) fits are = (
  args_utf8,
  (key_utf8 key.ThresholdPct, percent_utf8 threshold fits, tt),
  (name_utf8, detector_word_utf8 detector_name.SwapFree, tt),
)
detector_only (detector.Exists cgroup negate) fits are = (
  args_utf8,
  (key_utf8 key.Cgroup, patterns_utf8 cgroup are, (key_utf8 key.Negate, truth_utf8 negate, tt)),
  (name_utf8, detector_word_utf8 detector_name.Exists, tt),
)

action_only : (d : Action) → FitsAction d → ActionHasPatterns d → OnlyTexts (action_data d)
action_only (action.SizeOrGrowth cgroup size_threshold percentile ratio after) fits are = (
  args_utf8,
  (key_utf8 key.AlwaysContinue, truth_utf8 after.always_continue, (key_utf8 key.Cgroup, patterns_utf8 cgroup are, (key_utf8 key.GrowingSizePercentile, percent_utf8 percentile fits.1, (key_utf8 key.MinGrowthRatio, ratio_utf8 ratio fits.2, (key_utf8 key.PostActionDelay, few_utf8 after.delay_s fits.3, (key_utf8 key.Recursive, truth_utf8 after.recursive, (key_utf8 key.SizeThreshold, percent_utf8 size_threshold fits.0, tt))))))),
  (name_utf8, action_word_utf8 action_name.SizeOrGrowth, tt),
)
action_only (action.SwapUsage cgroup threshold after) fits are = (
  args_utf8,
  (key_utf8 key.AlwaysContinue, truth_utf8 after.always_continue, (key_utf8 key.Cgroup, patterns_utf8 cgroup are, (key_utf8 key.PostActionDelay, few_utf8 after.delay_s fits.1, (key_utf8 key.Recursive, truth_utf8 after.recursive, (key_utf8 key.Threshold, size_utf8 threshold fits.0, tt))))),
  (name_utf8, action_word_utf8 action_name.SwapUsage, tt),
)
action_only (action.Pressure cgroup resource after) fits are = (
  args_utf8,
  (key_utf8 key.AlwaysContinue, truth_utf8 after.always_continue, (key_utf8 key.Cgroup, patterns_utf8 cgroup are, (key_utf8 key.PostActionDelay, few_utf8 after.delay_s fits.1, (key_utf8 key.Recursive, truth_utf8 after.recursive, (key_utf8 key.Resource, resource_utf8 resource, tt))))),
  (name_utf8, action_word_utf8 action_name.Pressure, tt),
)
action_only (action.PgScan cgroup after) fits are = (
  args_utf8,
  (key_utf8 key.AlwaysContinue, truth_utf8 after.always_continue, (key_utf8 key.Cgroup, patterns_utf8 cgroup are, (key_utf8 key.PostActionDelay, few_utf8 after.delay_s fits, (key_utf8 key.Recursive, truth_utf8 after.recursive, tt)))),
  (name_utf8, action_word_utf8 action_name.PgScan, tt),
)

detector_tree : (d : DetectorSpec) → of_json (outline (detector_data d)) ≡ Some (detector_data d)
unfolding key_word
detector_tree (detector.PressureAbove cgroup resource threshold duration) = refl
detector_tree (detector.PressureRisingBeyond cgroup resource threshold duration ratio) = refl
detector_tree (detector.MemoryAbove cgroup threshold duration) = refl
detector_tree (detector.MemoryReclaim cgroup duration) = refl
detector_tree (detector.SwapFree threshold) = refl
detector_tree (detector.Exists cgroup negate) = refl

action_tree : (a : Action) → of_json (outline (action_data a)) ≡ Some (action_data a)
unfolding key_word
action_tree (action.SizeOrGrowth cgroup size_threshold percentile ratio after) = refl
action_tree (action.SwapUsage cgroup threshold after) = refl
action_tree (action.Pressure cgroup resource after) = refl
action_tree (action.PgScan cgroup after) = refl

-- ---- lists

each_only : {A : Type 0} (P : A → Type 0) (data_of : A → Data) → ((x : A) → P x → OnlyTexts (data_of x)) → (xs : List A) → All P xs → ItemsOnlyTexts (items_of (map data_of xs))
each_only P data_of only [] all = tt
each_only P data_of only (x ∷ xs) all = (only x (all 0 x (omega arith)), each_only P data_of only xs (λ k d below. all (suc k) d (omega arith)))

each_tree : {A : Type 0} (data_of : A → Data) → ((x : A) → of_json (outline (data_of x)) ≡ Some (data_of x)) → (xs : List A) → of_items (items_outline (items_of (map data_of xs))) ≡ Some (items_of (map data_of xs))
each_tree data_of tree [] = refl
each_tree data_of tree (x ∷ xs) = rw (tree x, each_tree data_of tree xs) refl

group_only : (group : DetectorGroup) → FitsGroup group → GroupHasPatterns group → OnlyTexts (group_data group)
group_only group fits are = (fits.1, each_only (λ d. FitsDetector d × DetectorHasPatterns d) detector_data (λ d both. detector_only d both.0 both.1) group.detectors (λ k d below. (fits.0.each k d below, are k d below)))

group_tree : (group : DetectorGroup) → of_json (outline (group_data group)) ≡ Some (group_data group)
group_tree group = rw (each_tree detector_data detector_tree group.detectors) refl

rule_only : (rule : Rule) → FitsRule rule → RuleHasPatterns rule → OnlyTexts (rule_data rule)
rule_only rule fits are = (
  IsUtf8-are_ascii (codes "actions") refl,
  each_only (λ a. FitsAction a × ActionHasPatterns a) action_data (λ a both. action_only a both.0 both.1) rule.actions (λ k d below. (fits.1.each k d below, are.1 k d below)),
  (
    IsUtf8-are_ascii (codes "detectors") refl,
    each_only (λ group. FitsGroup group × GroupHasPatterns group) group_data (λ group both. group_only group both.0 both.1) rule.groups (λ k d below. (fits.0.each k d below, are.0 k d below)),
    (IsUtf8-are_ascii (codes "name") refl, fits.2, tt),
  ),
)

rule_tree : (rule : Rule) → of_json (outline (rule_data rule)) ≡ Some (rule_data rule)
rule_tree rule = rw (each_tree action_data action_tree rule.actions, each_tree group_data group_tree rule.groups) refl

pub rules_only : (rules : List Rule) → FitsRules rules → RulesHavePatterns rules → OnlyTexts (rules_data rules)
rules_only rules fits are = (
  IsUtf8-are_ascii (codes "rulesets") refl,
  each_only (λ rule. FitsRule rule × RuleHasPatterns rule) rule_data (λ rule both. rule_only rule both.0 both.1) rules (λ k d below. (fits.each k d below, are k d below)),
  tt,
)

pub rules_tree : (rules : List Rule) → of_json (outline (rules_data rules)) ≡ Some (rules_data rules)
rules_tree rules = rw (each_tree rule_data rule_tree rules) refl
