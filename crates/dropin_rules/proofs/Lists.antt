-- Proves that the JSON data of rules have no floating-point number, and are nested only a few
-- levels deep.
use Rattle.std.proofs.Common.{◌≡◌, ℕ, ◌≤◌, List, [], ◌∷◌, false, refl, arith}
use Rattle.std.specs.Prelude.{map}
use Rattle.serde_json.specs.Data.{Data, depth, items_depth}
use Rattle.serde_json.specs.View.{items_of}
use Rattle.serde_json.specs.Written.{has_float, items_have_float}
use Rattle.ruleset_json.specs.declared.types.Action.{Action}
use Rattle.ruleset_json.specs.declared.types.Action.TheVariants as action
use Rattle.ruleset_json.specs.declared.types.DetectorGroup.{DetectorGroup}
use Rattle.ruleset_json.specs.declared.types.DetectorSpec.{DetectorSpec}
use Rattle.ruleset_json.specs.declared.types.DetectorSpec.TheVariants as detector
use Rattle.ruleset_json.specs.declared.types.Rule.{Rule}
use Rattle.dropin_rules.specs.RulesText.{action_data, detector_data, group_data, rule_data, rules_data}

-- The data have no floating-point number, and are nested at most `most` levels deep.
abbrev IsPlain : ℕ → Data → Type 0
IsPlain most d = (has_float d ≡ false) × (depth d ≤ most)

abbrev ArePlain : ℕ → List Data → Type 0
ArePlain most ds = (items_have_float (items_of ds) ≡ false) × (items_depth (items_of ds) ≤ most)

each_plain : {A : Type 0} (most : ℕ) (data_of : A → Data) → ((x : A) → IsPlain most (data_of x)) → (xs : List A) → ArePlain most (map data_of xs)
each_plain most data_of plain [] = (refl, omega arith)
each_plain most data_of plain (x ∷ xs) =
    let first = plain x in
    let rest = each_plain most data_of plain xs in
    (rw (first.0, rest.0) refl, omega (arith, first.1, rest.1))

detector_plain : (d : DetectorSpec) → IsPlain 2 (detector_data d)
detector_plain (detector.PressureAbove cgroup resource threshold duration) = (refl, omega arith)
detector_plain (detector.PressureRisingBeyond cgroup resource threshold duration ratio) = (refl, omega arith)
detector_plain (detector.MemoryAbove cgroup threshold duration) = (refl, omega arith)
detector_plain (detector.MemoryReclaim cgroup duration) = (refl, omega arith)
detector_plain (detector.SwapFree threshold) = (refl, omega arith)
detector_plain (detector.Exists cgroup negate) = (refl, omega arith)

action_plain : (a : Action) → IsPlain 2 (action_data a)
action_plain (action.SizeOrGrowth cgroup size_threshold percentile ratio after) = (refl, omega arith)
action_plain (action.SwapUsage cgroup threshold after) = (refl, omega arith)
action_plain (action.Pressure cgroup resource after) = (refl, omega arith)
action_plain (action.PgScan cgroup after) = (refl, omega arith)

group_plain : (group : DetectorGroup) → IsPlain 3 (group_data group)
group_plain group = let detectors = each_plain 2 detector_data detector_plain group.detectors in (detectors.0, omega (arith, detectors.1))

rule_plain : (rule : Rule) → IsPlain 5 (rule_data rule)
rule_plain rule =
    let groups = each_plain 3 group_data group_plain rule.groups in
    let chain = each_plain 2 action_data action_plain rule.actions in
    (rw (groups.0, chain.0) refl, omega (arith, groups.1, chain.1))

pub rules_plain : (rules : List Rule) → (has_float (rules_data rules) ≡ false) × (depth (rules_data rules) ≤ 127)
rules_plain rules = let each = each_plain 5 rule_data rule_plain rules in (rw each.0 refl, omega (arith, each.1))
