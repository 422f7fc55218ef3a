-- States that the path patterns in detectors, actions and rulesets are well formed.
use Rattle.std.specs.Prelude.{List, All}
use Rattle.path_match.specs.Answers.{ArePatterns}
use Rattle.ruleset_json.specs.declared.types.Action.{Action}
use Rattle.ruleset_json.specs.declared.types.Action.TheVariants as action
use Rattle.ruleset_json.specs.declared.types.DetectorGroup.{DetectorGroup}
use Rattle.ruleset_json.specs.declared.types.DetectorSpec.{DetectorSpec}
use Rattle.ruleset_json.specs.declared.types.DetectorSpec.TheVariants as detector
use Rattle.ruleset_json.specs.declared.types.Rule.{Rule}

-- The patterns of the detector are well formed.
abbrev pub DetectorHasPatterns : DetectorSpec → Type 0
DetectorHasPatterns (detector.PressureAbove cgroup resource threshold duration) = ArePatterns cgroup
DetectorHasPatterns (detector.PressureRisingBeyond cgroup resource threshold duration ratio) = ArePatterns cgroup
DetectorHasPatterns (detector.MemoryAbove cgroup threshold duration) = ArePatterns cgroup
DetectorHasPatterns (detector.MemoryReclaim cgroup duration) = ArePatterns cgroup
DetectorHasPatterns (detector.SwapFree threshold) = Unit {0}
DetectorHasPatterns (detector.Exists cgroup negate) = ArePatterns cgroup

-- The patterns of the action are well formed.
abbrev pub ActionHasPatterns : Action → Type 0
ActionHasPatterns (action.SizeOrGrowth cgroup size_threshold percentile ratio after) = ArePatterns cgroup
ActionHasPatterns (action.SwapUsage cgroup threshold after) = ArePatterns cgroup
ActionHasPatterns (action.Pressure cgroup resource after) = ArePatterns cgroup
ActionHasPatterns (action.PgScan cgroup after) = ArePatterns cgroup

-- The patterns of all detectors in the group are well formed.
abbrev pub GroupHasPatterns : DetectorGroup → Type 0
GroupHasPatterns group = All DetectorHasPatterns group.detectors

-- The patterns of all detectors and actions in the ruleset are well formed.
abbrev pub RuleHasPatterns : Rule → Type 0
RuleHasPatterns rule = All GroupHasPatterns rule.groups × All ActionHasPatterns rule.actions

-- The patterns of all rulesets are well formed.
abbrev pub RulesHavePatterns : List Rule → Type 0
RulesHavePatterns rules = All RuleHasPatterns rules
