-- Defines the text of rules: the compact JSON of a rules file with every default filled in.
-- Argument values are strings, and the members of each object are in the byte order of their keys.
use Rattle.std.specs.Prelude.{ℕ, ◌/◌, ◌%◌, List, [], ◌∷◌, ◌++◌, codes, decimal, map}
use Rattle.psi_spec.specs.Fields.{resource_word}
use Rattle.path_match.specs.Match.{patterns_text}
use Rattle.serde_json.specs.Data.{Data, string, array, object, Members, no_members, member}
use Rattle.serde_json.specs.View.{items_of}
use Rattle.serde_json.specs.Written.{compact_text}
use Rattle.ruleset_json.specs.declared.name.ActionName.TheVariants as action_name
use Rattle.ruleset_json.specs.declared.name.DetectorName.TheVariants as detector_name
use Rattle.ruleset_json.specs.declared.name.Key.{Key}
use Rattle.ruleset_json.specs.declared.name.Key.TheVariants as key
use Rattle.ruleset_json.specs.declared.types.Action.{Action}
use Rattle.ruleset_json.specs.declared.types.Action.TheVariants as action
use Rattle.ruleset_json.specs.declared.types.DetectorGroup.{DetectorGroup}
use Rattle.ruleset_json.specs.declared.types.DetectorSpec.{DetectorSpec}
use Rattle.ruleset_json.specs.declared.types.DetectorSpec.TheVariants as detector
use Rattle.ruleset_json.specs.declared.types.Rule.{Rule}
use Rattle.ruleset_json.specs.declared.types.Size.{Size}
use Rattle.ruleset_json.specs.declared.types.Size.TheVariants as size
use Rattle.ruleset_json.specs.Arguments.{truth_text}
use Rattle.ruleset_json.specs.Names.{action_word, detector_word, key_word}

-- ---- arguments

-- The text of a ratio `n` in thousandths: a decimal number with three decimals.
abbrev pub ratio_text : ℕ → List ℕ
ratio_text n = decimal (n / 1000) ++ codes "." ++ decimal (n / 100 % 10) ++ decimal (n / 10 % 10) ++ decimal (n % 10)

-- The text of a size: a number of bytes, or a percentage followed by `%`.
abbrev pub size_text : Size → List ℕ
size_text (size.Bytes n) = decimal n
size_text (size.Percent n) = decimal n ++ codes "%"

-- ---- plugins

-- The arguments of a plugin as members of a JSON object. Each argument is a key and the string that
-- is its value.
abbrev pub texts : List (Key × List ℕ) → Members
texts [] = no_members
texts (argument ∷ arguments) = member (key_word argument.0) (string argument.1) (texts arguments)

-- The plugin object with this name and these arguments.
abbrev pub plugin_data : List ℕ → List (Key × List ℕ) → Data
plugin_data name arguments = object (member (codes "args") (object (texts arguments)) (member (codes "name") (string name) no_members))

-- The plugin object of a detector.
abbrev pub detector_data : DetectorSpec → Data
detector_data (detector.PressureAbove cgroup resource threshold duration) = plugin_data (detector_word detector_name.PressureAbove)
    ((key.Cgroup, patterns_text cgroup) ∷ (key.Duration, decimal duration) ∷ (key.Resource, resource_word resource)
    ∷ (key.Threshold, decimal threshold) ∷ [])
detector_data (detector.PressureRisingBeyond cgroup resource threshold duration ratio) =
    plugin_data (detector_word detector_name.PressureRisingBeyond)
    ((key.Cgroup, patterns_text cgroup) ∷ (key.Duration, decimal duration) ∷ (key.FastFallRatio, ratio_text ratio)
    ∷ (key.Resource, resource_word resource) ∷ (key.Threshold, decimal threshold) ∷ [])
detector_data (detector.MemoryAbove cgroup threshold duration) = plugin_data (detector_word detector_name.MemoryAbove)
    ((key.Cgroup, patterns_text cgroup) ∷ (key.Duration, decimal duration) ∷ (key.Threshold, size_text threshold) ∷ [])
detector_data (detector.MemoryReclaim cgroup duration) = plugin_data (detector_word detector_name.MemoryReclaim)
    ((key.Cgroup, patterns_text cgroup) ∷ (key.Duration, decimal duration) ∷ [])
detector_data (detector.SwapFree threshold) = plugin_data (detector_word detector_name.SwapFree)
    ((key.ThresholdPct, decimal threshold) ∷ [])
detector_data (detector.Exists cgroup negate) = plugin_data (detector_word detector_name.Exists)
    ((key.Cgroup, patterns_text cgroup) ∷ (key.Negate, truth_text negate) ∷ [])

-- The plugin object of an action.
abbrev pub action_data : Action → Data
action_data (action.SizeOrGrowth cgroup size_threshold percentile ratio after) = plugin_data (action_word action_name.SizeOrGrowth)
    ((key.AlwaysContinue, truth_text after.always_continue) ∷ (key.Cgroup, patterns_text cgroup)
    ∷ (key.GrowingSizePercentile, decimal percentile) ∷ (key.MinGrowthRatio, ratio_text ratio)
    ∷ (key.PostActionDelay, decimal after.delay_s) ∷ (key.Recursive, truth_text after.recursive)
    ∷ (key.SizeThreshold, decimal size_threshold) ∷ [])
action_data (action.SwapUsage cgroup threshold after) = plugin_data (action_word action_name.SwapUsage)
    ((key.AlwaysContinue, truth_text after.always_continue) ∷ (key.Cgroup, patterns_text cgroup)
    ∷ (key.PostActionDelay, decimal after.delay_s) ∷ (key.Recursive, truth_text after.recursive)
    ∷ (key.Threshold, size_text threshold) ∷ [])
action_data (action.Pressure cgroup resource after) = plugin_data (action_word action_name.Pressure)
    ((key.AlwaysContinue, truth_text after.always_continue) ∷ (key.Cgroup, patterns_text cgroup)
    ∷ (key.PostActionDelay, decimal after.delay_s) ∷ (key.Recursive, truth_text after.recursive)
    ∷ (key.Resource, resource_word resource) ∷ [])
action_data (action.PgScan cgroup after) = plugin_data (action_word action_name.PgScan)
    ((key.AlwaysContinue, truth_text after.always_continue) ∷ (key.Cgroup, patterns_text cgroup)
    ∷ (key.PostActionDelay, decimal after.delay_s) ∷ (key.Recursive, truth_text after.recursive) ∷ [])

-- ---- rules

-- The JSON array with these items.
abbrev pub list_data : List Data → Data
list_data ds = array (items_of ds)

-- The JSON array of a group of detectors: its name, followed by its detectors.
abbrev pub group_data : DetectorGroup → Data
group_data group = list_data (string group.name ∷ map detector_data group.detectors)

-- The JSON object of a ruleset.
abbrev pub rule_data : Rule → Data
rule_data rule = object
    (member (codes "actions") (list_data (map action_data rule.actions))
    (member (codes "detectors") (list_data (map group_data rule.groups))
    (member (codes "name") (string rule.name) no_members)))

-- The JSON object of a whole rules file.
abbrev pub rules_data : List Rule → Data
rules_data rules = object (member (codes "rulesets") (list_data (map rule_data rules)) no_members)

-- The text of rules, as compact JSON. In a string, a quotation mark and a backslash are escaped by
-- a backslash. A byte below 32 is written as `\b`, `\t`, `\n`, `\f`, `\r`, or `\u00` with two
-- lower-case hexadecimal digits. Every other byte is written unchanged.
unfoldable pub rules_text : List Rule → List ℕ
rules_text rules = compact_text (rules_data rules)
