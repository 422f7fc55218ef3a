-- Defines the ranges of the values in rulesets.
use Rattle.std.specs.Prelude.{List, IsUtf8}
use Rattle.ruleset_json.specs.declared.types.Rule.{Rule}
use Rattle.ruleset_json.specs.Ranges.{FitsList, FitsActions}
use Rattle.ruleset_json.specs.GroupRanges.{FitsGroups}

-- A ruleset has at most 16 groups and 16 actions, the values in them are in range, and its name is
-- UTF-8.
abbrev pub FitsRule : Rule → Type 0
FitsRule rule = FitsGroups rule.groups × FitsActions rule.actions × IsUtf8 rule.name

abbrev pub FitsRules : List Rule → Type 0
FitsRules = FitsList FitsRule 64
