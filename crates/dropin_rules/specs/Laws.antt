-- Laws about rules that are written as text. The laws hold for texts of at most 1,048,576 bytes,
-- the limit of a rules file.
use Rattle.std.specs.Prelude.{◌≡◌, ◌≤◌, List, length, Ok}
use Rattle.ruleset_json.specs.declared.types.Rule.{Rule}
use Rattle.ruleset_json.specs.declared.types.Rules.{Rules}
use Rattle.ruleset_json.specs.RuleRanges.{FitsRules}
use Rattle.ruleset_json.specs.Rules.{rules_of}
use Rattle.dropin_rules.specs.HasPatterns.{RulesHavePatterns}
use Rattle.dropin_rules.specs.RulesText.{rules_text}

-- Round trip: if rules are in range and their text isn't too long for a rules file, parsing the
-- text returns the same rules.
abbrev pub ReadAgain : Type 0
ReadAgain =
    (rules : List Rule) → FitsRules rules → RulesHavePatterns rules → length (rules_text rules) ≤ 1048576
    → rules_of (rules_text rules) ≡ Ok (record { rules = rules })

-- Writing rules, parsing the text, and writing the parsed rules returns the same text.
abbrev pub SameText : Type 0
SameText = (rules : List Rule) (again : Rules) → FitsRules rules → RulesHavePatterns rules → length (rules_text rules) ≤ 1048576
    → rules_of (rules_text rules) ≡ Ok again
    → rules_text again.rules ≡ rules_text rules
