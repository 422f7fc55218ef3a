use Rattle.std.proofs.Common.{◌≡◌, map, take}
use Rattle.std.specs.Prelude.{All}
use Rattle.serde_json.specs.View.{view}
use Rattle.dropin_rules.specs.HasPatterns.{RuleHasPatterns}
use Rattle.dropin_rules.specs.RulesText.{rule_data}
use Rattle.dropin_rules.proofs.text.rulesets_value.Given as goal

abbrev pub invariant-rules : goal.invariant-rules
invariant-rules l = record {
  values : map view l.items.items ≡ map rule_data (take l.index l.fn.rules);
  formed : All RuleHasPatterns (take l.index l.fn.rules);
}
