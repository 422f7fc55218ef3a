use Rattle.std.proofs.Common.{◌≡◌, map, take}
use Rattle.std.specs.Prelude.{All}
use Rattle.serde_json.specs.View.{view}
use Rattle.dropin_rules.specs.HasPatterns.{ActionHasPatterns}
use Rattle.dropin_rules.specs.RulesText.{action_data}
use Rattle.dropin_rules.proofs.text.actions_value.Given as goal

abbrev pub invariant-actions : goal.invariant-actions
invariant-actions l = record {
  values : map view l.items.items ≡ map action_data (take l.index l.fn.actions);
  formed : All ActionHasPatterns (take l.index l.fn.actions);
}
