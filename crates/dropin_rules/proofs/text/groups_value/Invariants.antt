use Rattle.std.proofs.Common.{◌≡◌, map, take}
use Rattle.std.specs.Prelude.{All}
use Rattle.serde_json.specs.View.{view}
use Rattle.dropin_rules.specs.HasPatterns.{GroupHasPatterns}
use Rattle.dropin_rules.specs.RulesText.{group_data}
use Rattle.dropin_rules.proofs.text.groups_value.Given as goal

abbrev pub invariant-groups : goal.invariant-groups
invariant-groups l = record {
  values : map view l.items.items ≡ map group_data (take l.index l.fn.groups);
  formed : All GroupHasPatterns (take l.index l.fn.groups);
}
