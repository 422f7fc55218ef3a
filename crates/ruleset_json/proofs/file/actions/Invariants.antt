use Rattle.std.proofs.Common.{◌≡◌, All, length, map, drop}
use Rattle.serde_json.specs.View.{view}
use Rattle.ruleset_json.specs.declared.fault.Place.TheVariants as place
use Rattle.ruleset_json.specs.Ranges.{FitsAction}
use Rattle.ruleset_json.specs.Rules.{each, action_in}
use Rattle.ruleset_json.proofs.Each.{followed}
use Rattle.ruleset_json.proofs.file.actions.Given as goal

abbrev pub invariant-items : goal.invariant-items
invariant-items l = record {
  read : followed l.found.items (each (λ k. action_in l.fn.delay_s (place.Action l.fn.rule k)) l.index (drop l.index (map view l.fn.items))) ≡ each (λ k. action_in l.fn.delay_s (place.Action l.fn.rule k)) 0 (map view l.fn.items);
  count : length l.found.items ≡ l.index;
  fits : All FitsAction l.found.items;
}
