use Rattle.std.proofs.Common.{◌≡◌, length, map, drop}
use Rattle.serde_json.specs.View.{view}
use Rattle.ruleset_json.specs.Rules.{each}
use Rattle.ruleset_json.specs.Parts.{part_at}
use Rattle.ruleset_json.proofs.Each.{followed}
use Rattle.ruleset_json.proofs.file.parts.Given as goal

abbrev pub invariant-items : goal.invariant-items
invariant-items l = record {
  read : followed l.found.items (each part_at l.index (drop l.index (map view l.fn.items))) ≡ each part_at 0 (map view l.fn.items);
  count : length l.found.items ≡ l.index;
}
