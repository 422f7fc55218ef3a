use Rattle.std.proofs.Common.{◌≡◌, All, length, map, drop}
use Rattle.serde_json.specs.View.{view}
use Rattle.ruleset_json.specs.GroupRanges.{FitsGroup}
use Rattle.ruleset_json.specs.Rules.{each, group_at}
use Rattle.ruleset_json.proofs.Each.{followed}
use Rattle.ruleset_json.proofs.file.groups.Given as goal

abbrev pub invariant-items : goal.invariant-items
invariant-items l = record {
  read : followed l.found.items (each (group_at l.fn.rule) l.index (drop l.index (map view l.fn.items))) ≡ each (group_at l.fn.rule) 0 (map view l.fn.items);
  count : length l.found.items ≡ l.index;
  fits : All FitsGroup l.found.items;
}
