use Rattle.std.proofs.Common.{◌≡◌, All, length, map, drop}
use Rattle.serde_json.specs.View.{view}
use Rattle.ruleset_json.specs.RuleRanges.{FitsRule}
use Rattle.ruleset_json.specs.Rules.{each, rule_at}
use Rattle.ruleset_json.proofs.Each.{followed}
use Rattle.ruleset_json.proofs.file.rules.Given as goal

abbrev pub invariant-items : goal.invariant-items
invariant-items l = record {
  read : followed l.found.items (each rule_at l.index (drop l.index (map view l.fn.items))) ≡ each rule_at 0 (map view l.fn.items);
  count : length l.found.items ≡ l.index;
  fits : All FitsRule l.found.items;
}
