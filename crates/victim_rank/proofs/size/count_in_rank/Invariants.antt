use Rattle.std.proofs.Common.{◌≡◌, ◌≤◌, ◌+◌, drop, length}
use Rattle.std.specs.Prelude.{filter}
use Rattle.victim_rank.specs.Scopes.{is_in_rank}
use Rattle.detectors.specs.Inner.{groups_at}
use Rattle.victim_rank.proofs.size.count_in_rank.Given as goal

abbrev pub invariant-groups : goal.invariant-groups
invariant-groups l = record {
  count : l.count + length (filter (is_in_rank l.scope l.best_rank)
      (groups_at l.reading.seen.groups (drop l.place-index l.place-items))) ≡ length
      (filter (is_in_rank l.scope l.best_rank) (groups_at l.reading.seen.groups l.place-items));
  few : l.count ≤ l.place-index;
}
