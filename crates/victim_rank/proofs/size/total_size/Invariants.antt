use Rattle.std.proofs.Common.{◌≡◌, ◌≤◌, ◌+◌, ◌*◌, ◌^◌, drop}
use Rattle.std.specs.Prelude.{filter}
use Rattle.kill_spec.specs.Victims.{total_size}
use Rattle.victim_rank.specs.Scopes.{is_in_view}
use Rattle.detectors.specs.Inner.{groups_at}
use Rattle.victim_rank.proofs.size.total_size.Given as goal

abbrev pub invariant-groups : goal.invariant-groups
invariant-groups l = record {
  sum : l.total + total_size (filter (is_in_view l.scope) (groups_at l.reading.seen.groups (drop l.place-index l.place-items))) ≡
      total_size (filter (is_in_view l.scope) (groups_at l.reading.seen.groups l.place-items));
  fits : l.total ≤ l.place-index * 2 ^ 60;
}
