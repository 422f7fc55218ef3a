use Rattle.std.proofs.Common.{◌≡◌, drop, length}
use Rattle.std.specs.Prelude.{None, replicate}
use Rattle.victim_rank.proofs.Tables.{taken, with_scan}
use Rattle.victim_rank.proofs.past.take_scans.Given as goal

abbrev pub invariant-groups : goal.invariant-groups
invariant-groups l =
    taken with_scan None l.scans (drop l.group-index l.group-items) ≡ taken with_scan None
    (replicate (length l.fn.scans) None) l.group-items
