use Rattle.std.proofs.Common.{◌≡◌, ◌≤◌, [], length, drop}
use Rattle.std.specs.Prelude.{filter}
use Rattle.observer_log.specs.Entries.{is_of}
use Rattle.observer_log.proofs.journal.last_count.Given as goal

abbrev pub invariant-back : goal.invariant-back
invariant-back l = (l.left ≤ length l.fn.entries) × (filter (is_of l.fn.observer l.fn.cpu.0) (drop l.left l.fn.entries) ≡ [])

abbrev pub decreases-back : goal.decreases-back
decreases-back l = l.left
