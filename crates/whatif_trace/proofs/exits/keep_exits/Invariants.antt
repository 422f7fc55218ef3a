use Rattle.std.proofs.Common.{◌≡◌, ◌-◌, ◌≤◌, ◌++◌, length, drop}
use Rattle.whatif_trace.specs.Left.{exits_left}
use Rattle.whatif_trace.proofs.exits.keep_exits.Given as goal

abbrev pub invariant-pids : goal.invariant-pids
invariant-pids l = record {
  inside : l.next ≤ length l.pids;
  kept : l.kept.items ++ exits_left l.at l.table.world.tasks l.runners.items (drop l.next l.pids) ≡ l.fn.kept.items ++ exits_left l.at l.table.world.tasks l.fn.runners.items l.pids;
}

abbrev pub decreases-pids : goal.decreases-pids
decreases-pids l = length l.pids - l.next
