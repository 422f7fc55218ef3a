use Rattle.std.proofs.Common.{◌≡◌, ◌≤◌, ◌-◌}
use Rattle.replay_workers.proofs.clocks.make_until.Given as goal

abbrev pub invariant-changes : goal.invariant-changes
invariant-changes g l = record {
  plan : g.C.ProcClocks.plan l.clocks ≡ g.C.ProcClocks.plan l.fn.clocks;
  home : g.C.ProcClocks.home l.clocks ≡ g.C.ProcClocks.home l.fn.clocks;
  within : g.C.ProcClocks.made l.clocks ≤ l.fn.changes;
}

abbrev pub decreases-changes : goal.decreases-changes
decreases-changes g l = l.changes - g.C.ProcClocks.made l.clocks
