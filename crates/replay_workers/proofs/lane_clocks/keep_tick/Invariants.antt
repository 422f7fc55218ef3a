use Rattle.std.proofs.Common.{◌≡◌}
use Rattle.replay_workers.proofs.Steps.{KeptTo}
use Rattle.replay_workers.proofs.lane_clocks.keep_tick.Given as goal

abbrev pub invariant-slots : goal.invariant-slots
invariant-slots g l = record {
  plan : g.C.ProcClocks.plan l.clocks ≡ g.C.ProcClocks.plan l.fn.clocks;
  made : g.C.ProcClocks.made l.clocks ≡ g.C.ProcClocks.made l.fn.clocks;
  home : g.C.ProcClocks.home l.clocks ≡ g.C.ProcClocks.home l.fn.clocks;
  kept : KeptTo l.fn.kept l.kept l.fn.slots l.tick l.slot (g.C.ProcClocks.plan l.fn.clocks) l.at;
}
