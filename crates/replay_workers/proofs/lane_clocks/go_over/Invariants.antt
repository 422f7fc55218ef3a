use Rattle.std.proofs.Common.{◌≡◌, ◌≤◌, ◌<◌, ◌-◌, length}
use Rattle.plan_laws.specs.Plan.{changes_up_to, last_change}
use Rattle.replay_workers.specs.Crew.{moment_in}
use Rattle.replay_workers.specs.Lanes.{KeepsTicks}
use Rattle.replay_workers.proofs.lane_clocks.go_over.Given as goal

abbrev pub invariant-ticks : goal.invariant-ticks
invariant-ticks g l = record {
  plan : g.C.ProcClocks.plan l.clocks ≡ l.plan;
  home : g.C.ProcClocks.home l.clocks ≡ g.C.ProcClocks.home l.fn.clocks;
  not_past : g.C.ProcClocks.made l.clocks ≤ changes_up_to l.plan (moment_in l.ticks l.tick);
  there : 0 < l.tick → g.C.ProcClocks.made l.clocks ≡ changes_up_to l.plan (moment_in l.ticks (l.tick - 1));
  past : 0 < l.tick → last_change l.plan (changes_up_to l.plan (moment_in l.ticks (l.tick - 1))) ≤ moment_in l.ticks (l.tick - 1);
  size : length l.kept ≡ length l.fn.kept;
  keeps : KeepsTicks l.kept l.plan l.ticks l.tick;
}
