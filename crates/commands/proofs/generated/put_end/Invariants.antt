use Rattle.std.proofs.Common.{[], ◌-◌}
use Rattle.psi_spec.specs.Trace.{Trace}
use Rattle.run_spec.specs.Replay.{Timing}
use Rattle.replay_ticks.specs.Replays.{IsReplay}
use Rattle.commands.proofs.GeneratedLaws.{HasPassed}
use Rattle.commands.proofs.generated.put_end.Given as goal

abbrev pub invariant-ticks : goal.invariant-ticks
invariant-ticks g l = (trace : Trace) (timing : Timing) → IsReplay l.fn.replay trace timing [] 0
    → HasPassed l.replay trace timing l.ticked

abbrev pub decreases-ticks : goal.decreases-ticks
decreases-ticks g l = l.replay.run_timing.last - l.replay.made
