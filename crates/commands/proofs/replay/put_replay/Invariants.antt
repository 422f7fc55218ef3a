use Rattle.std.proofs.Common.{List, ◌-◌}
use Rattle.std.specs.Prelude.{Ok}
use Rattle.outside.specs.Outside.{HasCause, SameInner}
use Rattle.psi_spec.specs.Trace.{Trace}
use Rattle.ruleset_json.specs.declared.types.Rule.{Rule}
use Rattle.run_spec.specs.Replay.{Timing}
use Rattle.replay_ticks.specs.Replays.{IsReplay}
use Rattle.commands.proofs.ReplayLaws.{TickedTo}
use Rattle.commands.proofs.replay.put_replay.Given as goal

abbrev pub invariant-ticks : goal.invariant-ticks
invariant-ticks g l = record {
  so_far : (trace : Trace) (timing : Timing) (rules : List Rule) → IsReplay l.fn.replay trace timing rules 0 → TickedTo l.replay trace timing rules (g.K.Sink.has l.fn.out) (g.K.Sink.has l.out);
  cause : HasCause {T = Unit {0}} {E = Unit {0}} (g.K.Sink.faults l.fn.out) (g.K.Sink.faults l.out) (Ok tt);
  below : SameInner (g.K.Sink.below l.fn.out) (g.K.Sink.below l.out);
}

abbrev pub decreases-ticks : goal.decreases-ticks
decreases-ticks g l = l.replay.run_timing.last - l.replay.made
