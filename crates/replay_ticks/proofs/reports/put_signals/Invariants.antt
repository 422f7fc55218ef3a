use Rattle.std.proofs.Common.{take}
use Rattle.std.specs.Prelude.{Ok}
use Rattle.std.specs.Io.KnownBytes.{Appends}
use Rattle.outside.specs.Outside.{HasCause, SameInner}
use Rattle.run_spec.specs.Replay.{signal_lines}
use Rattle.replay_ticks.proofs.reports.put_signals.Given as goal

abbrev pub invariant-fired : goal.invariant-fired
invariant-fired g l = record {
  sent : Appends (g.K.Sink.has l.fn.out) (g.K.Sink.has l.out) (signal_lines l.at l.lives l.triggers (take l.number-index l.fired));
  cause : HasCause {T = Unit {0}} {E = Unit {0}} (g.K.Sink.faults l.fn.out) (g.K.Sink.faults l.out) (Ok tt);
  below : SameInner (g.K.Sink.below l.fn.out) (g.K.Sink.below l.out);
}
