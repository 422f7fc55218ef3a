use Rattle.std.specs.Prelude.{Ok}
use Rattle.std.specs.Io.KnownBytes.{Appends}
use Rattle.outside.specs.Outside.{HasCause, SameInner}
use Rattle.replay_ticks.specs.Replays.{watches_text}
use Rattle.replay_ticks.proofs.live.put_live.Given as goal

abbrev pub invariant-cpus : goal.invariant-cpus
invariant-cpus g l = record {
  sent : Appends (g.K.Sink.has l.fn.out) (g.K.Sink.has l.out) (watches_text l.at l.cpu l.crew.watches);
  cause : HasCause {T = Unit {0}} {E = Unit {0}} (g.K.Sink.faults l.fn.out) (g.K.Sink.faults l.out) (Ok tt);
  below : SameInner (g.K.Sink.below l.fn.out) (g.K.Sink.below l.out);
}
