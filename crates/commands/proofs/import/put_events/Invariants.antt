use Rattle.std.proofs.Common.{◌≤◌, length}
use Rattle.std.specs.Prelude.{Ok, vec_capacity}
use Rattle.outside.specs.Outside.{HasCause, SameInner}
use Rattle.psi_spec.specs.Trace.{AllFit}
use Rattle.trace_gen.proofs.Sending.{AreSent}
use Rattle.commands.proofs.import.put_events.Given as goal

abbrev pub invariant-events : goal.invariant-events
invariant-events g l = record {
  fit : AllFit l.events.left;
  room : 513 ≤ vec_capacity l.line;
  sent : AreSent (g.K.Sink.has l.fn.out) (g.K.Sink.has l.out) l.events.left l.fn.events.left;
  cause : HasCause {T = Unit {0}} {E = Unit {0}} (g.K.Sink.faults l.fn.out) (g.K.Sink.faults l.out) (Ok tt);
  below : SameInner (g.K.Sink.below l.fn.out) (g.K.Sink.below l.out);
}

abbrev pub decreases-events : goal.decreases-events
decreases-events g l = length l.events.left
