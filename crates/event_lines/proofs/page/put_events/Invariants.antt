use Rattle.std.proofs.Common.{◌≡◌, length}
use Rattle.outside.specs.Outside.{SameInner}
use Rattle.page_spec.specs.Items.{events_of}
use Rattle.event_lines.proofs.Sent.{AreSent}
use Rattle.event_lines.proofs.page.put_events.Given as goal

abbrev pub invariant-events : goal.invariant-events
invariant-events g l = record {
  sent : AreSent (g.K.Sink.has l.fn.out) (g.K.Sink.has l.out) l.cpu (events_of l.layout l.records) (events_of l.layout l.fn.records);
  same : g.K.Sink.faults l.out ≡ g.K.Sink.faults l.fn.out;
  below : SameInner (g.K.Sink.below l.fn.out) (g.K.Sink.below l.out);
}

abbrev pub decreases-events : goal.decreases-events
decreases-events g l = length l.records
