use Rattle.std.proofs.Common.{rules}
use Rattle.page_spec.specs.Items.{events_of}
use Rattle.page_events.specs.Events.{item_of}
use Rattle.event_lines.proofs.Sent.{one_failed, one_sent}
use Rattle.event_lines.proofs.page.put_events.Goals as goal

pub events-preserved : goal.events-preserved
events-preserved g c = record {
  sent = one_sent (g.K.Sink.has c.args.out.now) (g.K.Sink.has c.events.out) (g.K.Sink.has c.put_event.new.out) c.args.cpu (item_of c.args.layout.now c.in-Ok-Some.event)
      (events_of c.args.layout.now c.events.records) (events_of c.args.layout.now c.next_event.new.records) (events_of c.args.layout.now c.args.records)
      c.events.invariant.sent (rw c.in-Ok-Some.field-0-is at c.in-Ok-Some.ensures.next) c.in-Ok.ensures.bytes;
  same = search rules;
  below = search rules;
}

pub returns-in-Err-put_event-clause-bytes : goal.returns-in-Err-put_event-clause-bytes
returns-in-Err-put_event-clause-bytes g c =
    one_failed (Unit {0}) (g.K.Sink.has c.args.out.now) (g.K.Sink.has c.events.out) (g.K.Sink.has c.put_event.new.out) c.args.cpu (item_of c.args.layout.now c.in-Ok-Some.event)
    (events_of c.args.layout.now c.events.records) (events_of c.args.layout.now c.next_event.new.records) (events_of c.args.layout.now c.args.records) c.from.result
    c.events.invariant.sent (rw c.in-Ok-Some.field-0-is at c.in-Ok-Some.ensures.next) c.in-Err-put_event.ensures.bytes c.from.ensures
