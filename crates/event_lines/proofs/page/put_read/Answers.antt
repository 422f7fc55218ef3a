use Rattle.std.proofs.Common.{refl}
use Rattle.page_spec.specs.Items.{after_items, events_of, losses_at}
use Rattle.event_lines.proofs.Sent.{first_failed, puts_after}
use Rattle.event_lines.proofs.page.put_read.Goals as goal

pub returns-in-Ok-clause-bytes : goal.returns-in-Ok-clause-bytes
returns-in-Ok-clause-bytes g c =
    let items = losses_at c.args.header.time c.args.header.lost in
    let rest = events_of c.args.layout.now c.args.header.records in
    puts_after (g.K.Sink.has c.args.out.now) (g.K.Sink.has c.put_losses.new.out) (g.K.Sink.has c.put_events.new.out) c.args.cpu items rest (after_items items rest) c.put_events.result c.in-Ok.ensures.bytes refl c.put_events.ensures.bytes

pub returns-in-Err-clause-bytes : goal.returns-in-Err-clause-bytes
returns-in-Err-clause-bytes g c =
    let items = losses_at c.args.header.time c.args.header.lost in
    let rest = events_of c.args.layout.now c.args.header.records in
    first_failed (Unit {0}) (g.K.Sink.has c.args.out.now) (g.K.Sink.has c.put_losses.new.out) c.args.cpu items rest (after_items items rest) c.from.result refl c.in-Err.ensures.bytes c.from.ensures
