use Rattle.event_lines.proofs.Sent.{page_is, page_refused}
use Rattle.event_lines.proofs.page.put_page.Goals as goal

pub returns-in-Ok-clause-bytes : goal.returns-in-Ok-clause-bytes
returns-in-Ok-clause-bytes g c =
    let read = c.in-Ok.ensures in
    rw (page_is c.args.layout.now c.args.page.now c.in-Ok.header.time c.in-Ok.header.lost c.in-Ok.header.records read.0 read.1 read.2 read.3) c.put_read.ensures.bytes

pub returns-in-Err-clause-bytes : goal.returns-in-Err-clause-bytes
returns-in-Err-clause-bytes g c =
    page_refused (Unit {0}) (g.K.Sink.has c.args.out.now) c.args.cpu c.args.layout.now c.args.page.now c.in-Err.why c.from.result c.in-Err.ensures.0 c.in-Err.ensures.1 c.from.ensures
