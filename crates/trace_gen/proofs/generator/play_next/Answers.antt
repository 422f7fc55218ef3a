use Rattle.trace_gen.proofs.Drawing.{generator_on, never_refused, next_from}
use Rattle.trace_gen.proofs.generator.play_next.Goals as goal

pub unreachable-requires : goal.unreachable-requires
unreachable-requires c =
    never_refused c.args.shape c.args.table.now c.args.left.now c.requires.some c.requires.so c.args.draws.now c.next_event-event.result c.next_event-event.ensures.event c.in-Err.field-0 c.in-Err.ensures.fault

pub returns-clause-so : goal.returns-clause-so
returns-clause-so c =
    generator_on c.args.shape c.args.table.now c.play.new.self c.args.left.now c.requires.some c.requires.so c.args.draws.now c.next_event-event.result c.next_event-event.ensures.event c.in-Ok.ensures

pub returns-clause-event : goal.returns-clause-event
returns-clause-event c =
    next_from c.args.shape c.args.left.now c.requires.some c.args.table.now.world c.play.new.self.world c.args.draws.now c.next_event-event.new.draws c.next_event-event.result c.next_event-event.ensures.event c.next_event-event.ensures.state c.in-Ok.ensures.world
