use Rattle.std.proofs.Common.{rules, ap, ◌∙◌}
use Rattle.clock_row.specs.Steps.{with_note}
use Rattle.clock_row.proofs.Keeps.{writer_takes_note}
use Rattle.clock_row.proofs.steps.publish_note.Goals as goal

pub join_seat-requires : goal.join_seat-requires
join_seat-requires c = (search rules, search rules, search rules, search rules, writer_takes_note _ _ _ _ _ _ c.requires.writer c.requires.note.1)

pub returns-clause-view : goal.returns-clause-view
returns-clause-view c = ap (λ m. m.0) c.join_seat.ensures.2 ∙ ap (λ v. with_note v c.args.note.me.0) c.requires.writer
