use Rattle.std.proofs.Common.{rules, ap, ◌∙◌}
use Rattle.clock_row.specs.Steps.{note_of, number_noted}
use Rattle.clock_row.proofs.Keeps.{split_keeps}
use Rattle.clock_row.proofs.steps.note_seen.Goals as goal

pub split_seat-requires : goal.split_seat-requires
split_seat-requires c = (search rules, search rules, (split_keeps _ _).1)

pub returns-clause-note : goal.returns-clause-note
returns-clause-note c = (_, ap (λ m. m.0) c.split_seat.ensures.4 ∙ ap note_of c.requires.reader)

pub returns-clause-number : goal.returns-clause-number
returns-clause-number c = ap number_noted (ap (λ m. m.0) c.split_seat.ensures.4 ∙ ap note_of c.requires.reader)
