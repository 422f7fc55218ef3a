use Rattle.std.proofs.Common.{rules, ap, ◌∙◌}
use Rattle.clock_row.specs.Steps.{reader_of}
use Rattle.clock_row.proofs.Keeps.{split_keeps}
use Rattle.clock_row.proofs.steps.split_reader.Goals as goal

pub split_seat-requires : goal.split_seat-requires
split_seat-requires c = (search rules, search rules, (split_keeps _ _).0)

pub returns-clause-reader : goal.returns-clause-reader
returns-clause-reader c = ap (λ m. m.0) c.split_seat.ensures.4 ∙ ap reader_of c.requires.writer
