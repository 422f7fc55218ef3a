use Rattle.std.proofs.Common.{rules, ◌∙◌}
use Rattle.clock_row.specs.Row.{sequence}
use Rattle.clock_row.specs.Seats.{writer_on}
use Rattle.clock_row.proofs.Keeps.{get_next, own_keeps}
use Rattle.clock_row.proofs.steps.own_word.Goals as goal

pub load-requires : goal.load-requires
load-requires c = (search rules, search rules, own_keeps _ _ _ _)

pub returns-clause-word : goal.returns-clause-word
returns-clause-word c = let w = writer_on c.args.seat.now in (c.load.ensures.2.1 w c.requires.writer).0 ∙ get_next (sequence w) c.args.place w.body
