use Rattle.std.proofs.Common.{rules}
use Rattle.clock_row.proofs.Keeps.{own_keeps}
use Rattle.clock_row.proofs.steps.own_number.Goals as goal

pub load-requires : goal.load-requires
load-requires c = (search rules, search rules, own_keeps _ _ _ _)

pub returns-clause-known : goal.returns-clause-known
returns-clause-known c = (c.load.ensures.2.1 _ c.requires.writer).1
