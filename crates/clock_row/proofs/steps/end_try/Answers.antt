use Rattle.std.proofs.Common.{rules}
use Rattle.clock_row.proofs.Keeps.{end_keeps}
use Rattle.clock_row.proofs.steps.end_try.Goals as goal

pub load-requires : goal.load-requires
load-requires c = (search rules, search rules, end_keeps _ _ c.args.first _ _ _ c.requires.reader c.requires.trying)

pub returns-clause-view : goal.returns-clause-view
returns-clause-view c = (c.load.ensures.2 _ c.args.first _ c.requires.reader c.requires.trying).0

pub returns-clause-later : goal.returns-clause-later
returns-clause-later c = (c.load.ensures.2 _ c.args.first _ c.requires.reader c.requires.trying).1

pub returns-clause-together : goal.returns-clause-together
returns-clause-together c = (c.load.ensures.2 _ c.args.first _ c.requires.reader c.requires.trying).2
