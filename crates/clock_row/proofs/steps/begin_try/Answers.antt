use Rattle.std.proofs.Common.{rules}
use Rattle.clock_row.proofs.Keeps.{begin_keeps}
use Rattle.clock_row.proofs.steps.begin_try.Goals as goal

pub load-requires : goal.load-requires
load-requires c = (search rules, search rules, begin_keeps _ _ _ _ c.requires.reader)

pub returns-clause-view : goal.returns-clause-view
returns-clause-view c = (c.load.ensures.2 _ c.requires.reader).0

pub returns-clause-seen : goal.returns-clause-seen
returns-clause-seen c = (c.load.ensures.2 _ c.requires.reader).1
