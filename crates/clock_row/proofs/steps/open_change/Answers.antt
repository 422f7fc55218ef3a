use Rattle.std.proofs.Common.{arith, rules}
use Rattle.clock_row.proofs.Keeps.{open_keeps}
use Rattle.clock_row.proofs.steps.open_change.Goals as goal

pub store-requires : goal.store-requires
store-requires c = (search rules, search rules, open_keeps _ _ _ _ _ c.requires.writer (omega (arith, c.requires.count)) c.requires.still)
