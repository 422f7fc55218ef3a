use Rattle.std.proofs.Common.{rules}
use Rattle.observer_log.proofs.BoardSteps.{reads}
use Rattle.observer_log.proofs.board.Board.read.Goals as goal

pub load_as-requires : goal.load_as-requires
load_as-requires g c = (search rules, (search rules, (search rules, reads _ _ _ c.pass.invariant)))
