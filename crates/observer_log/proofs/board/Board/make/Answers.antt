use Rattle.std.proofs.Common.{rules}
use Rattle.observer_log.proofs.BoardSteps.{begins}
use Rattle.observer_log.proofs.board.Board.make.Goals as goal

pub ruled-requires : goal.ruled-requires
ruled-requires c = (search rules, (search rules, begins))
