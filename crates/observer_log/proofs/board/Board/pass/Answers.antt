use Rattle.std.proofs.Common.{rules}
use Rattle.observer_log.proofs.BoardSteps.{admits}
use Rattle.observer_log.proofs.board.Board.pass.Goals as goal

pub split_pass-requires : goal.split_pass-requires
split_pass-requires g c = (search rules, (search rules, (search rules, admits _ _)))
