use Rattle.std.proofs.Common.{rules}
use Rattle.observer_log.proofs.BoardSteps.{is_driver, publishes}
use Rattle.observer_log.proofs.board.Board.publish.Goals as goal

pub swap_as-requires : goal.swap_as-requires
swap_as-requires g c = (search rules, (search rules, (search rules, publishes _ _ _ _ c.pass.invariant (search rules))))

pub invariant_of-pass : goal.invariant_of-pass
invariant_of-pass g c = is_driver _ _ (c.swap_as.ensures.rule _ c.pass.invariant)
