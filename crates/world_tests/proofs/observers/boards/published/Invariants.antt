use Rattle.std.proofs.Common.{◌≡◌, ◌+◌, length}
use Rattle.world_tests.proofs.observers.boards.published.Given as goal

abbrev pub invariant-ticks : goal.invariant-ticks
invariant-ticks g l = (l.driver.board ≡ l.fn.board) × (length l.driver.states ≡ l.before + 1)
