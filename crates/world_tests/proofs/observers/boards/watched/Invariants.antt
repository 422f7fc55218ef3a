use Rattle.std.proofs.Common.{◌≡◌}
use Rattle.world_tests.proofs.observers.boards.watched.Given as goal

abbrev pub invariant-reads : goal.invariant-reads
invariant-reads g l = l.pass.board ≡ l.fn.board
