use Rattle.std.proofs.Common.{arith}
use Rattle.world_tests.proofs.Sums.{all_older}
use Rattle.world_tests.proofs.processor.are_older.Goals as goal

pub returns : goal.returns
returns c = λ _. all_older c.args.parents.now (λ k below. c.slots.invariant k (omega (arith, below, c.slots-test.false)))
