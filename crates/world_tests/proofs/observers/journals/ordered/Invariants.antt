use Rattle.std.proofs.Common.{◌≡◌}
use Rattle.world_tests.proofs.observers.journals.ordered.Given as goal

abbrev pub invariant-entries : goal.invariant-entries
invariant-entries g l = l.share.parts ≡ 1
