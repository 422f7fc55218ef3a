use Rattle.std.proofs.Common.{◌≡◌}
use Rattle.world_tests.proofs.rows.threads.sampled.Given as goal

abbrev pub invariant-tries : goal.invariant-tries
invariant-tries l = l.reader.knows.plan ≡ l.fn.reader.knows.plan
