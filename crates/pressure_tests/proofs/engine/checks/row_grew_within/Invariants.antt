use Rattle.std.proofs.Common.{ℕ, ◌<◌, [], get_or}
use Rattle.pressure_tests.specs.Machine.{GrewWithin}
use Rattle.pressure_tests.proofs.engine.checks.row_grew_within.Given as goal

abbrev pub invariant-cpus : goal.invariant-cpus
invariant-cpus l = (k : ℕ) → k < l.cpu → GrewWithin l.most l.at (get_or l.before k []) (get_or l.now k [])
