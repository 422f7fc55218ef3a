use Rattle.std.proofs.Common.{ℕ, ◌<◌, [], get_or}
use Rattle.pressure_tests.specs.Machine.{RowGrewWithin}
use Rattle.pressure_tests.proofs.engine.checks.table_grew_within.Given as goal

abbrev pub invariant-slots : goal.invariant-slots
invariant-slots l = (k : ℕ) → k < l.slot → RowGrewWithin l.most l.at (get_or l.before k []) (get_or l.now k [])
