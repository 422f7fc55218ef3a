use Rattle.std.proofs.Common.{◌≡◌, ℕ, ◌<◌, [], get_or}
use Rattle.aggregate.specs.Table.{HaveSameSizes}
use Rattle.pressure_tests.proofs.engine.machine.copy_table.Given as goal

abbrev pub invariant-slots : goal.invariant-slots
invariant-slots l = record {
  sizes : HaveSameSizes l.into l.from;
  copied : (k : ℕ) → k < l.slot → get_or l.into k [] ≡ get_or l.from k [];
}
