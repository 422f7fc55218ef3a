use Rattle.std.proofs.Common.{◌≡◌, ℕ, ◌<◌, ◌≤◌, [], length, get_or}
use Rattle.pressure_spec.specs.Average.{row_after}
use Rattle.pressure_spec.specs.Within.{IsRow}
use Rattle.fixed_average.proofs.averages.update_rows.Given as goal

abbrev pub invariant-each : goal.invariant-each
invariant-each l = record {
  seven : length l.rows ≡ 7;
  done : (k : ℕ) → k < l.i → get_or l.rows k [] ≡ row_after l.missed l.time (get_or l.fn.rows k []) (get_or l.samples k 0);
  left : (k : ℕ) → l.i ≤ k → get_or l.rows k [] ≡ get_or l.fn.rows k [];
  rows : (k : ℕ) → k < l.i → IsRow (get_or l.rows k []);
}
