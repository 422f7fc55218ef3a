use Rattle.std.proofs.Common.{◌≡◌, ℕ, ◌<◌, ◌≤◌, length, get_or}
use Rattle.pressure_spec.specs.Average.{average_after, factors}
use Rattle.fixed_average.proofs.averages.row_after.Given as goal

abbrev pub invariant-each : goal.invariant-each
invariant-each l = record {
  three : length l.after ≡ 3;
  each : (k : ℕ) → k < l.j → get_or l.after k 0 ≡ average_after l.missed l.percent (get_or l.row k 0) (get_or factors k 0);
  most : (k : ℕ) → k < l.j → get_or l.after k 0 ≤ 204800;
}
