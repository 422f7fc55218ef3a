use Rattle.std.proofs.Common.{◌≡◌, ℕ, ◌+◌, ◌^◌, ◌<◌, length, get_or}
use Rattle.pressure_spec.specs.Average.{sample_of}
use Rattle.fixed_average.proofs.averages.samples_of.Given as goal

abbrev pub invariant-each : goal.invariant-each
invariant-each l = record {
  seven : length l.samples ≡ 7;
  each : (k : ℕ) → k < l.i → get_or l.samples k 0 ≡ sample_of l.time (get_or l.sampled k 0) (get_or l.totals k 0);
  fits : (k : ℕ) → k < l.i → get_or l.sampled k 0 + get_or l.samples k 0 < 2 ^ 64;
}
