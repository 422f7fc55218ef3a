use Rattle.std.proofs.Common.{◌≡◌, ℕ, ◌+◌, ◌<◌, ◌≤◌, length, get_or}
use Rattle.fixed_average.proofs.averages.add_samples.Given as goal

abbrev pub invariant-each : goal.invariant-each
invariant-each l = record {
  seven : length l.sampled ≡ 7;
  done : (k : ℕ) → k < l.i → get_or l.sampled k 0 ≡ get_or l.fn.sampled k 0 + get_or l.samples k 0;
  left : (k : ℕ) → l.i ≤ k → get_or l.sampled k 0 ≡ get_or l.fn.sampled k 0;
}
