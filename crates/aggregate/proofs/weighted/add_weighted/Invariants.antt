use Rattle.std.proofs.Common.{◌≡◌, ℕ, ◌+◌, ◌*◌, ◌<◌, ◌≤◌, get_or}
use Rattle.pressure_spec.specs.Share.{pressure_places}
use Rattle.aggregate.proofs.weighted.add_weighted.Given as goal

abbrev pub invariant-each : goal.invariant-each
invariant-each l = record {
  done : (k : ℕ) → k < l.i → get_or l.sums k 0 ≡ get_or l.fn.sums k 0 + get_or l.times (get_or pressure_places k 0) 0 * l.weight;
  left : (k : ℕ) → l.i ≤ k → get_or l.sums k 0 ≡ get_or l.fn.sums k 0;
}
