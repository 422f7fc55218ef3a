use Rattle.std.proofs.Common.{◌≡◌, ℕ, ◌+◌, ◌<◌, ◌≤◌, length, get_or}
use Rattle.aggregate.proofs.totals.add_each.Given as goal

abbrev pub invariant-each : goal.invariant-each
invariant-each l = record {
  seven : length l.sums ≡ 7;
  done : (k : ℕ) → k < l.i → get_or l.sums k 0 ≡ get_or l.fn.sums k 0 + get_or l.shares k 0;
  left : (k : ℕ) → l.i ≤ k → get_or l.sums k 0 ≡ get_or l.fn.sums k 0;
}
