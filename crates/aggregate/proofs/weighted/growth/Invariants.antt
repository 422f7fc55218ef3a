use Rattle.std.proofs.Common.{◌≡◌, ℕ, ◌-◌, ◌<◌, length, get_or}
use Rattle.aggregate.proofs.weighted.growth.Given as goal

abbrev pub invariant-each : goal.invariant-each
invariant-each l = record {
  eight : length l.growth ≡ 8;
  done : (k : ℕ) → k < l.i → get_or l.growth k 0 ≡ get_or l.now k 0 - get_or l.before k 0;
}
