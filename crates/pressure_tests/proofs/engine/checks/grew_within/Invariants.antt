use Rattle.std.proofs.Common.{ℕ, ◌+◌, ◌<◌, ◌≤◌, get_or}
use Rattle.pressure_spec.specs.Share.{irq_place}
use Rattle.pressure_tests.proofs.engine.checks.grew_within.Given as goal

abbrev pub invariant-each : goal.invariant-each
invariant-each l = record {
  kept : (k : ℕ) → k < l.i → get_or l.before k 0 ≤ get_or l.now k 0;
  grown : (k : ℕ) → k < l.i → k < irq_place → get_or l.now k 0 ≤ get_or l.before k 0 + l.most;
}
