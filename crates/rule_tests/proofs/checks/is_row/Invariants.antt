use Rattle.std.proofs.Common.{ℕ, ◌<◌, ◌≤◌, get_or}
use Rattle.rule_tests.proofs.checks.is_row.Given as goal

abbrev pub invariant-averages : goal.invariant-averages
invariant-averages l = (place : ℕ) → place < l.average-index → get_or l.row place 0 ≤ 204800
