use Rattle.std.proofs.Common.{List, ℕ, ◌<◌, get_or}
use Rattle.pressure_spec.specs.Within.{IsRow}
use Rattle.rule_tests.proofs.checks.are_rows.Given as goal

abbrev pub invariant-rows : goal.invariant-rows
invariant-rows l = (place : ℕ) (d : List ℕ) → place < l.row-index → IsRow (get_or l.rows place d)
