use Rattle.std.proofs.Common.{◌+◌, ◌≤◌}
use Rattle.reading_tests.proofs.base.lines.answers.Given as goal

abbrev pub invariant-loop : goal.invariant-loop
invariant-loop g l = l.lines.number ≤ l.counter + 1
