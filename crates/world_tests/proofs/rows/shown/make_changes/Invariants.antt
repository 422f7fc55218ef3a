use Rattle.std.proofs.Common.{◌≡◌, ◌≤◌, ◌-◌}
use Rattle.world_tests.proofs.rows.shown.make_changes.Given as goal

abbrev pub invariant-changes : goal.invariant-changes
invariant-changes l = record {
  row : l.writer.row ≡ l.fn.writer.row;
  plan : l.writer.knows.plan ≡ l.fn.writer.knows.plan;
  within : l.writer.knows.count ≤ l.fn.changes;
}

abbrev pub decreases-changes : goal.decreases-changes
decreases-changes l = l.fn.changes - l.writer.knows.count
