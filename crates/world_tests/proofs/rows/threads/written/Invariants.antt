use Rattle.std.proofs.Common.{◌≡◌, ◌≤◌, ◌-◌}
use Rattle.world_tests.proofs.rows.threads.written.Given as goal

abbrev pub invariant-changes : goal.invariant-changes
invariant-changes l = record {
  plan : l.writer.knows.plan ≡ l.fn.writer.knows.plan;
  within : l.writer.knows.count ≤ l.changes;
}

abbrev pub decreases-changes : goal.decreases-changes
decreases-changes l = l.changes - l.writer.knows.count
