use Rattle.std.proofs.Common.{◌≡◌, ◌≤◌, ◌-◌}
use Rattle.world_tests.proofs.rows.threads.are_plain.Given as goal

abbrev pub invariant-samples : goal.invariant-samples
invariant-samples l = l.clocks.plan ≡ l.plan

abbrev pub invariant-changes : goal.invariant-changes
invariant-changes l = record {
  plan : l.clocks.plan ≡ l.plan;
  within : l.clocks.made ≤ l.sample.count;
}

abbrev pub decreases-changes : goal.decreases-changes
decreases-changes l = l.sample.count - l.clocks.made
