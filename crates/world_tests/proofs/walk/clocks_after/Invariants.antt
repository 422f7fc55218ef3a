use Rattle.std.proofs.Common.{◌≡◌, ◌-◌, ◌≤◌}
use Rattle.world_tests.proofs.walk.clocks_after.Given as goal

-- the clocks stay on their plan
abbrev pub invariant-changes : goal.invariant-changes
invariant-changes l = record {
  plan : l.clocks.plan ≡ l.plan;
  made : l.clocks.made ≤ l.changes;
}

abbrev pub decreases-changes : goal.decreases-changes
decreases-changes l = l.changes - l.clocks.made
