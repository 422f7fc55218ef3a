use Rattle.std.proofs.Common.{◌≡◌, ◌-◌, ◌≤◌, ◌++◌, length, drop}
use Rattle.whatif_trace.specs.Left.{rest_left}
use Rattle.whatif_trace.proofs.rest.keep_rest.Given as goal

abbrev pub invariant-events : goal.invariant-events
invariant-events l = record {
  inside : l.at ≤ length l.events;
  kept : l.kept.items ++ rest_left l.dead.keys l.runners.items (drop l.at l.events) ≡ l.fn.kept.items ++ rest_left l.fn.dead.keys l.fn.runners.items l.events;
}

abbrev pub decreases-events : goal.decreases-events
decreases-events l = length l.events - l.at
