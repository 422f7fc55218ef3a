use Rattle.std.proofs.Common.{◌≡◌, ◌-◌, ◌≤◌, ◌++◌, length, drop}
use Rattle.whatif_trace.proofs.copies.keep_copies.Given as goal

abbrev pub invariant-events : goal.invariant-events
invariant-events l = record {
  inside : l.at ≤ length l.events;
  kept : l.kept.items ++ drop l.at l.events ≡ l.fn.kept.items ++ l.events;
}

abbrev pub decreases-events : goal.decreases-events
decreases-events l = length l.events - l.at
