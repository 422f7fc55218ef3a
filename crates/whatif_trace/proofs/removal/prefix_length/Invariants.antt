use Rattle.std.proofs.Common.{◌≡◌, ◌+◌, ◌-◌, ◌≤◌, length, drop}
use Rattle.whatif_trace.specs.Left.{prefix_length}
use Rattle.whatif_trace.proofs.removal.prefix_length.Given as goal

abbrev pub invariant-events : goal.invariant-events
invariant-events l = record {
  inside : l.count ≤ length l.events;
  rest : prefix_length l.at (drop l.count l.events) + l.count ≡ prefix_length l.at l.events;
}

abbrev pub decreases-events : goal.decreases-events
decreases-events l = length l.events - l.count
