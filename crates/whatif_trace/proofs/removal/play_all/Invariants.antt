use Rattle.std.proofs.Common.{◌≡◌, ◌-◌, ◌≤◌, length, drop}
use Rattle.psi_spec.specs.Refusal.{AreLegal}
use Rattle.psi_spec.specs.World.{after_from}
use Rattle.whatif_trace.specs.Left.{turned_by}
use Rattle.whatif_trace.proofs.removal.play_all.Given as goal

abbrev pub invariant-events : goal.invariant-events
invariant-events l = record {
  inside : l.at ≤ length l.events;
  limits : l.table.limits ≡ l.fn.table.limits;
  legal : AreLegal l.table.limits l.table.world (drop l.at l.events);
  world : after_from l.table.world (drop l.at l.events) ≡ after_from l.fn.table.world l.events;
  runners : turned_by l.runners.items (drop l.at l.events) ≡ turned_by l.fn.runners.items l.events;
}

abbrev pub decreases-events : goal.decreases-events
decreases-events l = length l.events - l.at
