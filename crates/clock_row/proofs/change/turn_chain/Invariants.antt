use Rattle.std.proofs.Common.{◌≡◌, ℕ, ◌+◌, ◌<◌, ◌⊎◌, length, true}
use Rattle.std.specs.Prelude.{IfSome}
use Rattle.psi_spec.specs.LegalGroups.{leads_to}
use Rattle.psi_spec.specs.Stall.{number_of_slot}
use Rattle.slot_clocks.specs.Walk.{height}
use Rattle.clock_row.specs.Seats.{writer_on}
use Rattle.clock_row.specs.Turning.{HasTurned, IsDone, IsTurning}
use Rattle.clock_row.proofs.change.turn_chain.Given as goal

-- Each slot of the chain is updated, or is on the rest of the chain.
abbrev pub invariant-up : goal.invariant-up
invariant-up l = record {
  turning : IsTurning l.board.shared.table_id l.seat;
  turned : HasTurned l.fn.seat l.seat;
  plan : l.plan ≡ (writer_on l.seat).plan;
  clocks : l.clocks ≡ record { plan = (writer_on l.seat).plan; made = (writer_on l.seat).count + 1 };
  kept : l.clocks ≡ l.fn.clocks;
  below : IfSome l.next (λ slot. slot.0 < length l.plan.parents);
  done : (slot : ℕ) → slot < length l.plan.parents → leads_to l.plan.parents (number_of_slot l.fn.start) slot ≡ true → IsDone l.seat slot ⊎ (leads_to l.plan.parents (number_of_slot l.next) slot ≡ true);
}

abbrev pub decreases-up : goal.decreases-up
decreases-up l = height l.next
