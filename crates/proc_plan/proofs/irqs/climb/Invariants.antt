use Rattle.std.proofs.Common.{◌≡◌, ℕ, ◌+◌, ◌≤◌, ◌<◌, length}
use Rattle.std.specs.Prelude.{◌&&◌, if◌then◌else◌}
use Rattle.psi_spec.specs.LegalGroups.{leads_to}
use Rattle.psi_spec.specs.Stall.{number_of_slot}
use Rattle.slot_clocks.specs.Clocks.{cell_at, parent_numbers}
use Rattle.slot_clocks.specs.Walk.{height}
use Rattle.proc_plan.specs.Clocks.{irq_at, irq_taken}
use Rattle.proc_plan.proofs.irqs.climb.Given as goal

-- Adding the time from the current slot of the walk up gives each group the same total as adding it
-- from the running task's group up.
abbrev pub invariant-up : goal.invariant-up
invariant-up l = record {
  room : length l.times ≡ length l.fn.times;
  below : height l.next ≤ length l.parents;
  grown : (at : ℕ) → at < length l.fn.times →
      irq_at l.times at + (if (cell_at l.clocks at).on && leads_to (parent_numbers l.parents) (number_of_slot l.next) at then l.irq else 0)
      ≡ irq_at l.fn.times at + irq_taken (parent_numbers l.parents) l.clocks l.fn.current l.irq at;
}

abbrev pub decreases-up : goal.decreases-up
decreases-up l = height l.next
