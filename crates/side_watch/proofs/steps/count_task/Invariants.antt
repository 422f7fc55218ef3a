use Rattle.std.proofs.Common.{◌≡◌, ℕ, ◌<◌, length}
use Rattle.std.specs.Prelude.{Some}
use Rattle.psi_spec.specs.Stall.{number_of_slot}
use Rattle.slot_clocks.specs.Clocks.{parent_numbers}
use Rattle.slot_clocks.specs.Walk.{height}
use Rattle.side_watch.specs.Sides.{cell_counted, side_cell_in}
use Rattle.side_watch.specs.Watch.{AreSmallCells}
use Rattle.side_watch.proofs.steps.count_task.Given as goal

-- The loop invariant: counting the task from the current group upwards completes the count that
-- began at the task's own group.
abbrev pub invariant-up : goal.invariant-up
invariant-up l = record {
  each : length l.cells ≡ length l.fn.cells;
  small : AreSmallCells l.cells;
  counted : (at : ℕ) → at < length l.fn.cells → cell_counted (parent_numbers l.parents) (number_of_slot l.next) l.came at (side_cell_in l.cells at) ≡ cell_counted (parent_numbers l.parents) (Some l.fn.slot.0) l.came at (side_cell_in l.fn.cells at);
}

abbrev pub decreases-up : goal.decreases-up
decreases-up l = height l.next
