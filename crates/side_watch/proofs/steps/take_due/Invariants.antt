use Rattle.std.proofs.Common.{◌≡◌, ℕ, ◌+◌, ◌-◌, ◌<◌, length, drop}
use Rattle.slot_clocks.specs.Clocks.{parent_numbers}
use Rattle.kill_spec.specs.LegalReadings.{IsHostReading}
use Rattle.side_watch.specs.Sides.{cell_by, due_by, host_by, side_cell_in}
use Rattle.side_watch.specs.Watch.{AreSmallCells}
use Rattle.side_watch.proofs.steps.take_due.Given as goal

-- The loop invariant: taking the remaining due side events leads each group and the host to the
-- state after all due side events.
abbrev pub invariant-sides : goal.invariant-sides
invariant-sides l = record {
  each : length l.cells ≡ length l.fn.cells;
  small : AreSmallCells l.cells;
  host : IsHostReading l.host;
  cells : (slot : ℕ) → slot < length l.fn.cells → cell_by (parent_numbers l.parents) slot (side_cell_in l.cells slot) (due_by l.at (drop l.taken l.sides)) ≡ cell_by (parent_numbers l.parents) slot (side_cell_in l.fn.cells slot) (due_by l.at (drop l.fn.from l.sides));
  hosts : host_by l.host (due_by l.at (drop l.taken l.sides)) ≡ host_by l.fn.host (due_by l.at (drop l.fn.from l.sides));
  taken : l.taken + length (due_by l.at (drop l.taken l.sides)) ≡ l.fn.from + length (due_by l.at (drop l.fn.from l.sides));
}

abbrev pub decreases-sides : goal.decreases-sides
decreases-sides l = length l.sides - l.taken
