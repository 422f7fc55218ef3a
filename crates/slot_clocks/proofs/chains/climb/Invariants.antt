use Rattle.std.proofs.Common.{◌≡◌, ℕ, ◌≤◌, length, true}
use Rattle.slot_clocks.specs.Clocks.{cell_in, parent_numbers}
use Rattle.slot_clocks.specs.Walk.{AreTogether, top}
use Rattle.slot_clocks.proofs.WalkLaws.{IsWalked}
use Rattle.slot_clocks.proofs.chains.climb.Given as goal

-- The chains are at existing slots, and are still at one height if they were at first. The change
-- was applied to each group, or the walk hasn't visited the group yet.
abbrev pub invariant-up : goal.invariant-up
invariant-up l = record {
  slots : top l.chains ≤ length l.parents;
  together : l.together ≡ true → AreTogether l.chains;
  room : length l.cells ≡ length l.fn.cells;
  groups : (slot : ℕ) → IsWalked (parent_numbers l.parents) l.change l.fn.starts l.chains slot (cell_in l.fn.cells slot) (cell_in l.cells slot);
}

abbrev pub decreases-up : goal.decreases-up
decreases-up l = top l.chains
