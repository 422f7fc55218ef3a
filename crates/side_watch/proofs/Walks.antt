-- Proves properties of the loop from a task's group up to the root, which counts the task in each
-- group.
use Rattle.std.proofs.Common.{◌≡◌, ℕ, ◌<◌, ◌≤◌, List, length, refl, sym, ap, ◌∙◌, subst, arith, Bool, true, false, Option, None, Some, ⊎_elim}
use Rattle.std.specs.Prelude.{slice_index_or, slice_set, ◌==◌, if◌then◌else◌}
use Rattle.std.proofs.lemmas.Bool.Decides.{nat_tests, eqb_tells}
use Rattle.std.proofs.lemmas.List.{get_or-set_same, get_or-set_other, get_or_default, get_or_past, length-map}
use Rattle.std.proofs.lemmas.List.Elements.{All-set}
use Rattle.psi_base.specs.declared.event.Slot.{Slot}
use Rattle.psi_spec.specs.Stall.{is_under, number_of_slot}
use Rattle.psi_spec.specs.LegalGroups.{AreOlder, leads_to}
use Rattle.psi_spec.proofs.GroupLaws.{by_step}
use Rattle.slot_clocks.specs.Clocks.{parent_numbers}
use Rattle.proc_plan.proofs.Upward.{at_itself, not_below, parent_number}
use Rattle.side_watch.specs.declared.cell.SideCell.{SideCell}
use Rattle.side_watch.specs.Sides.{cell_counted, counted, side_cell_in, zero_side_cell}
use Rattle.side_watch.specs.Watch.{AreSmallCells, IsSmallMemory}

-- A loop that is at a slot that doesn't exist counts the task in no group.
pub past_all : (parents : List (Option Slot)) (place at : ℕ) (came : Bool) (cell : SideCell) → AreOlder (parent_numbers parents) → length parents ≤ place → at < length parents → cell_counted (parent_numbers parents) (Some place) came at cell ≡ cell
past_all parents place at came cell older past room =
    let other : (place == at) ≡ false = grind (arith, nat_tests) in
    let len : length (parent_numbers parents) ≡ length parents = length-map parents number_of_slot in
    let none : slice_index_or (parent_numbers parents) place None ≡ None = get_or_past (parent_numbers parents) place None (omega (arith, len, past)) in
    let off : is_under (parent_numbers parents) place at ≡ false = by_step (parent_numbers parents) place at older ∙ rw (other, none) refl in
    ap (λ b. if b then counted came cell else cell) off

-- The loop counts the task in the current group, and continues with the parent.
pub step_up : (parents : List (Option Slot)) (cells : List SideCell) (cell : SideCell) (place at : ℕ) (came : Bool) → AreOlder (parent_numbers parents) → place < length cells → cell ≡ counted came (side_cell_in cells place) →
    cell_counted (parent_numbers parents) (number_of_slot (slice_index_or parents place None)) came at (side_cell_in (slice_set cells place cell) at)
    ≡ cell_counted (parent_numbers parents) (Some place) came at (side_cell_in cells at)
step_up parents cells cell place at came older room is =
    let numbers : List (Option ℕ) = parent_numbers parents in
    let up = parent_number parents place in
    rw up (
    ⊎_elim
    (λ same.
    let at_is : place ≡ at = same.1 in
    let off : leads_to numbers (slice_index_or numbers place None) place ≡ false = not_below numbers place (slice_index_or numbers place None) older refl in
    let on : is_under numbers place place ≡ true = at_itself numbers place in
    subst (λ n. cell_counted numbers (slice_index_or numbers place None) came n (side_cell_in (slice_set cells place cell) n) ≡ cell_counted numbers (Some place) came n (side_cell_in cells n)) at_is
    (rw (off, on, get_or-set_same cells place cell zero_side_cell room) is))
    (λ other.
    let off : (place == at) ≡ false = other.0 in
    let under : is_under numbers place at ≡ leads_to numbers (slice_index_or numbers place None) at = by_step numbers place at older ∙ rw off refl in
    rw (under, get_or-set_other cells place at cell zero_side_cell (λ is. other.1 (sym is))) refl)
    (eqb_tells place at))

-- Counting a task preserves the bounds of all memory samples.
pub small_kept : (cells : List SideCell) (cell : SideCell) (place : ℕ) (came : Bool) → place < length cells → cell ≡ counted came (side_cell_in cells place) → AreSmallCells cells → AreSmallCells (slice_set cells place cell)
small_kept cells cell place came room is small =
    All-set (λ (cell : SideCell). IsSmallMemory cell.memory) cells place cell (subst (λ (c : SideCell). IsSmallMemory c.memory) (sym is) (small place zero_side_cell room)) small

-- The state in an existing slot doesn't depend on the default for missing slots.
pub cell_here : (cells : List SideCell) (slot : ℕ) (other : SideCell) → slot < length cells → slice_index_or cells slot other ≡ side_cell_in cells slot
cell_here cells slot other room = get_or_default cells slot other zero_side_cell room
