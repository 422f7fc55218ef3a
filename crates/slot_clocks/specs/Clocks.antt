-- Defines the clocks of all groups on one processor, and how the clocks follow from the changes of
-- the processor.
use Rattle.std.specs.Prelude.{◌≡◌, ℕ, ◌+◌, ◌≤◌, ◌<◌, ◌^◌, List, map, replicate, slice_index_or, ◌&&◌, Bool, true, Option, None}
use Rattle.psi_base.specs.declared.event.Slot.{Slot}
use Rattle.psi_base.specs.declared.event.State.{State}
use Rattle.psi_counts.specs.declared.changes.Counts.{Counts}
use Rattle.psi_counts.specs.declared.changes.Change.{Change}
use Rattle.psi_counts.specs.Counts.{mask_holds, shows}
use Rattle.psi_counts.specs.Clock.{ClockFollows, ClockView, IsWholeClock, opened_time, zero_clock}
use Rattle.psi_spec.specs.Within.{last_moment}
use Rattle.psi_spec.specs.Stall.{number_of_slot}
use Rattle.psi_counts.specs.Touch.{Follows, on_with, is_current_in, is_current_stalled, no_counts, on_chain}
use Rattle.slot_clocks.specs.declared.cell.Cell.{Cell}

-- ---- parents of slots

-- Returns the number of each slot's parent, or `None` for the root.
abbrev pub parent_numbers : List (Option Slot) → List (Option ℕ)
parent_numbers parents = map number_of_slot parents

-- ---- the clocks of a processor

-- The state of a group before the first change: all counts are zero, pressure accounting is on, and
-- the group has been in no state.
abbrev pub zero_cell : Cell
zero_cell = record { counts = no_counts; on = true; clock = zero_clock }

-- The clocks of a processor: the cell of each slot, the running task (its slot and whether it is in
-- a memory stall), and the time (ns) of the last change. A cell has a group's counts, its clock,
-- and whether its accounting is on. A slot past the end of the list has the cell of a group before
-- its first change.
pub record ClocksView : Type 0 where
  pub cells : List Cell
  pub current : Option (Slot × Bool)
  pub last : ℕ

-- The clocks of `slots` slots before the first change.
abbrev pub first_clocks : ℕ → ClocksView
first_clocks slots = record { cells = replicate slots zero_cell; current = None; last = 0 }

-- `cell_in cells slot`: the cell (counts, clock and accounting) of the slot. A slot past the end of
-- the list has the cell of a group before its first change.
abbrev pub cell_in : List Cell → ℕ → Cell
cell_in cells slot = slice_index_or cells slot zero_cell

-- `cell_at clocks slot`: the counts, the clock and the accounting of the slot.
abbrev pub cell_at : ClocksView → ℕ → Cell
cell_at clocks slot = cell_in clocks.cells slot

-- `MaskShows parents current slot cell`: the mask of the cell contains exactly the states that
-- follow from its counts and the running task. The mask is empty if the group's accounting is off.
abbrev pub MaskShows : List (Option ℕ) → Option (Slot × Bool) → ℕ → Cell → Type 0
MaskShows parents current slot cell =
    (state : State) → mask_holds cell.clock.mask state ≡
    (cell.on && shows state cell.counts (is_current_in parents slot current) (is_current_stalled current))

-- `AreReported parents clocks`: the mask of each slot contains the group's states (`MaskShows`).
abbrev pub AreReported : List (Option ℕ) → ClocksView → Type 0
AreReported parents clocks = (slot : ℕ) → MaskShows parents clocks.current slot (cell_at clocks slot)

-- ---- the effect of a change

-- `CanFollow counts minus plus`: the sums of the counts and `plus` fit in 32 bits, and subtracting
-- `minus` from them gives no negative count.
pub record CanFollow (counts minus plus : Counts) : Type 0 where
  pub io : (minus.io ≤ counts.io + plus.io) × (counts.io + plus.io < 2 ^ 32)
  pub stalled : (minus.stalled ≤ counts.stalled + plus.stalled) × (counts.stalled + plus.stalled < 2 ^ 32)
  pub running : (minus.running ≤ counts.running + plus.running) × (counts.running + plus.running < 2 ^ 32)
  pub stalled_running : (minus.stalled_running ≤ counts.stalled_running + plus.stalled_running)
      × (counts.stalled_running + plus.stalled_running < 2 ^ 32)

-- `AllCanFollow parents change clocks`: `CanFollow` holds for each group whose counts the change
-- adds to or subtracts from.
abbrev pub AllCanFollow : List (Option ℕ) → Change → ClocksView → Type 0
AllCanFollow parents change clocks =
    (slot : ℕ) → CanFollow (cell_at clocks slot).counts (on_chain parents slot change.minus) (on_chain parents slot change.plus)

-- `AllFollow parents change old new`: the counts in the change were added to and subtracted from
-- each group to which they apply.
abbrev pub AllFollow : List (Option ℕ) → Change → ClocksView → ClocksView → Type 0
AllFollow parents change old new =
    (slot : ℕ) → Follows (cell_at old slot).counts (on_chain parents slot change.minus) (on_chain parents slot change.plus)
    (cell_at new slot).counts

-- `AllOnWith change old new`: if the change turns a group's accounting on or off, the group's cell
-- has the new value. The accounting of each other group is unchanged.
abbrev pub AllOnWith : Change → ClocksView → ClocksView → Type 0
AllOnWith change old new = (slot : ℕ) → (cell_at new slot).on ≡ on_with slot (cell_at old slot).on change.account

-- `AllClocksFollow at old new`: the clock of each group was updated for a change at the time `at`
-- (ns).
abbrev pub AllClocksFollow : ℕ → ClocksView → ClocksView → Type 0
AllClocksFollow at old new = (slot : ℕ) → ClockFollows (cell_at old slot).clock at (cell_at new slot).clock

-- `StaysByMask old new`: if the mask of a clock is unchanged, the whole clock is unchanged.
abbrev pub StaysByMask : ClockView → ClockView → Type 0
StaysByMask old new = new.mask ≡ old.mask → new ≡ old

-- `AllStayByMask old new`: each clock with an unchanged mask is unchanged.
abbrev pub AllStayByMask : ClocksView → ClocksView → Type 0
AllStayByMask old new = (slot : ℕ) → StaysByMask (cell_at old slot).clock (cell_at new slot).clock

-- The clock of each group is valid: it has one time for each state, and its mask contains only bits
-- of states.
abbrev pub AreWhole : ClocksView → Type 0
AreWhole clocks = (slot : ℕ) → IsWholeClock (cell_at clocks slot).clock

-- ---- the invariant of clocks

-- `IsUpTo at clock`: the clock is valid and started at or before the time `at` (ns), and its time
-- in each state up to `at` is at most `at`.
pub record IsUpTo (at : ℕ) (clock : ClockView) : Type 0 where
  pub whole : IsWholeClock clock
  pub start : clock.start ≤ at
  pub times : (state : State) → opened_time clock at state ≤ at

-- `AreUpTo cells last`: the clock of each cell satisfies `IsUpTo` at the time `last` (ns) of the
-- last change, which is at most the length of the longest trace.
pub record AreUpTo (cells : List Cell) (last : ℕ) : Type 0 where
  pub each : (slot : ℕ) → IsUpTo last (cell_in cells slot).clock
  pub early : last ≤ last_moment

-- ---- laws of clocks

-- Law of the clocks before the first change: the empty mask of each group is correct, because the
-- group is in no state. This doesn't depend on the parents of the groups.
abbrev pub FirstAreKnown : Type 0
FirstAreKnown = (parents : List (Option ℕ)) (slots : ℕ) → AreReported parents (first_clocks slots)
