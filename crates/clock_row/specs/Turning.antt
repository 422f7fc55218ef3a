-- Defines the state of the writer's handle while a change is in progress. The words of some slots
-- already represent the clock after the change, and the words of the other slots still represent
-- the clock before it.
use Rattle.std.specs.Prelude.{◌≡◌, ℕ, ◌+◌, ◌*◌, ◌^◌, ◌<◌, true, List, length, Option, IfSome}
use Rattle.std.specs.List.{All}
use Rattle.atomic_table.specs.Seated.{TableId}
use Rattle.psi_base.specs.declared.event.Slot.{Slot}
use Rattle.plan_laws.specs.Plan.{IsPlan}
use Rattle.psi_spec.specs.LegalGroups.{leads_to}
use Rattle.psi_spec.specs.Stall.{number_of_slot}
use Rattle.clock_row.specs.Words.{AreClock, AreOnTheWay, GoesOn, words_at}
use Rattle.clock_row.specs.Seats.{HasStored, IsSameSeat, IsWriter, RowSeat, writer_on}

-- `IsTurning row seat`: a change of the seqlock `row` is in progress, and `seat` is the writer's
-- handle. The seqlock has a sequence number and nine words for each slot of the plan. The words of
-- each slot represent the slot's clock either before or after the change.
pub record IsTurning (row : TableId) (seat : RowSeat) : Type 0 where
  pub on_row : seat.table_id ≡ row
  pub wide : row.words ≡ 9 * length (writer_on seat).plan.parents + 1
  pub fits : length (writer_on seat).plan.parents < 2 ^ 32
  pub writer : IsWriter seat
  pub changing : (writer_on seat).changing ≡ true
  pub whole : IsPlan (writer_on seat).plan
  pub next : (writer_on seat).count < length (writer_on seat).plan.changes
  pub way : AreOnTheWay (writer_on seat).plan (writer_on seat).count (writer_on seat).body

-- `HasTurned before after`: the writer stored words while a change was in progress. The words of
-- each slot are unchanged or represent a clock after the change. If the words of a slot already
-- represented its clock after the change, they still do.
pub record HasTurned (before after : RowSeat) : Type 0 where
  pub seat : IsSameSeat before after
  pub stored : HasStored before after
  pub goes : GoesOn (writer_on before).plan (writer_on before).count (writer_on before).body (writer_on after).body

-- `IsDone seat slot`: the words of the slot represent the clock that the slot has after the change
-- in progress.
abbrev pub IsDone : RowSeat → ℕ → Type 0
IsDone seat slot = AreClock (writer_on seat).plan slot ((writer_on seat).count + 1) (words_at (writer_on seat).body slot)

-- `ChainIsDone seat start`: the words of the slot `start`, and of each of its ancestors, represent
-- the slot's clock after the change in progress. Always holds if `start` is `None`.
abbrev pub ChainIsDone : RowSeat → Option Slot → Type 0
ChainIsDone seat start =
    (slot : ℕ) → slot < length (writer_on seat).plan.parents
    → leads_to (writer_on seat).plan.parents (number_of_slot start) slot ≡ true → IsDone seat slot

-- `ChainsAreDone seat starts`: for each slot in `starts` and each of its ancestors, the slot's
-- words represent its clock after the change in progress.
abbrev pub ChainsAreDone : RowSeat → List (Option Slot) → Type 0
ChainsAreDone seat starts = All (ChainIsDone seat) starts

-- `AreBelow slots starts`: each slot in the list `starts` is less than `slots`.
abbrev pub AreBelow : ℕ → List (Option Slot) → Type 0
AreBelow slots starts = All (λ start. IfSome start (λ slot. slot.0 < slots)) starts
