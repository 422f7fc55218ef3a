-- Proofs about a change that switches accounting: the switch first, and then the walk of the
-- change.
use Rattle.std.proofs.Common.{◌≡◌, ℕ, ◌+◌, ◌-◌, ◌≤◌, ◌<◌, List, length, refl, sym, ap, ◌∙◌, subst, arith, Bool, true, false, Option, None, Some, ◌==◌}
use Rattle.std.specs.Prelude.{IfSome, if◌then◌else◌, slice_index}
use Rattle.std.proofs.lemmas.Bool.Decides.{nat_tests}
use Rattle.psi_base.specs.declared.event.Slot.{Slot}
use Rattle.psi_counts.specs.declared.changes.Change.{Change}
use Rattle.psi_counts.specs.Clock.{ClockFollows, ClockView}
use Rattle.psi_counts.specs.Counts.{mask_holds}
use Rattle.psi_counts.specs.Touch.{Follows, HasSlotsBelow, on_with, on_chain}
use Rattle.psi_spec.specs.LegalGroups.{AreOlder}
use Rattle.psi_spec.specs.Stall.{state_number}
use Rattle.psi_spec.specs.Within.{last_moment}
use Rattle.slot_clocks.specs.declared.cell.Cell.{Cell}
use Rattle.slot_clocks.specs.Clocks.{AreUpTo, CanFollow, IsUpTo, MaskShows, StaysByMask, cell_in, parent_numbers}
use Rattle.slot_clocks.specs.Walk.{AreOnWith, CanClimb, IsApart, IsOnWith, IsTurned, chains_of}
use Rattle.slot_clocks.proofs.StartLaws.{may_start, starts_low}

-- The accounting of a slot doesn't change if another slot's accounting is switched.
apart_stays : (slot : ℕ) (on : Bool) (account : Option (Slot × Bool)) → IsApart account slot → on_with slot on account ≡ on
apart_stays slot on None apart = refl
apart_stays slot on (Some account) apart =
    let other : (account.0.0 == slot) ≡ false = grind (arith, nat_tests, apart) in
    ap (λ b. if b then account.1 else on) other

-- The mask of a group whose accounting isn't switched still has the states of its counts.
pub known_apart : (parents : List (Option ℕ)) (current : Option (Slot × Bool)) (account : Option (Slot × Bool)) (slot : ℕ) (old middle : Cell) → IsOnWith account slot old middle → IsApart account slot → MaskShows parents current slot old → MaskShows parents current slot middle
known_apart parents current account slot old middle is apart known =
    let on : middle.on ≡ old.on = is.on ∙ apart_stays slot old.on account apart in
    rw (is.clock, is.counts, on) known

-- A clock that satisfies `IsUpTo` at a time satisfies it at each later time.
up_later : (last at : ℕ) → last ≤ at → (clock : ClockView) → IsUpTo last clock → IsUpTo at clock
up_later last at low clock is = record {
  whole = is.whole;
  start = omega (arith, low, is.start);
  times = λ state. time_later (mask_holds clock.mask state) (slice_index clock.times (state_number state)) clock.start last at low is.start (is.times state);
}
  where
    time_later : (holds : Bool) (time start last at : ℕ) → last ≤ at → start ≤ last → time + (if holds then last - start else 0) ≤ last → time + (if holds then at - start else 0) ≤ at
    time_later true time start last at low started within = omega (arith, low, started, within)
    time_later false time start last at low started within = omega (arith, low, within)

-- After the switch of accounting, the rest of the change can be applied to the groups.
pub can_climb : (parents : List (Option Slot)) (current : Option (Slot × Bool)) (change : Change) (last : ℕ) (olds middles : List Cell)
    → AreOlder (parent_numbers parents) → HasSlotsBelow (length parents) change → IfSome current (λ running. running.0.0 < length parents) → IfSome change.account (λ _. change.minus ≡ None) → length parents ≤ length olds
    → ((slot : ℕ) → MaskShows (parent_numbers parents) current slot (cell_in olds slot)) → ((slot : ℕ) → CanFollow (cell_in olds slot).counts (on_chain (parent_numbers parents) slot change.minus) (on_chain (parent_numbers parents) slot change.plus))
    → AreUpTo olds last → last ≤ change.at → change.at ≤ last_moment → length middles ≡ length olds → AreOnWith change.account olds middles → CanClimb parents current change (chains_of current change) middles
can_climb parents current change last olds middles older slots below alone room known fits up_to later early same is = record {
  older = older;
  start = may_start current change alone;
  slots = starts_low current change (length parents) slots below;
  room = omega (arith, room, same);
  known = λ slot apart. known_apart (parent_numbers parents) current change.account slot (cell_in olds slot) (cell_in middles slot) (is slot) apart (known slot);
  fits = λ slot. subst (λ counts. CanFollow counts (on_chain (parent_numbers parents) slot change.minus) (on_chain (parent_numbers parents) slot change.plus)) (sym (is slot).counts) (fits slot);
  up_to = λ slot. subst (IsUpTo change.at) (sym (is slot).clock) (up_later last change.at later (cell_in olds slot).clock (up_to.each slot));
  early = early;
}

-- The effect of the switch and of the walk after it is the effect of the whole change.
pub turned_since : (parents : List (Option ℕ)) (change : Change) (slot : ℕ) (old middle new : Cell) → IsOnWith change.account slot old middle → IsTurned parents change slot middle new →
    (Follows old.counts (on_chain parents slot change.minus) (on_chain parents slot change.plus) new.counts)
    × (new.on ≡ on_with slot old.on change.account)
    × ClockFollows old.clock change.at new.clock
    × StaysByMask old.clock new.clock
turned_since parents change slot old middle new is turned = (
  subst (λ n. Follows n (on_chain parents slot change.minus) (on_chain parents slot change.plus) new.counts) is.counts turned.counts,
  turned.on ∙ is.on,
  subst (λ clock. ClockFollows clock change.at new.clock) is.clock turned.clock,
  subst (λ clock. StaysByMask clock new.clock) is.clock turned.kept,
)
