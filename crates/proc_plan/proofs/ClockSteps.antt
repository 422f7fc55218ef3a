-- Proves that the clocks of a processor stay correct when one change of the plan is made.
use Rattle.std.proofs.Common.{◌≡◌, ℕ, ◌+◌, ◌≤◌, ◌<◌, ◌^◌, refl, sym, ap, ◌∙◌, subst, arith, length, List, zero, suc, Option, None, Some, IfSome, if◌then◌else◌, Bool, true, false}
use Rattle.std.specs.Prelude.{slice_get, slice_index_or}
use Rattle.std.proofs.lemmas.List.{length-map, length-replicate}
use Rattle.std.proofs.lemmas.Option.{slice_get_within, slice_get-get_or}
use Rattle.psi_base.specs.declared.event.Slot.{Slot}
use Rattle.psi_counts.specs.declared.changes.Change.{Change}
use Rattle.psi_counts.specs.declared.changes.Counts.{Counts}
use Rattle.psi_counts.specs.Clock.{ClockFollows}
use Rattle.psi_spec.specs.Stall.{is_under, number_of_slot}
use Rattle.psi_counts.specs.Touch.{AreAtMost, Follows, on_with, no_counts, on_chain}
use Rattle.plan_laws.specs.Plan.{IsClock, IsPlan, PlanView, counts_after, current_after, holds_after, last_change, on_after}
use Rattle.plan_laws.proofs.PlanClocks.{followed_is_clock, zero_is_clock}
use Rattle.plan_laws.proofs.PlanStates.{counts_are}
use Rattle.plan_laws.proofs.PlanSteps.{counts_by_change, current_by_change, on_by_change, plan_counts_are_few}
use Rattle.slot_clocks.specs.Clocks.{AllCanFollow, AllClocksFollow, AllFollow, AllOnWith, AreReported, AreWhole, CanFollow, ClocksView, cell_at, first_clocks, parent_numbers, zero_cell}
use Rattle.slot_clocks.specs.declared.cell.Cell.{Cell}
use Rattle.proc_plan.specs.Clocks.{AreClocks}

-- ---- the first clocks

-- New clocks are correct before the first change.
pub first_are : (plan : PlanView) → IsPlan plan → AreClocks plan (first_clocks (length plan.parents)) 0
first_are plan whole = record {
  whole = whole;
  within = omega arith;
  room = omega (arith, length-replicate (length plan.parents) zero_cell);
  current = refl;
  last = refl;
  counts = λ slot. ap (λ (cell : Cell). cell.counts) (all_zero (length plan.parents) slot);
  ons = λ slot. ap (λ (cell : Cell). cell.on) (all_zero (length plan.parents) slot);
  each = λ slot. subst (λ (cell : Cell). IsClock cell.clock plan slot 0) (sym (all_zero (length plan.parents) slot)) (zero_is_clock plan slot);
}
  where
    all_zero : (slots slot : ℕ) → cell_at (first_clocks slots) slot ≡ zero_cell
    all_zero zero slot = refl
    all_zero (suc slots) zero = refl
    all_zero (suc slots) (suc slot) = all_zero slots slot

-- ---- before a change

-- The list of parents that the clocks use is as long as the plan's list of parents.
pub as_many_parents : (parents : List (Option Slot)) (plan : PlanView) → parent_numbers parents ≡ plan.parents → length plan.parents ≡ length parents
as_many_parents parents plan same = sym (ap length same) ∙ length-map parents number_of_slot

-- The slot of the running task is a slot of the plan.
pub current_below : (plan : PlanView) (k : ℕ) → IsPlan plan → k ≤ length plan.changes → IfSome (current_after plan k) (λ running. running.0.0 < length plan.parents)
current_below plan zero whole within = tt
current_below plan (suc k) whole within =
    let none : Change = record { at = 0; minus = None; plus = None; current = None; irq = 0; account = None } in
    let is = slice_get-get_or plan.changes k none (omega (arith, within)) in
    let next : suc k ≡ k + 1 = omega arith in
    subst (λ o. IfSome o (λ (running : Slot × Bool). running.0.0 < length plan.parents)) (sym (ap (current_after plan) next ∙ (current_by_change plan k (slice_index_or plan.changes k none) is).0)) (whole.slots k (slice_index_or plan.changes k none) is).current

-- The mask of each clock has the states that follow from its counts.
pub known : (plan : PlanView) (clocks : ClocksView) (k : ℕ) → AreClocks plan clocks k → AreReported plan.parents clocks
unfolding holds_after
known plan clocks k are slot state =
    (are.each slot).mask state
    ∙ sym (rw (are.counts slot, are.ons slot, are.current) (let same : holds_after state plan slot k ≡ holds_after state plan slot k = refl in same))

-- A change of one task adds at most 1 to each count of a slot.
one_more : (parents : List (Option ℕ)) (slot : ℕ) (side : Option (Slot × Counts)) → IfSome side (λ part. AreAtMost 1 part.1) → AreAtMost 1 (on_chain parents slot side)
one_more parents slot None few = record { io = omega arith; stalled = omega arith; running = omega arith; stalled_running = omega arith }
one_more parents slot (Some part) few = picked (is_under parents part.0.0 slot) part.1 few
  where
    picked : (on : Bool) (counts : Counts) → AreAtMost 1 counts → AreAtMost 1 (if on then counts else no_counts)
    picked true counts few = few
    picked false counts few = record { io = omega arith; stalled = omega arith; running = omega arith; stalled_running = omega arith }

fits_in : (old minus plus new : ℕ) → new + minus ≡ old + plus → old ≤ 65536 → plus ≤ 1 → (minus ≤ old + plus) × (old + plus < 2 ^ 32)
fits_in old minus plus new is few one = (omega (arith, is), omega (arith, few, one))

-- The counts that the next change adds and subtracts can be applied to each slot.
pub can_follow : (plan : PlanView) (clocks : ClocksView) (k : ℕ) (change : Change) → AreClocks plan clocks k → slice_get plan.changes k ≡ Some change → AllCanFollow plan.parents change clocks
can_follow plan clocks k change are is slot =
    let next = counts_by_change plan are.whole.fits slot k change is in
    let few = plan_counts_are_few plan are.whole.fits slot k are.within in
    let one = one_more plan.parents slot change.plus (are.whole.ones k change is).plus in
    subst (λ counts. CanFollow counts (on_chain plan.parents slot change.minus) (on_chain plan.parents slot change.plus)) (sym (are.counts slot))
    (record {
      io = fits_in _ _ _ _ next.io few.io one.io;
      stalled = fits_in _ _ _ _ next.stalled few.stalled one.stalled;
      running = fits_in _ _ _ _ next.running few.running one.running;
      stalled_running = fits_in _ _ _ _ next.stalled_running few.stalled_running one.stalled_running;
    })

-- ---- over a change

only_one : (old minus plus one other : ℕ) → one + minus ≡ old + plus → other + minus ≡ old + plus → one ≡ other
only_one old minus plus one other a b = omega (arith, a, b)

-- Applying the same change to the same counts gives the same counts.
same_follow : (old minus plus one other : Counts) → Follows old minus plus one → Follows old minus plus other → one ≡ other
same_follow old minus plus one other a b = counts_are one other.io other.stalled other.running other.stalled_running (only_one _ _ _ _ _ a.io b.io) (only_one _ _ _ _ _ a.stalled b.stalled) (only_one _ _ _ _ _ a.running b.running) (only_one _ _ _ _ _ a.stalled_running b.stalled_running)

-- `AreMade plan change old new`: making the change updated the clocks from `old` to `new`.
pub record AreMade (plan : PlanView) (change : Change) (old new : ClocksView) : Type 0 where
  pub room : length new.cells ≡ length old.cells
  pub counts : AllFollow plan.parents change old new
  pub accounts : AllOnWith change old new
  pub clocks : AllClocksFollow change.at old new
  pub whole : AreWhole new
  pub known : AreReported plan.parents new
  pub current : new.current ≡ change.current
  pub last : new.last ≡ change.at

-- After one more change was made, the clocks are correct after this change.
pub next_clocks : (plan : PlanView) (old new : ClocksView) (k : ℕ) (change : Change) → AreClocks plan old k → slice_get plan.changes k ≡ Some change → AreMade plan change old new → AreClocks plan new (k + 1)
unfolding holds_after
next_clocks plan old new k change are is made =
    let room = slice_get_within plan.changes k change is in
    let shown = current_by_change plan k change is in
    let current : new.current ≡ current_after plan (k + 1) = made.current ∙ sym shown.0 in
    let last : new.last ≡ last_change plan (k + 1) = made.last ∙ sym shown.1 in
    let counts : (slot : ℕ) → (cell_at new slot).counts ≡ counts_after plan slot (k + 1) = λ slot.
    same_follow (counts_after plan slot k) (on_chain plan.parents slot change.minus) (on_chain plan.parents slot change.plus) (cell_at new slot).counts (counts_after plan slot (k + 1))
    (subst (λ n. Follows n (on_chain plan.parents slot change.minus) (on_chain plan.parents slot change.plus) (cell_at new slot).counts) (are.counts slot) (made.counts slot))
    (counts_by_change plan are.whole.fits slot k change is) in
    let ons : (slot : ℕ) → (cell_at new slot).on ≡ on_after plan slot (k + 1) = λ slot.
    made.accounts slot ∙ ap (λ on. on_with slot on change.account) (are.ons slot) ∙ sym (on_by_change plan slot k change is) in
    record {
      whole = are.whole;
      within = omega (arith, room);
      room = omega (arith, are.room, made.room);
      current = current;
      last = last;
      counts = counts;
      ons = ons;
      each = λ slot.
          followed_is_clock (cell_at old slot).clock (cell_at new slot).clock plan slot k (are.each slot) room (are.whole.order k room) (made.whole slot)
          (subst (λ at. ClockFollows (cell_at old slot).clock at (cell_at new slot).clock) (sym shown.1) (made.clocks slot))
          (λ state. made.known slot state ∙ rw (counts slot, ons slot, current) refl);
    }
