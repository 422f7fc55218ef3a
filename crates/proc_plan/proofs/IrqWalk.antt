-- Proves that the interrupt times of groups stay correct when a change is made.
use Rattle.std.proofs.Common.{◌≡◌, ℕ, zero, suc, ◌+◌, ◌<◌, ◌^◌, List, length, refl, sym, ap, ◌∙◌, subst, arith, Bool, true, false, Option, None, Some, ⊎_elim}
use Rattle.std.specs.Prelude.{slice_get, slice_index_or, slice_set, replicate, ◌&&◌, if◌then◌else◌}
use Rattle.std.proofs.lemmas.Bool.Decides.{eqb_tells}
use Rattle.std.proofs.lemmas.List.{get_or-set_same, get_or-set_other, length-replicate}
use Rattle.psi_base.specs.declared.event.Slot.{Slot}
use Rattle.psi_counts.specs.declared.changes.Change.{Change}
use Rattle.psi_counts.specs.Touch.{irq_in, is_current_in}
use Rattle.psi_spec.specs.Stall.{is_under, number_of_slot}
use Rattle.psi_spec.specs.LegalGroups.{AreOlder, leads_to}
use Rattle.psi_spec.proofs.GroupLaws.{by_step}
use Rattle.plan_laws.specs.Plan.{IsPlan, PlanView, on_after}
use Rattle.plan_laws.proofs.PlanIrqs.{no_planned_irq, planned_irq_by_change, planned_irq_fits}
use Rattle.slot_clocks.specs.Clocks.{ClocksView, cell_at, parent_numbers}
use Rattle.proc_plan.specs.Clocks.{AllGrow, AreClocks, AreIrqs, irq_at, irq_taken}
use Rattle.proc_plan.proofs.Upward.{at_itself, not_below, parent_number}

-- ---- the walk up from the running task's group

-- A slot that received the time and was passed by the walk has the same total as a slot that is
-- still on the walk and will receive the time.
one_time : (on : Bool) (time irq : ℕ) → (time + (if on then irq else 0)) + (if on && false then irq else 0) ≡ time + (if on && true then irq else 0)
one_time true time irq = omega arith
one_time false time irq = omega arith

-- One step of the walk adds the time to the current group if the group's accounting is on, and
-- continues at the parent.
pub step_up : (parents : List (Option Slot)) (ons : ℕ → Bool) (times : List ℕ) (place at irq : ℕ) → AreOlder (parent_numbers parents) → place < length times →
    irq_at (slice_set times place (irq_at times place + (if ons place then irq else 0))) at + (if ons at && leads_to (parent_numbers parents) (number_of_slot (slice_index_or parents place None)) at then irq else 0)
    ≡ irq_at times at + (if ons at && is_under (parent_numbers parents) place at then irq else 0)
step_up parents ons times place at irq older room =
    let numbers : List (Option ℕ) = parent_numbers parents in
    let more : ℕ = irq_at times place + (if ons place then irq else 0) in
    rw (parent_number parents place) (
    ⊎_elim
    (λ same.
    let off : leads_to numbers (slice_index_or numbers place None) place ≡ false = not_below numbers place (slice_index_or numbers place None) older refl in
    subst (λ n. irq_at (slice_set times place more) n + (if ons n && leads_to numbers (slice_index_or numbers place None) n then irq else 0) ≡ irq_at times n + (if ons n && is_under numbers place n then irq else 0)) same.1
    (rw (off, at_itself numbers place, get_or-set_same times place more 0 room) (one_time (ons place) (irq_at times place) irq)))
    (λ other.
    let under : is_under numbers place at ≡ leads_to numbers (slice_index_or numbers place None) at = by_step numbers place at older ∙ rw other.0 refl in
    rw (under, get_or-set_other times place at more 0 (λ is. other.1 (sym is))) refl)
    (eqb_tells place at))

-- The time added at the current slot is the interrupt time that counts for this slot.
pub added_here : (on under : Bool) (irq : ℕ) → under ≡ true → (if on then irq else 0) ≡ (if on && under then irq else 0)
added_here true under irq is = rw is refl
added_here false under irq is = refl

-- ---- over a change

-- Before the first change each interrupt time is 0.
pub first_irqs : (plan : PlanView) → AreIrqs plan (replicate (length plan.parents) 0) 0
first_irqs plan = record {
  room = length-replicate {A = ℕ} (length plan.parents) 0;
  each = λ slot below. all_none (length plan.parents) slot ∙ sym (no_planned_irq plan slot);
}
  where
    all_none : (slots slot : ℕ) → irq_at (replicate slots 0) slot ≡ 0
    all_none zero slot = refl
    all_none (suc slots) zero = refl
    all_none (suc slots) (suc slot) = all_none slots slot

-- The interrupt time of a group plus the interrupt time of the next change fits in 64 bits.
pub irqs_fit : (plan : PlanView) (times : List ℕ) (k : ℕ) (change : Change) → IsPlan plan → AreIrqs plan times k → k < length plan.changes → slice_get plan.changes k ≡ Some change → (slot : ℕ) → slot < length plan.parents →
    irq_at times slot + (if on_after plan slot k then irq_in plan.parents slot change else 0) < 2 ^ 64
irqs_fit plan times k change whole are more is slot below =
    let next = planned_irq_by_change plan slot k change is in
    let fits = planned_irq_fits plan whole.irqs slot (k + 1) (omega (arith, more)) in
    let early = whole.early (k + 1) (omega (arith, more)) in
    omega (arith, are.each slot below, next, fits, early)

-- Interrupt times increased by the interrupt time of a change are correct after this change.
pub next_irqs : (plan : PlanView) (old new : List ℕ) (k : ℕ) (change : Change) → AreIrqs plan old k → slice_get plan.changes k ≡ Some change → length new ≡ length old
    → ((slot : ℕ) → slot < length old → irq_at new slot ≡ irq_at old slot + (if on_after plan slot k then irq_in plan.parents slot change else 0)) → AreIrqs plan new (k + 1)
next_irqs plan old new k change are is room grown = record {
  room = room ∙ are.room;
  each = λ slot below.
      grown slot (omega (arith, below, are.room)) ∙ ap (λ n. n + (if on_after plan slot k then irq_in plan.parents slot change else 0)) (are.each slot below) ∙ sym (planned_irq_by_change plan slot k change is);
}

-- A conjunction of two tests can be split into two nested tests.
one_test : (a b : Bool) (n : ℕ) → (if a && b then n else 0) ≡ (if a then (if b then n else 0) else 0)
one_test true b n = refl
one_test false b n = refl

-- The interrupt time that counts for a slot by the clocks is the interrupt time that counts by the
-- plan.
pub taken_is : (plan : PlanView) (clocks : ClocksView) (k : ℕ) (change : Change) (slot : ℕ) → AreClocks plan clocks k →
    irq_taken plan.parents clocks change.current change.irq slot ≡ (if on_after plan slot k then irq_in plan.parents slot change else 0)
taken_is plan clocks k change slot are =
    one_test (cell_at clocks slot).on (is_current_in plan.parents slot change.current) change.irq
    ∙ ap (λ on. if on then irq_in plan.parents slot change else 0) (are.ons slot)

-- If the interrupt time of a change is 0, no interrupt time changes.
pub nothing_grows : (parents : List (Option ℕ)) (clocks : ClocksView) (current : Option (Slot × Bool)) (irq : ℕ) (times : List ℕ) → irq ≡ 0 → AllGrow parents clocks current irq times times
nothing_grows parents clocks current irq times none slot below = none_more ((cell_at clocks slot).on && is_current_in parents slot current)
  where
    none_more : (b : Bool) → irq_at times slot ≡ irq_at times slot + (if b then irq else 0)
    none_more true = omega (arith, none)
    none_more false = omega arith
