-- The plan of legal events satisfies the invariant of plans.
use Rattle.std.proofs.Common.{◌≡◌, ℕ, zero, suc, ◌≤◌, ◌<◌, List, [], ◌∷◌, ◌++◌, length, sym, ap, ◌∙◌, arith, subst, Option, None, Some, ⊎_elim, refl, ◌+◌}
use Rattle.std.specs.Prelude.{IfSome, slice_get, take}
use Rattle.std.proofs.lemmas.List.{length-append}
use Rattle.psi_base.specs.declared.event.Slot.{Slot}
use Rattle.psi_base.specs.declared.event.Event.{Event}
use Rattle.psi_counts.specs.declared.changes.Change.{Change}
use Rattle.psi_spec.specs.World.{World, Limits, after, after_event, first_world}
use Rattle.psi_spec.specs.Refusal.{AreLegal}
use Rattle.psi_spec.specs.LegalGroups.{AreOlder, HaveParents}
use Rattle.psi_spec.specs.Within.{last_moment}
use Rattle.psi_counts.specs.Touch.{HasSlotsBelow, IsOfOne}
use Rattle.psi_counts.specs.Legal.{added, changes_from, taken}
use Rattle.plan_laws.specs.Plan.{EmptyIsPlan, FitsPlan, IrqsFit, LeavesFew, no_plan, last_change, PlanIsWhole}
use Rattle.psi_spec.specs.Changes.{until_change}
use Rattle.psi_counts.proofs.LegalLaws.{parent_each, more_groups}
use Rattle.plan_laws.proofs.PlanLaws.{after-push, as_many, by_last, changes_same, changes_grow, touched_or_not, until_is}
use Rattle.plan_laws.proofs.PlanStalls.{plan_is_in_order}
use Rattle.plan_laws.proofs.MomentsIrq.{plan_irqs_fit}
use Rattle.plan_laws.proofs.PlanStates.{legal_after, legal_prefix, legal_last, plan_fits, until_legal}
use Rattle.psi_counts.proofs.TouchWithin.{changes_are_within}

-- ---- each change

slot_later : {X : Type 0} (side : Option (Slot × X)) (few many : ℕ) → few ≤ many → IfSome side (λ part. part.0.0 < few) → IfSome side (λ part. part.0.0 < many)
slot_later None few many more below = tt
slot_later (Some part) few many more below = omega (arith, more, below)

pub slots_later : (change : Change) (few many : ℕ) → few ≤ many → HasSlotsBelow few change → HasSlotsBelow many change
slots_later change few many more below = record {
  minus = slot_later change.minus few many more below.minus;
  plus = slot_later change.plus few many more below.plus;
  current = slot_later change.current few many more below.current;
  account = slot_later change.account few many more below.account;
}

-- A change is of one task, and names slots below `bound`.
record IsGood (bound : ℕ) (change : Change) : Type 0 where
  slots : HasSlotsBelow bound change
  one : IsOfOne change

abbrev AreGood : ℕ → List Change → Type 0
AreGood slots changes = (k : ℕ) (change : Change) → slice_get changes k ≡ Some change → IsGood slots change

good_later : (changes : List Change) (few many : ℕ) → few ≤ many → AreGood few changes → AreGood many changes
good_later changes few many more good k change is = record { slots = slots_later change few many more (good k change is).slots; one = (good k change is).one }

good_push : (slots : ℕ) (changes : List Change) (last : Change) → AreGood slots changes → IsGood slots last → AreGood slots (changes ++ last ∷ [])
good_push slots [] last good good_last zero change is = let same : last ≡ change = cc is in subst (IsGood slots) same good_last
good_push slots [] last good good_last (suc k) change is = absurd (cc is)
good_push slots (first ∷ changes) last good good_last zero change is = good 0 change is
good_push slots (first ∷ changes) last good good_last (suc k) change is = good_push slots changes last (λ j other found. good (suc j) other found) good_last k change is

good_moved : (bound : ℕ) (new old : List Change) → new ≡ old → AreGood bound old → AreGood bound new
good_moved bound new old same good = subst (AreGood bound) (sym same) good

good_none : (slots : ℕ) → AreGood slots []
good_none slots k change is = absurd (cc is)

abbrev AllGood : Limits → ℕ → List Event → Type 0
AllGood limits cpu events = AreLegal limits first_world events → AreGood (length (after events).groups) (changes_from cpu first_world events)

all_good-push : (limits : Limits) (cpu : ℕ) (events : List Event) (event : Event) → AllGood limits cpu events → AllGood limits cpu (events ++ event ∷ [])
all_good-push limits cpu events event before legal =
    let prefix = legal_prefix limits first_world events (event ∷ []) legal in
    let world = legal_after limits events prefix in
    let groups : length (after (events ++ event ∷ [])).groups ≡ length (after_event (after events) event).groups = ap (λ (w : World). length w.groups) (after-push events event) in
    let more : length (after events).groups ≤ length (after (events ++ event ∷ [])).groups = omega (arith, groups, more_groups (after events) event) in
    let bound : ℕ = length (after (events ++ event ∷ [])).groups in
    let still = good_later (changes_from cpu first_world events) (length (after events).groups) bound more (before prefix) in
    ⊎_elim
    (λ off. good_moved bound _ _ (changes_same cpu events event off) still)
    (λ on.
    let within = changes_are_within limits (after events) event (legal_last limits first_world events event legal) world.within cpu on.change on.one in
    let good : IsGood bound on.change = record { slots = slots_later on.change (length (after events).groups) bound more within.1; one = within.2 } in
    good_moved bound _ _ (changes_grow cpu events event on) (good_push bound (changes_from cpu first_world events) on.change still good))
    (touched_or_not (after events) event cpu)

all_good : (limits : Limits) (cpu : ℕ) (events : List Event) → AllGood limits cpu events
all_good limits cpu events = by_last (AllGood limits cpu) (λ _. good_none 1) (all_good-push limits cpu) events

-- ---- how many changes

abbrev ChangesAreFew : ℕ → List Event → Type 0
ChangesAreFew cpu events = length (changes_from cpu first_world events) ≤ (after events).lines

few-push : (cpu : ℕ) (events : List Event) (event : Event) → ChangesAreFew cpu events → ChangesAreFew cpu (events ++ event ∷ [])
few-push cpu events event few =
    let lines : (after (events ++ event ∷ [])).lines ≡ (after events).lines + 1 = ap (λ (w : World). w.lines) (after-push events event) in
    ⊎_elim
    (λ off. let same = ap length (changes_same cpu events event off) in omega (arith, lines, few, same))
    (λ on. let more = ap length (changes_grow cpu events event on) ∙ length-append (changes_from cpu first_world events) (on.change ∷ []) in omega (arith, lines, few, more))
    (touched_or_not (after events) event cpu)

-- The number of changes is at most the number of events.
no_more_changes : (cpu : ℕ) (events : List Event) → length (changes_from cpu first_world events) ≤ (after events).lines
no_more_changes cpu events = by_last (λ es. length (changes_from cpu first_world es) ≤ (after es).lines) (omega arith) (few-push cpu) events

-- ---- the plan

pub plan_is_whole : PlanIsWhole
plan_is_whole limits events legal latest cpus cpu = record {
  few = omega (arith, no_more_changes cpu events, (legal_after limits events legal).few_lines);
  order = plan_is_in_order limits events legal cpu;
  early = λ k low.
      let until = until_is cpu events k (omega (arith, low, as_many cpu events)) in
      let world = legal_after limits (until_change cpu events k) (until_legal limits cpu events k legal) in
      omega (arith, until.last, world.early, latest);
  fits = plan_fits limits events legal cpu;
  irqs = plan_irqs_fit limits events legal cpus cpu;
  ones = λ k change is. (all_good limits cpu events legal k change is).one;
  slots = λ k change is. subst (λ n. HasSlotsBelow n change) (sym (parent_each (after events).groups)) (all_good limits cpu events legal k change is).slots;
  older = (legal_after limits events legal).groups.older;
  parented = (legal_after limits events legal).groups.parented;
}

no_step : (k : ℕ) → k < 0 → ⊥
no_step k low = omega (arith, low)

no_change : (k : ℕ) (change : Change) → slice_get no_plan.changes k ≡ Some change → ⊥
no_change k change is = cc is

empty_early : (k : ℕ) → k ≤ 0 → last_change no_plan k ≤ last_moment
empty_early zero low = omega arith
empty_early (suc k) low = absurd (omega (arith, low))

empty_irqs : IrqsFit no_plan
empty_irqs zero low = omega arith
empty_irqs (suc k) low = absurd (omega (arith, low))

empty_fits : FitsPlan no_plan
empty_fits slot k low = subst (λ changes. LeavesFew (taken [] slot changes) (added [] slot changes)) (sym (no_prefix_of k)) (record {
  io = (omega arith, omega arith);
  stalled = (omega arith, omega arith);
  running = (omega arith, omega arith);
  stalled_running = (omega arith, omega arith);
})
  where
    no_prefix_of : (k : ℕ) → take {A = Change} k [] ≡ []
    no_prefix_of zero = refl
    no_prefix_of (suc k) = refl

empty_older : AreOlder []
empty_older slot parent is = absurd (cc is)

empty_parented : HaveParents []
empty_parented slot first low = absurd (omega (arith, low))

pub empty_is_plan : EmptyIsPlan
empty_is_plan = record {
  few = omega arith;
  order = λ k low. absurd (no_step k low);
  early = empty_early;
  fits = empty_fits;
  irqs = empty_irqs;
  ones = λ k change is. absurd (no_change k change is);
  slots = λ k change is. absurd (no_change k change is);
  older = empty_older;
  parented = empty_parented;
}
