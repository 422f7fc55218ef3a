-- Planned interrupt time, change by change, and its equality with interrupt time.
use Rattle.std.proofs.Common.{◌≡◌, ℕ, ◌+◌, ◌≤◌, List, [], ◌∷◌, ◌++◌, length, map, take, refl, sym, ap, ◌∙◌, arith, subst, ⊎_elim, Bool, true, false}
use Rattle.std.specs.Prelude.{sum, ◌&&◌, if◌then◌else◌, Option}
use Rattle.std.specs.List.{list_any}
use Rattle.std.proofs.lemmas.List.{append-nil, map-append, take_all}
use Rattle.std.proofs.lemmas.List.Sums.{sum_by-append, sum_by-cons}
use Rattle.psi_base.specs.declared.event.Event.{Event}
use Rattle.psi_counts.specs.declared.changes.Change.{Change}
use Rattle.psi_spec.specs.World.{World, Limits, after, first_world, is_on, up_to}
use Rattle.psi_spec.specs.Refusal.{AreLegal}
use Rattle.psi_spec.specs.Stall.{has_running, irq_time_by, irq_time, parents_of, runs, tasks_in}
use Rattle.psi_spec.specs.Changes.{changes_of, count_at, until_change}
use Rattle.psi_counts.specs.Legal.{IsLegalWorld, changes_from}
use Rattle.psi_counts.specs.Touch.{on_with, irq_in, is_current_in}
use Rattle.plan_laws.specs.Plan.{NoPlannedIrq, PlannedIrqByChange, PlannedIrqFits, PlannedIrqIsIrq, PlannedIrqUntil, irq_over, on_from, plan_of, planned_irq}
use Rattle.psi_spec.proofs.StallLaws.{irq_by_event}
use Rattle.psi_counts.proofs.IrqLaws.{at_most}
use Rattle.psi_counts.proofs.LegalLaws.{same_tasks_later}
use Rattle.psi_counts.proofs.TouchLaws.{stays_untouched}
use Rattle.psi_counts.proofs.TouchWithin.{change_shows}
use Rattle.plan_laws.proofs.PlanLaws.{as_many, by_last, changes_same, changes_grow, touched_or_not, until_is}
use Rattle.plan_laws.proofs.PlanStalls.{fewer_before}
use Rattle.plan_laws.proofs.PlanStates.{Prolongs, on_as_known, legal_after, legal_prefix, legal_last, until_legal, until_prolongs}
use Rattle.plan_laws.proofs.PlanSteps.{one_more}
use Rattle.plan_laws.proofs.PlanUpTo.{counts_by_plan, until_of_prefix, up_to_prefix}

-- ---- sums over changes

-- Appending a change adds its number to a sum over changes.
pub sum-push : (f : Change → ℕ) (changes : List Change) (change : Change) → sum (map f (changes ++ change ∷ [])) ≡ sum (map f changes) + f change
sum-push f changes change =
    let all = sum_by-append (λ n. n) (map f changes) (f change ∷ []) in
    let last = sum_by-cons (λ n. n) (f change) [] in
    ap sum (map-append f changes (change ∷ [])) ∙ all ∙ ap (λ n. sum (map f changes) + n) (last ∙ (let alone : f change + 0 ≡ f change = omega arith in alone))

-- Appending a change adds its interrupt time to a group's interrupt time if the group's accounting
-- is on before it.
over-push : (parents : List (Option ℕ)) (slot : ℕ) (on : Bool) (changes : List Change) (change : Change) →
    irq_over parents slot on (changes ++ change ∷ []) ≡ irq_over parents slot on changes + (if on_from slot on changes then irq_in parents slot change else 0)
over-push parents slot on [] change = omega arith
over-push parents slot on (first ∷ changes) change =
    let rest = over-push parents slot (on_with slot on first.account) changes change in
    omega (arith, rest)

-- A group's interrupt time is at most the interrupt time of all changes.
over_most : (parents : List (Option ℕ)) (slot : ℕ) (on : Bool) (changes : List Change) → irq_over parents slot on changes ≤ sum (map (λ (change : Change). change.irq) changes)
over_most parents slot on [] = omega arith
over_most parents slot on (change ∷ changes) =
    let all = sum_by-cons (λ n. n) change.irq (map (λ (c : Change). c.irq) changes) in
    let part = at_most (is_current_in parents slot change.current) change.irq change.irq (omega arith) in
    let here = at_most on (irq_in parents slot change) change.irq part in
    let rest = over_most parents slot (on_with slot on change.account) changes in
    omega (arith, all, here, rest)

none_taken : (changes : List Change) → take 0 changes ≡ []
none_taken [] = refl
none_taken (change ∷ changes) = refl

-- ---- change by change

pub no_planned_irq : NoPlannedIrq
unfolding planned_irq
no_planned_irq plan slot = ap (irq_over plan.parents slot true) (none_taken plan.changes)

pub planned_irq_by_change : PlannedIrqByChange
unfolding planned_irq
planned_irq_by_change plan slot k change is =
    ap (irq_over plan.parents slot true) (one_more plan.changes k change is) ∙ over-push plan.parents slot true (take k plan.changes) change

pub planned_irq_fits : PlannedIrqFits
unfolding planned_irq
planned_irq_fits plan fits slot k low =
    let sums = over_most plan.parents slot true (take k plan.changes) in
    omega (arith, sums, fits k low)

-- ---- planned interrupt time is interrupt time

-- Two nested conditions are one condition.
both_tests : (a b : Bool) (n : ℕ) → (if a then (if b then n else 0) else 0) ≡ (if a && b then n else 0)
both_tests true b n = refl
both_tests false b n = refl

-- The parents of groups that are created later don't change whether a group has a running task.
running_later : (limits : Limits) (w : World) → IsLegalWorld limits w → (parents : List (Option ℕ)) → Prolongs (parents_of w.groups) parents → (cpu slot : ℕ) → list_any runs (tasks_in parents cpu slot w.tasks) ≡ has_running cpu slot w
unfolding has_running
running_later limits w world parents more cpu slot = ap (λ ps. list_any runs (tasks_in ps cpu slot w.tasks)) more.1 ∙ ap (list_any runs) (same_tasks_later limits w world more.0 cpu slot)

-- The planned interrupt time of all changes of some events is the interrupt time of these events.
abbrev ShowsIrq : Limits → ℕ → ℕ → List Event → Type 0
ShowsIrq limits cpu slot events = AreLegal limits first_world events → (parents : List (Option ℕ)) → Prolongs (parents_of (after events).groups) parents →
    irq_over parents slot true (changes_from cpu first_world events) ≡ irq_time cpu slot events

shows-none : (limits : Limits) (cpu slot : ℕ) → ShowsIrq limits cpu slot []
unfolding irq_time
shows-none limits cpu slot legal parents more = refl

shows-push : (limits : Limits) (cpu slot : ℕ) (events : List Event) (event : Event) → ShowsIrq limits cpu slot events → ShowsIrq limits cpu slot (events ++ event ∷ [])
shows-push limits cpu slot events event before legal parents more =
    let first = legal_prefix limits first_world events (event ∷ []) legal in
    let allowed = legal_last limits first_world events event legal in
    let world = legal_after limits events first in
    let fewer = fewer_before events event parents more in
    let sums = before first parents fewer in
    let time = irq_by_event cpu slot events event in
    ⊎_elim
    (λ off.
    let same = ap (irq_over parents slot true) (changes_same cpu events event off) in
    let none = (stays_untouched limits (after events) event allowed cpu off.none parents slot).2 in
    let part = at_most (is_on (after events).groups slot && has_running cpu slot (after events)) (irq_time_by cpu event.act) 0 (omega (arith, none)) in
    omega (arith, same, sums, time, part))
    (λ on.
    let grown = ap (irq_over parents slot true) (changes_grow cpu events event on) ∙ over-push parents slot true (changes_from cpu first_world events) on.change in
    let known = (change_shows limits (after events) event allowed world.once cpu on.change on.one parents slot).2 in
    let part = known ∙ ap (λ b. if b then irq_time_by cpu event.act else 0) (running_later limits (after events) world parents fewer cpu slot) in
    let account : Bool = is_on (after events).groups slot in
    let whole = ap (λ b. if b then irq_in parents slot on.change else 0) (on_as_known limits cpu slot events first)
    ∙ ap (λ n. if account then n else 0) part
    ∙ both_tests account (has_running cpu slot (after events)) (irq_time_by cpu event.act) in
    omega (arith, grown, sums, whole, time))
    (touched_or_not (after events) event cpu)

shows_irq : (limits : Limits) (cpu slot : ℕ) (events : List Event) → ShowsIrq limits cpu slot events
shows_irq limits cpu slot events = by_last (ShowsIrq limits cpu slot) (shows-none limits cpu slot) (shows-push limits cpu slot) events

pub planned_irq_is_irq : PlannedIrqIsIrq
unfolding planned_irq
planned_irq_is_irq limits events legal cpu slot k low =
    let parents : List (Option ℕ) = parents_of (after events).groups in
    let until = until_is cpu events k low in
    ap (irq_over parents slot true) (sym until.changes)
    ∙ shows_irq limits cpu slot (until_change cpu events k) (until_legal limits cpu events k legal) parents (until_prolongs cpu events k)

-- ---- up to a time

-- The interrupt time of all events is the interrupt time of the events up to the processor's last
-- change.
irq_by_own_changes : (limits : Limits) (events : List Event) → AreLegal limits first_world events → (cpu slot : ℕ) → irq_time cpu slot events ≡ irq_time cpu slot (until_change cpu events (length (changes_of cpu events)))
unfolding planned_irq
irq_by_own_changes limits events legal cpu slot =
    let parents : List (Option ℕ) = parents_of (after events).groups in
    let changes : List Change = changes_from cpu first_world events in
    let all : take (length (changes_of cpu events)) changes ≡ changes = take_all (length (changes_of cpu events)) changes (omega (arith, as_many cpu events)) in
    sym (shows_irq limits cpu slot events legal parents ([], sym (append-nil parents)))
    ∙ ap (irq_over parents slot true) (sym all)
    ∙ planned_irq_is_irq limits events legal cpu slot (length (changes_of cpu events)) (omega arith)

irq_up_to : (limits : Limits) (events : List Event) → AreLegal limits first_world events → (cpu slot at : ℕ) → irq_time cpu slot (up_to events at) ≡ irq_time cpu slot (until_change cpu events (count_at cpu events at))
irq_up_to limits events legal cpu slot at =
    let prefix : List Event = up_to events at in
    let parts = up_to_prefix limits first_world events at legal in
    let legally : AreLegal limits first_world prefix = legal_prefix limits first_world prefix parts.0 (subst (AreLegal limits first_world) parts.1 legal) in
    irq_by_own_changes limits prefix legally cpu slot
    ∙ ap (irq_time cpu slot) (sym (until_of_prefix cpu prefix parts.0 (count_at cpu events at) (omega arith)) ∙ ap (λ es. until_change cpu es (count_at cpu events at)) (sym parts.1))

pub planned_irq_until : PlannedIrqUntil
planned_irq_until limits events legal cpu slot at =
    let count = counts_by_plan limits events legal cpu at in
    ap (planned_irq (plan_of cpu events) slot) (sym count.0)
    ∙ planned_irq_is_irq limits events legal cpu slot (count_at cpu events at) count.1
    ∙ sym (irq_up_to limits events legal cpu slot at)
