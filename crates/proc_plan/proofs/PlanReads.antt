-- Proves the results of the methods of a plan.
use Rattle.std.proofs.Common.{◌≡◌, ℕ, zero, suc, ◌+◌, ◌-◌, ◌≤◌, ◌<◌, List, length, refl, sym, ap, ◌∙◌, subst, arith, Bool, true, false, Option, None, Some, IsSome, IfSome, ◌==◌}
use Rattle.std.specs.Prelude.{nat_le, slice_get, slice_index_or, ◌↔◌}
use Rattle.std.specs.Option.{option_or}
use Rattle.std.specs.List.Sorted.{IsPartitionPoint, IsPartitionedBy}
use Rattle.std.proofs.lemmas.Bool.Decides.{nat_tests}
use Rattle.std.proofs.lemmas.List.{get_or-map}
use Rattle.psi_base.specs.declared.event.Slot.{Slot}
use Rattle.psi_counts.specs.declared.changes.Change.{Change}
use Rattle.psi_counts.specs.declared.changes.Counts.{Counts}
use Rattle.psi_spec.specs.LegalGroups.{AreOlder, HaveParents, leads_to}
use Rattle.psi_spec.specs.Stall.{is_under, number_of_slot}
use Rattle.plan_laws.specs.Plan.{AreInOrder, PlanView, changes_up_to, current_after, is_account_of, is_part_in, last_change}
use Rattle.psi_counts.specs.Touch.{HasNoCounts, IsOfOne, is_current_in}
use Rattle.plan_laws.proofs.PlanSteps.{place_of_moment}
use Rattle.slot_clocks.specs.Walk.{slot_in}
use Rattle.proc_plan.specs.Plans.{AreConcerned, IsOnNone, OthersAreAside}
use Rattle.proc_plan.proofs.Upward.{at_itself}

-- ---- times

-- The time of the change at index `i` is the time of change i + 1 of the plan.
pub moment_at : (plan : PlanView) (i : ℕ) (d : Change) → i < length plan.changes → (slice_index_or plan.changes i d).at ≡ last_change plan (i + 1)
moment_at plan i d room =
    let next : i + 1 ≡ suc i = omega arith in
    sym (get_or-map (λ (change : Change). change.at) plan.changes i d 0 room) ∙ sym (ap (last_change plan) next)

-- The times of the changes of a plan never decrease.
rises : (plan : PlanView) → AreInOrder plan → (i n : ℕ) → i + n ≤ length plan.changes → last_change plan i ≤ last_change plan (i + n)
rises plan order i zero room = let same : last_change plan i ≡ last_change plan (i + 0) = ap (last_change plan) (let e : i ≡ i + 0 = omega arith in e) in omega (arith, same)
rises plan order i (suc n) room =
    let prefix = rises plan order i n (omega (arith, room)) in
    let step = order (i + n) (omega (arith, room)) in
    let same : last_change plan (i + suc n) ≡ last_change plan (i + n + 1) = ap (last_change plan) (let e : i + suc n ≡ i + n + 1 = omega arith in e) in
    omega (arith, prefix, step, same)

earlier : (one other at : ℕ) → one ≤ other → nat_le other at ≡ true → nat_le one at ≡ true
earlier one other at low is = grind (arith, nat_tests)

-- The changes up to a time come before all later changes.
pub come_first : (plan : PlanView) (at : ℕ) → AreInOrder plan → IsPartitionedBy (λ (change : Change). nat_le change.at at) plan.changes
come_first plan at order i j d low room up =
    let later = rises plan order (i + 1) (j - i) (omega (arith, low, room)) in
    let same : last_change plan (i + 1 + (j - i)) ≡ last_change plan (j + 1) = ap (last_change plan) (let e : i + 1 + (j - i) ≡ j + 1 = omega (arith, low) in e) in
    earlier (slice_index_or plan.changes i d).at (slice_index_or plan.changes j d).at at (omega (arith, later, same, moment_at plan i d (omega (arith, low, room)), moment_at plan j d room)) up

is_early : (moment at : ℕ) → nat_le moment at ≡ true → moment ≤ at
is_early moment at is = grind (arith, nat_tests)

is_late : (moment at : ℕ) → nat_le moment at ≡ false → at < moment
is_late moment at is = grind (arith, nat_tests)

last_before : (plan : PlanView) (at k : ℕ) (d : Change) → k ≤ length plan.changes → ((j : ℕ) (e : Change) → 0 ≤ j → j < k → nat_le (slice_index_or plan.changes j e).at at ≡ true) → last_change plan k ≤ at
last_before plan at zero d room early = omega arith
last_before plan at (suc k) d room early =
    let here = is_early (slice_index_or plan.changes k d).at at (early k d (omega arith) (omega arith)) in
    let same : last_change plan (suc k) ≡ last_change plan (k + 1) = ap (last_change plan) (let e : suc k ≡ k + 1 = omega arith in e) in
    omega (arith, here, same, moment_at plan k d (omega (arith, room)))

-- `IsUntil plan at k`: `k` is the number of changes up to the time `at` (ns). Change `k` isn't
-- later than `at`, and the next change is later.
pub record IsUntil (plan : PlanView) (at k : ℕ) : Type 0 where
  pub until : k ≡ changes_up_to plan at
  pub within : k ≤ length plan.changes
  pub past : last_change plan k ≤ at
  pub next : k < length plan.changes → at < last_change plan (k + 1)

pub point_counts : (plan : PlanView) (at k : ℕ) → AreInOrder plan → k ≤ length plan.changes → IsPartitionPoint (λ (change : Change). nat_le change.at at ≡ true) (λ (change : Change). nat_le change.at at ≡ false) plan.changes k → IsUntil plan at k
point_counts plan at k order room point =
    let none : Change = record { at = 0; minus = None; plus = None; current = None; irq = 0; account = None } in
    let past = last_before plan at k none room point.0 in
    let next : k < length plan.changes → at < last_change plan (k + 1) = λ more.
    let late = is_late (slice_index_or plan.changes k none).at at (point.1 k none (omega arith) more) in
    omega (arith, late, moment_at plan k none more) in
    record {
      until = sym (place_of_moment plan order k at room past next);
      within = room;
      past = past;
      next = next;
    }

-- ---- the chains of a change

part_off : (parents : List (Option ℕ)) (slot : ℕ) (side : Option (Slot × Counts)) → leads_to parents (number_of_slot (slot_in side)) slot ≡ false → is_part_in parents slot side ≡ false
part_off parents slot None off = refl
part_off parents slot (Some part) off = off

current_off : (parents : List (Option ℕ)) (slot : ℕ) (current : Option (Slot × Bool)) → leads_to parents (number_of_slot (slot_in current)) slot ≡ false → is_current_in parents slot current ≡ false
current_off parents slot None off = refl
current_off parents slot (Some running) off = off

-- If a slot isn't on the first chain of a change, the change neither subtracts counts from the slot
-- nor switches its accounting.
account_off : (parents : List (Option ℕ)) (slot : ℕ) (account : Option (Slot × Bool)) (minus : Option (Slot × Counts)) → IfSome account (λ _. minus ≡ None) → leads_to parents (number_of_slot (option_or (slot_in account) (slot_in minus))) slot ≡ false
    → (is_part_in parents slot minus ≡ false) × (is_account_of slot account ≡ false)
account_off parents slot None minus none off = (part_off parents slot minus off, refl)
account_off parents slot (Some account) minus none off = (
  ap (is_part_in parents slot) none,
  elim (account.0.0 == slot) as (λ b. (account.0.0 == slot) ≡ b → b ≡ false) [
    | true ↦ λ same.
        let equal : account.0.0 ≡ slot = grind (arith, nat_tests) in
        absurd (cc (sym off ∙ ap (is_under parents account.0.0) (sym equal) ∙ at_itself parents account.0.0))
    | false ↦ λ _. refl
  ] refl,
)

pub no_minus : (change : Change) → IsOfOne change → IfSome change.account (λ _. change.minus ≡ None)
no_minus change is = alone change.account is.account
  where
    alone : (account : Option (Slot × Bool)) → IfSome account (λ _. HasNoCounts change × (change.irq ≡ 0)) → IfSome account (λ _. change.minus ≡ None)
    alone None is = tt
    alone (Some account) is = is.0.0

-- Two changes at the same index of a plan are equal.
pub same_change : (plan : PlanView) (k : ℕ) (one other : Change) → slice_get plan.changes k ≡ Some one → slice_get plan.changes k ≡ Some other → one ≡ other
same_change plan k one other is too = let same : Some one ≡ Some other = sym is ∙ too in cc same

-- A change doesn't affect a slot that is on none of its chains.
pub others_aside : (plan : PlanView) (k : ℕ) (starts : List (Option Slot)) (one : Change) → slice_get plan.changes k ≡ Some one → IsOfOne one → AreConcerned plan k starts → OthersAreAside plan k starts
others_aside plan k starts one there is_one are slot change is off =
    let of_one : IsOfOne change = subst IsOfOne (same_change plan k one change there is) is_one in
    let none = subst (λ starts. IsOnNone plan.parents starts slot) (are change is) off in
    let first = account_off plan.parents slot change.account change.minus (no_minus change of_one) (none 0 None (omega arith)) in
    record {
      minus = first.0;
      account = first.1;
      plus = part_off plan.parents slot change.plus (none 1 None (omega arith));
      before = current_off plan.parents slot (current_after plan k) (none 2 None (omega arith));
      current = current_off plan.parents slot change.current (none 3 None (omega arith));
    }

-- ---- parents

-- A slot has no parent exactly if it is the root's slot.
pub root_alone : (parents : List (Option ℕ)) (slot : ℕ) (parent : Option Slot) → AreOlder parents → HaveParents parents → slot < length parents → number_of_slot parent ≡ slice_index_or parents slot None → (parent ≡ None) ↔ (slot ≡ 0)
root_alone parents zero None older parented room is = (λ none. refl, λ root. refl)
root_alone parents zero (Some parent) older parented room is = absurd (let low = older 0 parent.0 (sym is) in omega (arith, low))
root_alone parents (suc slot) None older parented room is = absurd (parentless (slice_index_or parents (suc slot) None) (parented (suc slot) (omega arith) room) (sym is))
  where
    parentless : (o : Option ℕ) → IsSome o → o ≡ None → ⊥
    parentless None some is = cc some
    parentless (Some n) some is = cc is
root_alone parents (suc slot) (Some parent) older parented room is = (λ none. absurd (cc none), λ root. absurd (omega (arith, root)))
