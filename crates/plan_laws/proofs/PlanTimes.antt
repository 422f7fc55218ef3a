-- Planned time, change by change, and the number of changes up to a time.
use Rattle.std.proofs.Common.{◌≡◌, ℕ, suc, ◌+◌, ◌-◌, ◌≤◌, ◌<◌, List, [], ◌∷◌, length, map, take, cond, refl, sym, ap, ◌∙◌, arith, ◌⊎◌, ⊎_elim}
use Rattle.std.specs.Prelude.{slice_index_or, if◌then◌else◌, nat_le, sum}
use Rattle.std.specs.List.{count_by, range_with_len}
use Rattle.std.proofs.lemmas.List.{length-map, length-take-le, take-map, get_or_default, get_or_past, get_or-take}
use Rattle.std.proofs.lemmas.List.FromFn.{sum_by-map-range_with_len_more}
use Rattle.std.proofs.lemmas.List.Sums.{length-filter, sum_by-cons}
use Rattle.psi_base.specs.declared.event.State.{State}
use Rattle.psi_counts.specs.declared.changes.Change.{Change}
use Rattle.plan_laws.specs.Plan.{PlanView, changes_up_to, change_moment, holds_after, last_change, planned_after, planned_time, PlannedByChange}
use Rattle.psi_spec.proofs.StallLaws.{map_same}

-- ---- planned time, change by change

-- The times (ns) of the changes.
abbrev pub moments : List Change → List ℕ
moments changes = map (λ (change : Change). change.at) changes

moment_within : (plan : PlanView) (n at j : ℕ) → n ≤ length plan.changes → 1 ≤ j → j ≤ n → change_moment plan n at j ≡ slice_index_or (moments plan.changes) (j - 1) 0
moment_within plan n at j room low high =
    let len : length (moments plan.changes) ≡ length plan.changes = length-map plan.changes (λ (c : Change). c.at) in
    ap (λ is. slice_index_or is (j - 1) at) (sym (take-map (λ (c : Change). c.at) n plan.changes))
    ∙ get_or-take n (moments plan.changes) (j - 1) at (omega (arith, low, high))
    ∙ get_or_default (moments plan.changes) (j - 1) at 0 (omega (arith, len, room, low, high))

moment_past : (plan : PlanView) (n at j : ℕ) → n ≤ length plan.changes → n < j → change_moment plan n at j ≡ at
moment_past plan n at j room past =
    let len : length (moments (take n plan.changes)) ≡ n = length-map (take n plan.changes) (λ (c : Change). c.at) ∙ length-take-le n plan.changes room in
    get_or_past (moments (take n plan.changes)) (j - 1) at (omega (arith, len, past))

pub last_change-next : (plan : PlanView) (k : ℕ) → last_change plan (k + 1) ≡ slice_index_or (moments plan.changes) k 0
last_change-next plan k = let next : k + 1 ≡ suc k = omega arith in ap (last_change plan) next

-- The time of one of the first k + 1 changes follows from the first `k` changes and the time of
-- change k + 1.
moment_kept : (plan : PlanView) (k at j : ℕ) → k < length plan.changes → 1 ≤ j → j ≤ k + 1 → change_moment plan (k + 1) at j ≡ change_moment plan k (last_change plan (k + 1)) j
moment_kept plan k at j room low high =
    let case : (j ≤ k) ⊎ (j ≡ k + 1) = grind (arith, high) in
    let whole = moment_within plan (k + 1) at j (omega (arith, room)) low high in
    ⊎_elim
    (λ before. whole ∙ sym (moment_within plan k (last_change plan (k + 1)) j (omega (arith, room)) low before))
    (λ last.
    let place : j - 1 ≡ k = omega (arith, last) in
    whole ∙ ap (λ i. slice_index_or (moments plan.changes) i 0) place ∙ sym (last_change-next plan k) ∙ sym (moment_past plan k (last_change plan (k + 1)) j (omega (arith, room)) (omega (arith, last))))
    case

planned_kept : (state : State) (plan : PlanView) (slot k at j : ℕ) → k < length plan.changes → 1 ≤ j → j < 1 + k → planned_after state plan slot (k + 1) at j ≡ planned_after state plan slot k (last_change plan (k + 1)) j
planned_kept state plan slot k at j room low high =
    let now = moment_kept plan k at j room low (omega (arith, high)) in
    let next = moment_kept plan k at (j + 1) room (omega arith) (omega (arith, high)) in
    rw (now, next) refl

planned_last : (state : State) (plan : PlanView) (slot k at : ℕ) → k < length plan.changes → planned_after state plan slot (k + 1) at (1 + k) ≡ (if holds_after state plan slot (k + 1) then at - last_change plan (k + 1) else 0)
planned_last state plan slot k at room =
    let place : 1 + k ≡ k + 1 = omega arith in
    let next : change_moment plan (k + 1) at (1 + k + 1) ≡ at = moment_past plan (k + 1) at (1 + k + 1) (omega (arith, room)) (omega arith) in
    let back : 1 + k - 1 ≡ k = omega arith in
    let now : change_moment plan (k + 1) at (1 + k) ≡ last_change plan (k + 1) =
    moment_within plan (k + 1) at (1 + k) (omega (arith, room)) (omega arith) (omega arith) ∙ ap (λ i. slice_index_or (moments plan.changes) i 0) back ∙ sym (last_change-next plan k) in
    ap (λ m. if holds_after state plan slot (1 + k) then change_moment plan (k + 1) at (1 + k + 1) - m else 0) now
    ∙ ap (λ m. if holds_after state plan slot (1 + k) then m - last_change plan (k + 1) else 0) next
    ∙ ap (λ j. if holds_after state plan slot j then at - last_change plan (k + 1) else 0) place

pub planned_by_change : PlannedByChange
unfolding planned_time
planned_by_change state plan slot k at room =
    let more = sum_by-map-range_with_len_more (λ x. x) (planned_after state plan slot (k + 1) at) 1 k (1 + k) refl in
    let same = map_same (planned_after state plan slot (k + 1) at) (planned_after state plan slot k (last_change plan (k + 1))) 1 k (λ j low high. planned_kept state plan slot k at j room low high) in
    let last = planned_last state plan slot k at room in
    let prefix : sum (map (planned_after state plan slot (k + 1) at) (range_with_len 1 k)) ≡ sum (map (planned_after state plan slot k (last_change plan (k + 1))) (range_with_len 1 k)) = ap sum same in
    let goal : sum (map (planned_after state plan slot (k + 1) at) (range_with_len 1 (k + 1))) ≡ sum (map (planned_after state plan slot (k + 1) at) (range_with_len 1 k)) + planned_after state plan slot (k + 1) at (1 + k) = more in
    goal ∙ ap (λ n. n + planned_after state plan slot (k + 1) at (1 + k)) prefix ∙ ap (λ n. sum (map (planned_after state plan slot k (last_change plan (k + 1))) (range_with_len 1 k)) + n) last

-- ---- changes up to a time

one_change : (moment at later : ℕ) → at ≤ later → cond (nat_le moment at) 1 0 ≤ cond (nat_le moment later) 1 0
one_change moment at later forward = grind arith

counts_more : (at later : ℕ) → at ≤ later → (changes : List Change) → count_by (λ (change : Change). nat_le change.at at) changes ≤ count_by (λ (change : Change). nat_le change.at later) changes
counts_more at later forward [] = omega arith
counts_more at later forward (change ∷ changes) =
    let before = sum_by-cons (λ (change : Change). cond (nat_le change.at at) 1 0) change changes in
    let suffix = sum_by-cons (λ (change : Change). cond (nat_le change.at later) 1 0) change changes in
    let one = one_change change.at at later forward in
    let others = counts_more at later forward changes in
    omega (arith, before, suffix, one, others)

-- The number of changes up to a later time is at least the number up to an earlier time.
pub changes_more : (plan : PlanView) (at later : ℕ) → at ≤ later → changes_up_to plan at ≤ changes_up_to plan later
changes_more plan at later forward =
    let few = length-filter (λ (change : Change). nat_le change.at at) plan.changes in
    let more = length-filter (λ (change : Change). nat_le change.at later) plan.changes in
    let counts = counts_more at later forward plan.changes in
    omega (arith, few, more, counts)
