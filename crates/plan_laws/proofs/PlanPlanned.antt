-- The planned times up to a time and after some changes are stall times.
use Rattle.std.proofs.Common.{◌≡◌, ℕ, List, [], ◌∷◌, map, refl, sym, ap, ◌∙◌}
use Rattle.psi_base.specs.declared.event.State.{State}
use Rattle.psi_spec.specs.World.{up_to}
use Rattle.psi_spec.specs.Stall.{stall, states}
use Rattle.plan_laws.specs.Plan.{PlannedAfter, PlannedUntil, changes_up_to, plan_of, planned_time}
use Rattle.psi_spec.specs.Changes.{count_at, until_change}
use Rattle.plan_laws.proofs.PlanStalls.{planned_is_stall}
use Rattle.plan_laws.proofs.PlanUpTo.{counts_by_plan, stall_up_to}

-- Times that are equal for each state are equal lists.
same_times : (one other : State → ℕ) (states : List State) → ((state : State) → one state ≡ other state) → map one states ≡ map other states
same_times one other [] same = refl
same_times one other (state ∷ states) same = ap (λ time. time ∷ map one states) (same state) ∙ ap (λ times. other state ∷ times) (same_times one other states same)

pub planned_until : PlannedUntil
planned_until limits events legal cpu slot at =
    let count = counts_by_plan limits events legal cpu at in
    same_times (λ state. planned_time state (plan_of cpu events) slot (changes_up_to (plan_of cpu events) at) at) (λ state. stall state cpu slot (up_to events at) at) states
    (λ state.
    ap (λ k. planned_time state (plan_of cpu events) slot k at) (sym count.0)
    ∙ planned_is_stall limits events legal state cpu slot (count_at cpu events at) at count.1 count.2
    ∙ sym (stall_up_to limits events legal state cpu slot at))

pub planned_after : PlannedAfter
planned_after limits events legal cpu slot k at within past =
    same_times (λ state. planned_time state (plan_of cpu events) slot k at) (λ state. stall state cpu slot (until_change cpu events k) at) states
    (λ state. planned_is_stall limits events legal state cpu slot k at within past)
