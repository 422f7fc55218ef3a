-- Clocks of the slots of a plan: how they are advanced, and the times that they show.
use Rattle.std.proofs.Common.{◌≡◌, ℕ, ◌+◌, ◌-◌, ◌≤◌, refl, sym, ap, ◌∙◌, arith, Bool, true, false, zero, suc, length}
use Rattle.std.specs.Prelude.{if◌then◌else◌, slice_index}
use Rattle.psi_base.specs.declared.event.State.{State}
use Rattle.psi_base.specs.declared.event.State.TheVariants.{IoSome, IoFull, MemSome, MemFull, CpuSome, CpuFull, Nonidle}
use Rattle.psi_spec.specs.Stall.{state_number}
use Rattle.psi_counts.specs.Counts.{mask_holds}
use Rattle.psi_counts.specs.Clock.{ClockView, zero_clock, opened_time}
use Rattle.plan_laws.specs.Plan.{AreInOrder, ClockIsInTime, ClockShowsPlanned, PlanView, holds_after, last_change, planned_time, FollowedIsClock, KeptIsClock, ZeroIsClock}
use Rattle.psi_counts.proofs.ClockLaws.{clock_stays, map_states, zero_time}
use Rattle.plan_laws.proofs.PlanTimes.{planned_by_change}

-- ---- before the first change

nothing_holds : (plan : PlanView) (slot : ℕ) (state : State) → mask_holds zero_clock.mask state ≡ holds_after state plan slot 0
unfolding holds_after
nothing_holds plan slot IoSome = refl
nothing_holds plan slot IoFull = refl
nothing_holds plan slot MemSome = refl
nothing_holds plan slot MemFull = refl
nothing_holds plan slot CpuSome = refl
nothing_holds plan slot CpuFull = refl
nothing_holds plan slot Nonidle = refl

nothing_planned : (state : State) (plan : PlanView) (slot at : ℕ) → planned_time state plan slot 0 at ≡ 0
unfolding planned_time
nothing_planned state plan slot at = refl

pub zero_is_clock : ZeroIsClock
zero_is_clock plan slot = record {
  within = omega arith;
  whole = record { times = refl; mask = omega arith };
  start = omega arith;
  mask = nothing_holds plan slot;
  times = λ state at _. zero_time at state ∙ sym (nothing_planned state plan slot at);
}

-- ---- a change more

pub followed_is_clock : FollowedIsClock
followed_is_clock one next plan slot k is room later whole follows masks = record {
  within = omega (arith, room);
  whole = whole;
  start = follows.start;
  mask = masks;
  times = λ state at from.
      follows.times state at from
      ∙ ap (λ n. n + (if mask_holds next.mask state then at - last_change plan (k + 1) else 0)) (is.times state (last_change plan (k + 1)) later)
      ∙ ap (λ b. planned_time state plan slot k (last_change plan (k + 1)) + (if b then at - last_change plan (k + 1) else 0)) (masks state)
      ∙ sym (planned_by_change state plan slot k at room);
}

pub kept_is_clock : KeptIsClock
kept_is_clock clock plan slot k is room later same =
    followed_is_clock clock clock plan slot k is room later is.whole (clock_stays clock (last_change plan (k + 1)) (omega (arith, is.start, later))) (λ state. is.mask state ∙ sym (same state))

-- ---- how long a clock runs

no_more : (held : Bool) (time moment at : ℕ) → time ≤ moment → moment ≤ at → time + (if held then at - moment else 0) ≤ at
no_more true time moment at within later = omega (arith, within, later)
no_more false time moment at within later = omega (arith, within, later)

-- The planned time of a state up to a time is at most that time.
planned_within : (state : State) (plan : PlanView) (slot k at : ℕ) → AreInOrder plan → k ≤ length plan.changes → last_change plan k ≤ at → planned_time state plan slot k at ≤ at
planned_within state plan slot zero at order room from = omega (arith, nothing_planned state plan slot at)
planned_within state plan slot (suc k) at order room from =
    let next : suc k ≡ k + 1 = omega arith in
    let moment : last_change plan (suc k) ≡ last_change plan (k + 1) = ap (last_change plan) next in
    let before = planned_within state plan slot k (last_change plan (k + 1)) order (omega (arith, room)) (order k (omega (arith, room))) in
    let step = planned_by_change state plan slot k at (omega (arith, room)) in
    let all = no_more (holds_after state plan slot (k + 1)) (planned_time state plan slot k (last_change plan (k + 1))) (last_change plan (k + 1)) at before (omega (arith, from, moment)) in
    let same : planned_time state plan slot (suc k) at ≡ planned_time state plan slot (k + 1) at = ap (λ n. planned_time state plan slot n at) next in
    omega (arith, same, step, all)

-- The time in a state up to a clock's start is at most the time in the state up to any later time.
start_time : (clock : ClockView) (at : ℕ) (state : State) → slice_index clock.times (state_number state) ≤ opened_time clock at state
start_time clock at state = omega arith

pub clock_is_in_time : ClockIsInTime
clock_is_in_time clock plan slot k at plan_is is from to = record {
  started = omega (arith, is.start, from);
  moment = to;
  times = λ state.
      let known = is.times state (last_change plan k) (omega arith) in
      let within = planned_within state plan slot k (last_change plan k) plan_is.order is.within (omega arith) in
      omega (arith, start_time clock (last_change plan k) state, known, within, plan_is.early k is.within);
}

-- ---- the times of a clock

pub clock_shows_planned : ClockShowsPlanned
clock_shows_planned clock plan slot k at is from = map_states (opened_time clock at) (λ state. planned_time state plan slot k at) (λ state. is.times state at from)
