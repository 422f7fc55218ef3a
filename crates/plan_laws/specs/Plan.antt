-- Defines the plan of a processor, which is the list of the changes that a trace makes on it. A
-- plan determines the states and the clocks of each group after the first `k` changes.
use Rattle.std.specs.Prelude.{◌≡◌, ℕ, ◌+◌, ◌-◌, ◌≤◌, ◌<◌, List, [], ◌∷◌, ◌++◌, length, sum, map, take, filter, slice_get, slice_index_or, nat_le, ◌==◌, ◌&&◌, Bool, true, false, if◌then◌else◌, Option, None, Some}
use Rattle.std.specs.List.{range_with_len}
use Rattle.psi_base.specs.declared.event.Slot.{Slot}
use Rattle.psi_base.specs.declared.event.State.{State}
use Rattle.psi_base.specs.declared.event.Event.{Event}
use Rattle.psi_counts.specs.declared.changes.Counts.{Counts}
use Rattle.psi_counts.specs.declared.changes.Change.{Change}
use Rattle.psi_spec.specs.World.{World, Limits, first_world, after, up_to, most_cpus, most_tasks, most_events}
use Rattle.psi_spec.specs.Refusal.{AreLegal}
use Rattle.psi_spec.specs.Within.{last_moment}
use Rattle.psi_spec.specs.LegalGroups.{AreOlder, HaveParents}
use Rattle.psi_spec.specs.Stall.{is_under, parents_of, holds, stall, moment_of, states, irq_time}
use Rattle.psi_counts.specs.Counts.{shows, mask_holds}
use Rattle.psi_counts.specs.Clock.{ClockView, ClockFollows, IsInTime, IsWholeClock, zero_clock, opened, opened_time}
use Rattle.psi_counts.specs.Touch.{AreAtMost, Follows, HasSlotsBelow, IsOfOne, change_of, on_with, irq_in, is_current_in, is_current_stalled, on_chain}
use Rattle.psi_spec.specs.Changes.{changes_of, count_at, times_after, touches, until_change}
use Rattle.psi_counts.specs.Legal.{changes_from, added, taken}

-- ---- the changes that events make on a processor

-- The change that an optional event makes on processor `cpu`, or `None`. `w` is the world (the
-- tasks and groups) before the event.
abbrev pub change_by : ℕ → World → Option Event → Option Change
change_by cpu w None = None
change_by cpu w (Some event) = change_of w event cpu

-- The change that event number `i` (from 1) makes on processor `cpu`, or `None`.
abbrev pub change_at : ℕ → List Event → ℕ → Option Change
change_at cpu events i = change_by cpu (after (take (i - 1) events)) (slice_get events (i - 1))

-- ---- the plan of a processor

-- The plan of a processor: its changes in order, and the parent of each slot.
pub record PlanView : Type 0 where
  pub changes : List Change
  pub parents : List (Option ℕ)

-- The empty plan, which has no changes and no slots.
abbrev pub no_plan : PlanView
no_plan = record { changes = []; parents = [] }

-- The plan of processor `cpu` for the events of a trace: the changes that the events make on the
-- processor, and the parents of all groups that they create.
abbrev pub plan_of : ℕ → List Event → PlanView
plan_of cpu events = record { changes = changes_from cpu first_world events; parents = parents_of (after events).groups }

-- ---- the state after some changes

-- The sum of the task counts that the first `k` changes add to the group in slot `slot`.
abbrev pub added_after : PlanView → ℕ → ℕ → Counts
added_after plan slot k = added plan.parents slot (take k plan.changes)

-- The sum of the task counts that the first `k` changes subtract from the group in slot `slot`.
abbrev pub taken_after : PlanView → ℕ → ℕ → Counts
taken_after plan slot k = taken plan.parents slot (take k plan.changes)

-- The difference `more - fewer` of each of the four task counts. Requires `fewer <= more`.
abbrev pub less : Counts → Counts → Counts
less more fewer =
    record {
      io = more.io - fewer.io;
      stalled = more.stalled - fewer.stalled;
      running = more.running - fewer.running;
      stalled_running = more.stalled_running - fewer.stalled_running;
    }

-- The task counts of the group in slot `slot` after the first `k` changes: added minus subtracted.
abbrev pub counts_after : PlanView → ℕ → ℕ → Counts
counts_after plan slot k = less (added_after plan slot k) (taken_after plan slot k)

-- `taken <= added <= taken + 65,536`, in which 65,536 is the maximum number of live tasks.
abbrev pub Leaves : ℕ → ℕ → Type 0
Leaves taken added = (taken ≤ added) × (added ≤ taken + most_tasks)

-- For each of the four task counts, `taken <= added`, and the difference is at most 65,536.
pub record LeavesFew (taken added : Counts) : Type 0 where
  pub io : Leaves taken.io added.io
  pub stalled : Leaves taken.stalled added.stalled
  pub running : Leaves taken.running added.running
  pub stalled_running : Leaves taken.stalled_running added.stalled_running

-- After each prefix of the changes, each task count of each group is from 0 to 65,536.
abbrev pub FitsPlan : PlanView → Type 0
FitsPlan plan = (slot k : ℕ) → k ≤ length plan.changes → LeavesFew (taken_after plan slot k) (added_after plan slot k)

-- The running task after the first `k` changes: its slot, and whether it is in a memory stall. The
-- result is `None` if no task runs, or if k = 0.
abbrev pub current_after : PlanView → ℕ → Option (Slot × Bool)
current_after plan k = slice_index_or (None ∷ map (λ (change : Change). change.current) plan.changes) k None

-- Whether the accounting of the group in slot `slot` is on after the changes. `on` is whether it is
-- on before the changes.
abbrev pub on_from : ℕ → Bool → List Change → Bool
on_from slot on [] = on
on_from slot on (change ∷ changes) = on_from slot (on_with slot on change.account) changes

-- Whether the accounting of the group in slot `slot` is on after the first `k` changes. It is on
-- before the first change.
abbrev pub on_after : PlanView → ℕ → ℕ → Bool
on_after plan slot k = on_from slot true (take k plan.changes)

-- Whether the group in slot `slot` is in `state` after the first `k` changes: its accounting is on,
-- and the state follows from its task counts and from the running task after these changes.
unfoldable pub holds_after : State → PlanView → ℕ → ℕ → Bool
holds_after state plan slot k =
    on_after plan slot k && shows state (counts_after plan slot k) (is_current_in plan.parents slot (current_after plan k))
    (is_current_stalled (current_after plan k))

-- The time (ns) of change number `k` (from 1), or 0 for k = 0.
abbrev pub last_change : PlanView → ℕ → ℕ
last_change plan k = slice_index_or (0 ∷ map (λ (change : Change). change.at) plan.changes) k 0

-- The number of changes of a plan at or before time `at` (ns).
abbrev pub changes_up_to : PlanView → ℕ → ℕ
changes_up_to plan at = length (filter (λ (change : Change). nat_le change.at at) plan.changes)

-- The times of a plan's changes never decrease.
abbrev pub AreInOrder : PlanView → Type 0
AreInOrder plan = (k : ℕ) → k < length plan.changes → last_change plan k ≤ last_change plan (k + 1)

-- The total interrupt time (ns) of the first `k` changes, whatever tasks were running.
abbrev pub irq_after : PlanView → ℕ → ℕ
irq_after plan k = sum (map (λ (change : Change). change.irq) (take k plan.changes))

-- The interrupt time in the first `k` changes is at most the time of change `k`, so it fits in 64
-- bits.
abbrev pub IrqsFit : PlanView → Type 0
IrqsFit plan = (k : ℕ) → k ≤ length plan.changes → irq_after plan k ≤ last_change plan k

-- The invariant of plans. A plan has at most 4,000,000 changes, the limit of a trace's events.
-- Their times never decrease, and are at most 60,000,000 s, the longest trace. The counts and the
-- interrupt time are within their limits. A change subtracts and adds the counts of at most one
-- task each, and names existing slots. Each slot except the first has a parent with a smaller slot.
pub record IsPlan (plan : PlanView) : Type 0 where
  pub few : length plan.changes ≤ most_events
  pub order : AreInOrder plan
  pub early : (k : ℕ) → k ≤ length plan.changes → last_change plan k ≤ last_moment
  pub fits : FitsPlan plan
  pub irqs : IrqsFit plan
  pub ones : (k : ℕ) (change : Change) → slice_get plan.changes k ≡ Some change → IsOfOne change
  pub slots : (k : ℕ) (change : Change) → slice_get plan.changes k ≡ Some change → HasSlotsBelow (length plan.parents) change
  pub older : AreOlder plan.parents
  pub parented : HaveParents plan.parents

-- The time (ns) of change number `j` (from 1) if `j` is at most `k`, and `at` for a greater `j`.
abbrev pub change_moment : PlanView → ℕ → ℕ → ℕ → ℕ
change_moment plan k at j = slice_index_or (map (λ (change : Change). change.at) (take k plan.changes)) (j - 1) at

-- The time (ns) from change `j` to change `j + 1` (or to time `at` if j = k) if the group in slot
-- `slot` is in `state` after change `j`, and 0 otherwise.
abbrev pub planned_after : State → PlanView → ℕ → ℕ → ℕ → ℕ → ℕ
planned_after state plan slot k at j =
    if holds_after state plan slot j then change_moment plan k at (j + 1) - change_moment plan k at j else 0

-- The time (ns) that the group in slot `slot` was in `state` up to time `at`, computed from the
-- first `k` changes: the sum of `planned_after` over these changes.
unfoldable pub planned_time : State → PlanView → ℕ → ℕ → ℕ → ℕ
planned_time state plan slot k at = sum (map (planned_after state plan slot k at) (range_with_len 1 k))

-- The interrupt time (ns) of the group in slot `slot` in the changes. A change counts if the
-- group's accounting is on before the change, and if the change's running task is in the group or
-- in a descendant. `on` is whether the accounting is on before the first change.
abbrev pub irq_over : List (Option ℕ) → ℕ → Bool → List Change → ℕ
irq_over parents slot on [] = 0
irq_over parents slot on (change ∷ changes) =
    (if on then irq_in parents slot change else 0) + irq_over parents slot (on_with slot on change.account) changes

-- The interrupt time (ns) of the group in slot `slot` in the first `k` changes.
unfoldable pub planned_irq : PlanView → ℕ → ℕ → ℕ
planned_irq plan slot k = irq_over plan.parents slot true (take k plan.changes)

-- ---- the clock of a group

-- `clock` is a clock of the group in slot `slot` after the first `k` changes of a plan: it is
-- well-formed (nine words), contains the group's states, and gives the times computed from the
-- changes. It may have started before change `k`, if the changes since then left the states
-- unchanged.
pub record IsClock (clock : ClockView) (plan : PlanView) (slot k : ℕ) : Type 0 where
  pub within : k ≤ length plan.changes
  pub whole : IsWholeClock clock
  pub start : clock.start ≤ last_change plan k
  pub mask : (state : State) → mask_holds clock.mask state ≡ holds_after state plan slot k
  pub times : (state : State) (at : ℕ) → last_change plan k ≤ at → opened_time clock at state ≡ planned_time state plan slot k at

-- ---- groups that a change doesn't affect

-- Whether optional task counts are present and belong to a task in the group in slot `slot` or in a
-- descendant.
abbrev pub is_part_in : List (Option ℕ) → ℕ → Option (Slot × Counts) → Bool
is_part_in parents slot None = false
is_part_in parents slot (Some part) = is_under parents part.0.0 slot

-- Whether `account`, which turns a group's accounting on or off, is for the group in `slot`.
abbrev pub is_account_of : ℕ → Option (Slot × Bool) → Bool
is_account_of slot None = false
is_account_of slot (Some account) = account.0.0 == slot

-- Change `k + 1` doesn't affect the group in slot `slot`. The group and its descendants contain
-- neither the task whose counts change nor the tasks that run before and after the change. The
-- group's accounting isn't turned on or off.
pub record IsAside (plan : PlanView) (slot k : ℕ) (change : Change) : Type 0 where
  pub minus : is_part_in plan.parents slot change.minus ≡ false
  pub plus : is_part_in plan.parents slot change.plus ≡ false
  pub before : is_current_in plan.parents slot (current_after plan k) ≡ false
  pub current : is_current_in plan.parents slot change.current ≡ false
  pub account : is_account_of slot change.account ≡ false

-- ---- laws of plans and clocks

-- Each event that touches a processor makes one change on it, in order and at the event's time.
abbrev pub ChangesAreNumbered : Type 0
ChangesAreNumbered = (cpu : ℕ) (events : List Event) →
    (map (λ change. Some change) (changes_from cpu first_world events) ≡ map (change_at cpu events) (changes_of cpu events))
    × (map (λ (change : Change). change.at) (changes_from cpu first_world events) ≡ map (moment_of events 0) (changes_of cpu events))
    × (length (changes_from cpu first_world events) ≡ length (changes_of cpu events))

-- The events up to change `k` make the first `k` changes, and end at the time of change `k`.
abbrev pub ChangesUntil : Type 0
ChangesUntil = (cpu : ℕ) (events : List Event) (k : ℕ) → k ≤ length (changes_of cpu events) →
    (changes_from cpu first_world (until_change cpu events k) ≡ take k (changes_from cpu first_world events))
    × ((after (until_change cpu events k)).last ≡ last_change (plan_of cpu events) k)

-- The states that a plan determines after `k` changes are the states after the events up to change
-- `k`, although the plan has the parents after all events.
abbrev pub PlanShowsStates : Type 0
PlanShowsStates =
    (limits : Limits) (events : List Event) → AreLegal limits first_world events → (state : State) (cpu slot k : ℕ)
    → k ≤ length (changes_of cpu events) →
    holds_after state (plan_of cpu events) slot k ≡ holds state cpu slot (after (until_change cpu events k))

-- The time in a state that is computed from the first `k` changes is the stall time for the events
-- up to change `k`.
abbrev pub PlannedIsStall : Type 0
PlannedIsStall =
    (limits : Limits) (events : List Event) → AreLegal limits first_world events → (state : State) (cpu slot k at : ℕ)
    → k ≤ length (changes_of cpu events) → last_change (plan_of cpu events) k ≤ at →
    planned_time state (plan_of cpu events) slot k at ≡ stall state cpu slot (until_change cpu events k) at

-- If time `at` (ns) isn't before the last event, a group's stall time up to `at` is that of the
-- events up to the processor's last change, because later events touch only other processors.
abbrev pub StallByOwnChanges : Type 0
StallByOwnChanges =
    (limits : Limits) (events : List Event) → AreLegal limits first_world events → (state : State) (cpu slot at : ℕ)
    → (after events).last ≤ at →
    stall state cpu slot events at ≡ stall state cpu slot (until_change cpu events (length (changes_of cpu events))) at

-- An event that doesn't touch a processor leaves the states of each group there unchanged.
abbrev pub StatesStay : Type 0
StatesStay =
    (limits : Limits) (events : List Event) (event : Event) → AreLegal limits first_world (events ++ event ∷ [])
    → (state : State) (cpu slot : ℕ) → touches (after events) (Some event) cpu ≡ false →
    holds state cpu slot (after (events ++ event ∷ [])) ≡ holds state cpu slot (after events)

-- The stall time up to a time (ns) is the stall time for the events up to the processor's last
-- change at or before that time.
abbrev pub StallUpTo : Type 0
StallUpTo = (limits : Limits) (events : List Event) → AreLegal limits first_world events → (state : State) (cpu slot at : ℕ) →
    stall state cpu slot (up_to events at) at ≡ stall state cpu slot (until_change cpu events (count_at cpu events at)) at

-- The number of a processor's changes up to a time (ns) is the number of changes of its plan at or
-- before that time.
abbrev pub CountsByPlan : Type 0
CountsByPlan = (limits : Limits) (events : List Event) → AreLegal limits first_world events → (cpu at : ℕ) →
    (count_at cpu events at ≡ changes_up_to (plan_of cpu events) at) × (count_at cpu events at ≤ length (changes_of cpu events))
    × (last_change (plan_of cpu events) (count_at cpu events at) ≤ at)

-- The plan of legal events satisfies `IsPlan` if the limit of times is at most 60,000,000 s. There
-- must be at most 64 processors, because the time of the last `irq` line is stored only for them.
abbrev pub PlanIsWhole : Type 0
PlanIsWhole =
    (limits : Limits) (events : List Event) → AreLegal limits first_world events → limits.latest ≤ last_moment
    → limits.cpus ≤ most_cpus → (cpu : ℕ) → IsPlan (plan_of cpu events)

-- After change `k + 1`, the computed time in a state grows only while the group is in the state.
abbrev pub PlannedByChange : Type 0
PlannedByChange = (state : State) (plan : PlanView) (slot k at : ℕ) → k < length plan.changes →
    planned_time state plan slot (k + 1) at ≡ planned_time state plan slot k (last_change plan (k + 1))
    + (if holds_after state plan slot (k + 1) then at - last_change plan (k + 1) else 0)

-- Before the first change, the clock that consists of zeros is a valid clock of each group.
abbrev pub ZeroIsClock : Type 0
ZeroIsClock = (plan : PlanView) (slot : ℕ) → IsClock zero_clock plan slot 0

-- The clock `next` is valid for a group after change `k + 1` under three conditions: it is
-- well-formed, it follows a clock `one` that is valid for the group after change `k`, and it
-- contains the group's states after change `k + 1`.
abbrev pub FollowedIsClock : Type 0
FollowedIsClock =
    (one next : ClockView) (plan : PlanView) (slot k : ℕ) → IsClock one plan slot k → k < length plan.changes
    → last_change plan k ≤ last_change plan (k + 1) → IsWholeClock next → ClockFollows one (last_change plan (k + 1)) next
    → ((state : State) → mask_holds next.mask state ≡ holds_after state plan slot (k + 1)) → IsClock next plan slot (k + 1)

-- A clock of a group can be advanced to any time (ns) at or after the last change.
abbrev pub ClockIsInTime : Type 0
ClockIsInTime =
    (clock : ClockView) (plan : PlanView) (slot k at : ℕ) → IsPlan plan → IsClock clock plan slot k → last_change plan k ≤ at
    → at ≤ last_moment → IsInTime clock at

-- The empty plan satisfies the invariant `IsPlan`.
abbrev pub EmptyIsPlan : Type 0
EmptyIsPlan = IsPlan no_plan

-- A clock of a group remains valid after a change that leaves the group's states unchanged.
abbrev pub KeptIsClock : Type 0
KeptIsClock =
    (clock : ClockView) (plan : PlanView) (slot k : ℕ) → IsClock clock plan slot k → k < length plan.changes
    → last_change plan k ≤ last_change plan (k + 1) →
    ((state : State) → holds_after state plan slot (k + 1) ≡ holds_after state plan slot k) → IsClock clock plan slot (k + 1)

-- If the counts of a plan fit (`FitsPlan`), a group's task counts after a change are its counts
-- before the change, minus those that the change subtracts from the group, plus those that it adds.
abbrev pub CountsByChange : Type 0
CountsByChange = (plan : PlanView) → FitsPlan plan → (slot k : ℕ) (change : Change) → slice_get plan.changes k ≡ Some change →
    Follows (counts_after plan slot k) (on_chain plan.parents slot change.minus) (on_chain plan.parents slot change.plus)
    (counts_after plan slot (k + 1))

-- If a plan's counts fit, the counts after each prefix of the changes are at most 65,536.
abbrev pub PlanCountsAreFew : Type 0
PlanCountsAreFew =
    (plan : PlanView) → FitsPlan plan → (slot k : ℕ) → k ≤ length plan.changes → AreAtMost most_tasks (counts_after plan slot k)

-- A change turns a group's accounting on or off, or leaves it unchanged (`on_with`).
abbrev pub OnByChange : Type 0
OnByChange = (plan : PlanView) (slot k : ℕ) (change : Change) → slice_get plan.changes k ≡ Some change →
    on_after plan slot (k + 1) ≡ on_with slot (on_after plan slot k) change.account

-- The accounting of each group is on before the first change.
abbrev pub OnAtFirst : Type 0
OnAtFirst = (plan : PlanView) (slot : ℕ) → on_after plan slot 0 ≡ true

-- A change determines the running task and the last time of a plan after the change.
abbrev pub CurrentByChange : Type 0
CurrentByChange =
    (plan : PlanView) (k : ℕ) (change : Change) → slice_get plan.changes k ≡ Some change
    → (current_after plan (k + 1) ≡ change.current) × (last_change plan (k + 1) ≡ change.at)

-- A change that doesn't affect a group leaves the group's states unchanged.
abbrev pub AsideStays : Type 0
AsideStays =
    (state : State) (plan : PlanView) (slot k : ℕ) (change : Change) → slice_get plan.changes k ≡ Some change → IsAside plan slot k change →
    holds_after state plan slot (k + 1) ≡ holds_after state plan slot k

-- The number of changes up to time `at` (ns) is `k` if change `k` is the last at or before `at`.
abbrev pub PlaceOfMoment : Type 0
PlaceOfMoment =
    (plan : PlanView) → AreInOrder plan → (k at : ℕ) → k ≤ length plan.changes → last_change plan k ≤ at
    → (k < length plan.changes → at < last_change plan (k + 1)) → changes_up_to plan at ≡ k

-- The times (ns) that the group in slot `slot` was in each of the seven states up to time `at`,
-- computed from the first `k` changes, in the order of the states.
abbrev pub planned : PlanView → ℕ → ℕ → ℕ → List ℕ
planned plan slot k at = map (λ state. planned_time state plan slot k at) states

-- A group's clock after `k` changes shows the times that are computed from these changes.
abbrev pub ClockShowsPlanned : Type 0
ClockShowsPlanned =
    (clock : ClockView) (plan : PlanView) (slot k at : ℕ) → IsClock clock plan slot k → last_change plan k ≤ at
    → opened clock at ≡ planned plan slot k at

-- The times in the states that are computed from the changes up to a time (ns) are the stall times
-- up to that time.
abbrev pub PlannedUntil : Type 0
PlannedUntil = (limits : Limits) (events : List Event) → AreLegal limits first_world events → (cpu slot at : ℕ) →
    planned (plan_of cpu events) slot (changes_up_to (plan_of cpu events) at) at
    ≡ map (λ state. stall state cpu slot (up_to events at) at) states

-- The times in the states that are computed from the first `k` changes are the group's stall times
-- (`times_after` of psi_spec).
abbrev pub PlannedAfter : Type 0
PlannedAfter = (limits : Limits) (events : List Event) → AreLegal limits first_world events → (cpu slot k at : ℕ) →
    k ≤ length (changes_of cpu events) → last_change (plan_of cpu events) k ≤ at →
    planned (plan_of cpu events) slot k at ≡ times_after cpu slot events k at

-- Before the first change, the interrupt time that is computed from the plan is 0.
abbrev pub NoPlannedIrq : Type 0
NoPlannedIrq = (plan : PlanView) (slot : ℕ) → planned_irq plan slot 0 ≡ 0

-- A change adds its interrupt time (`irq_in`) if the group's accounting is on before the change.
abbrev pub PlannedIrqByChange : Type 0
PlannedIrqByChange = (plan : PlanView) (slot k : ℕ) (change : Change) → slice_get plan.changes k ≡ Some change →
    planned_irq plan slot (k + 1) ≡ planned_irq plan slot k + (if on_after plan slot k then irq_in plan.parents slot change else 0)

-- The interrupt time that is computed from the first `k` changes is at most the time of change `k`.
abbrev pub PlannedIrqFits : Type 0
PlannedIrqFits = (plan : PlanView) → IrqsFit plan → (slot k : ℕ) → k ≤ length plan.changes → planned_irq plan slot k ≤ last_change plan k

-- The interrupt time that is computed from the first `k` changes is the interrupt time for the
-- events up to change `k`.
abbrev pub PlannedIrqIsIrq : Type 0
PlannedIrqIsIrq =
    (limits : Limits) (events : List Event) → AreLegal limits first_world events → (cpu slot k : ℕ) → k ≤ length (changes_of cpu events) →
    planned_irq (plan_of cpu events) slot k ≡ irq_time cpu slot (until_change cpu events k)

-- The interrupt time that is computed from the changes up to a time (ns) is the interrupt time up
-- to that time.
abbrev pub PlannedIrqUntil : Type 0
PlannedIrqUntil = (limits : Limits) (events : List Event) → AreLegal limits first_world events → (cpu slot at : ℕ) →
    planned_irq (plan_of cpu events) slot (changes_up_to (plan_of cpu events) at) ≡ irq_time cpu slot (up_to events at)
