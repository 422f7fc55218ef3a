-- Defines the plans of all processors (each is the list of a processor's changes), and states when
-- plans represent the events of a trace. Also defines the state of a planner, which builds plans
-- event by event.
use Rattle.std.specs.Prelude.{◌≡◌, ◌≢◌, ◌⊎◌, ℕ, ◌+◌, ◌<◌, ◌≤◌, List, [], ◌∷◌, ◌++◌, length, map, slice_get, slice_index_or, Option, None, Some, Result, Ok, Err, ⊤, true, false, refl}
use Rattle.std.specs.Option.{option_or}
use Rattle.std.specs.List.{All}
use Rattle.psi_base.specs.declared.event.Cause.{Cause}
use Rattle.psi_base.specs.declared.event.Cause.TheVariants as cause
use Rattle.psi_base.specs.declared.event.Event.{Event}
use Rattle.psi_base.specs.declared.event.Fault.{Fault}
use Rattle.psi_base.specs.declared.event.Fault.TheVariants as fault
use Rattle.psi_base.specs.declared.event.Refusal.{Refusal}
use Rattle.psi_base.specs.declared.event.Slot.{Slot}
use Rattle.psi_base.specs.declared.event.TriggerSpec.{TriggerSpec}
use Rattle.psi_counts.specs.declared.changes.Change.{Change}
use Rattle.psi_spec.specs.declared.machine.GroupLife.{GroupLife}
use Rattle.psi_spec.specs.World.{Limits, after, first_world, most_events}
use Rattle.psi_spec.specs.Refusal.{AreLegal, cause_of}
use Rattle.psi_spec.specs.LegalGroups.{AreGroups, leads_to}
use Rattle.psi_spec.specs.Stall.{number_of_slot, parents_of}
use Rattle.psi_spec.specs.Trace.{AllFit, IsAccepted, IsCpuCount}
use Rattle.psi_spec.specs.Within.{last_moment}
use Rattle.psi_counts.specs.Legal.{changes_from}
use Rattle.plan_laws.specs.Plan.{IsAside, IsPlan, PlanView, change_at, current_after, no_plan, plan_of}
use Rattle.psi_spec.specs.Changes.{changes_of}
use Rattle.group_tree.specs.Tree.{IsGroupFault}
use Rattle.slot_clocks.specs.Clocks.{parent_numbers}
use Rattle.slot_clocks.specs.Walk.{slot_in}
use Rattle.std.specs.Coded.{Coded, code_by, coded×, coded_list}
use Rattle.psi_base.specs.contracts.event.TriggerSpec as trigger_row
use Rattle.psi_counts.specs.contracts.changes.Change as change_row
use Rattle.task_table.specs.Stands.{TableView, view_code}
use Rattle.proc_plan.specs.contracts.side.Side as side_row
use Rattle.proc_plan.specs.declared.side.Side.{Side}
use Rattle.psi_spec.specs.Collected.{triggers_of}
use Rattle.proc_plan.specs.Room.{ChangesView}
use Rattle.proc_plan.specs.Sides.{IsSmall, sides_of}

-- ---- the plan of one processor

-- Builds the plan of a processor from its list of changes and the parent of each slot.
abbrev pub plan_view : List Change → List (Option Slot) → PlanView
plan_view changes parents = record { changes = changes; parents = parent_numbers parents }

-- Builds the plan of a processor from the parents of the groups in `groups` and the processor's
-- list of changes.
abbrev pub plan_over : List GroupLife → List Change → PlanView
plan_over groups changes = record { changes = changes; parents = parents_of groups }

-- Builds the plan of each processor from the parents of the groups in `groups` and the processor's
-- list of changes.
abbrev pub plans_over : List GroupLife → List ChangesView → List PlanView
plans_over groups changes = map (λ (changes : ChangesView). plan_over groups changes.list) changes

-- ---- the slots that a change affects

-- `AreConcerned plan k starts`: `starts` has the slots that change number `k + 1` affects directly.
-- They are the slots of the subtracted counts, of the added counts, and of the tasks that run
-- before and after the change. A change that turns a group's accounting on or off subtracts no
-- counts. The first slot is then the slot of this group.
abbrev pub AreConcerned : PlanView → ℕ → List (Option Slot) → Type 0
AreConcerned plan k starts = (change : Change) → slice_get plan.changes k ≡ Some change →
    starts ≡ option_or (slot_in change.account) (slot_in change.minus) ∷ slot_in change.plus ∷ slot_in (current_after plan k)
    ∷ slot_in change.current ∷ []

-- `IsOnNone parents starts slot`: `slot` isn't in the list `starts`, and isn't an ancestor of a
-- slot in the list.
abbrev pub IsOnNone : List (Option ℕ) → List (Option Slot) → ℕ → Type 0
IsOnNone parents starts slot = All (λ start. leads_to parents (number_of_slot start) slot ≡ false) starts

-- `OthersAreAside plan k starts`: change number `k + 1` affects only the slots in `starts` and
-- their ancestors.
abbrev pub OthersAreAside : PlanView → ℕ → List (Option Slot) → Type 0
OthersAreAside plan k starts = (slot : ℕ) (change : Change) → slice_get plan.changes k ≡ Some change →
    IsOnNone plan.parents starts slot → IsAside plan slot k change

-- ---- the plans of all processors

-- The plans of a trace: the plan of each processor, all groups ever created (`lives`), the
-- triggers, the side events (such as memory samples), and the time (ns) of the last event
-- (`finish`).
pub record PlansView : Type 0 where
  pub plans : List PlanView
  pub lives : List GroupLife
  pub triggers : List TriggerSpec
  pub sides : List Side
  pub finish : ℕ

-- Builds the plans of a trace from their parts.
abbrev pub plans_view : List PlanView → List GroupLife → List TriggerSpec → List Side → ℕ → PlansView
plans_view plans lives triggers sides finish = record { plans = plans; lives = lives; triggers = triggers; sides = sides; finish = finish }

-- `plan_at plans cpu`: the plan of processor `cpu`, or the empty plan if there is no such
-- processor.
abbrev pub plan_at : PlansView → ℕ → PlanView
plan_at plans cpu = slice_index_or plans.plans cpu no_plan

-- `AreSmall sides`: each number of bytes or pages in the side events `sides` is at most 2^60.
abbrev pub AreSmall : List Side → Type 0
AreSmall sides = All (λ (side : Side). IsSmall side.what) sides

-- The invariant of plans. There are 1 to 64 processors. The plan of each processor is valid and has
-- the parents of all groups. The groups satisfy `AreGroups`, the invariant of groups after legal
-- events. Each number of bytes or pages in a side event is at most 2^60.
pub record ArePlans (plans : PlansView) : Type 0 where
  pub counted : IsCpuCount (length plans.plans)
  pub whole : (cpu : ℕ) → cpu < length plans.plans → IsPlan (plan_at plans cpu)
  pub parents : (cpu : ℕ) → cpu < length plans.plans → (plan_at plans cpu).parents ≡ parents_of plans.lives
  pub groups : AreGroups plans.lives
  pub small : AreSmall plans.sides

-- `Represent plans cpus events`: the plans represent the events of a trace with `cpus` processors.
-- Each processor's plan has the changes that the events cause on the processor, in order and with
-- the times of the events. The plans also have the groups, the triggers and the side events of the
-- trace, and the time (ns) of its last event.
pub record Represent (plans : PlansView) (cpus : ℕ) (events : List Event) : Type 0 where
  pub each : length plans.plans ≡ cpus
  pub changes : (cpu : ℕ) → cpu < cpus → map (λ change. Some change) (plan_at plans cpu).changes
      ≡ map (change_at cpu events) (changes_of cpu events)
  pub parents : (cpu : ℕ) → cpu < cpus → (plan_at plans cpu).parents ≡ parents_of (after events).groups
  pub lives : plans.lives ≡ (after events).groups
  pub triggers : plans.triggers ≡ triggers_of events
  pub sides : plans.sides ≡ sides_of events
  pub finish : plans.finish ≡ (after events).last

-- If plans represent events, the plan of each processor is the result of `plan_of` for these
-- events.
abbrev pub PlansAreOfEvents : Type 0
PlansAreOfEvents =
    (plans : PlansView) (cpus : ℕ) (events : List Event) → Represent plans cpus events → (cpu : ℕ) → cpu < cpus
    → plan_at plans cpu ≡ plan_of cpu events

-- ---- the first rejected event

-- `limits_by cpus latest`: the limits of a trace with `cpus` processors and no event after the time
-- `latest` (ns).
abbrev pub limits_by : ℕ → ℕ → Limits
limits_by cpus latest = record { cpus = cpus; latest = latest }

-- `IsRefusedAt limits events line why`: the trace is rejected at its first illegal event, for the
-- first cause `why`. The events start at line 2, after the header, so the line number is the number
-- of events before the illegal event plus two.
pub record IsRefusedAt (limits : Limits) (events : List Event) (line : ℕ) (why : Cause) : Type 0 where
  pub prefix : List Event
  pub event : Event
  pub suffix : List Event
  pub events_are : events ≡ prefix ++ event ∷ suffix
  pub legal : AreLegal limits first_world prefix
  pub cause : cause_of limits (after prefix) event ≡ Some why
  pub line_is : line ≡ length prefix + 2

-- `LacksEnd limits events line why`: all events are legal, but the trace is rejected because its
-- last event isn't `end`. The cause `why` is `NoEnd`, and `line` is the number of the line after
-- the last event.
pub record LacksEnd (limits : Limits) (events : List Event) (line : ℕ) (why : Cause) : Type 0 where
  pub legal : AreLegal limits first_world events
  pub open_ : (after events).ended ≢ true
  pub cause : why ≡ cause.NoEnd
  pub line_is : line ≡ length events + 2

-- `IsRefusal limits events fault`: `fault` is a correct reason to reject `events`: the first
-- illegal event or the missing `end`. `NoMemory` is always allowed.
abbrev pub IsRefusal : Limits → List Event → Fault Refusal → Type 0
IsRefusal limits events (fault.Refused refusal) =
    IsRefusedAt limits events refusal.line refusal.cause ⊎ LacksEnd limits events refusal.line refusal.cause
IsRefusal limits events (fault.NoMemory _) = ⊤

-- ---- the state of a planner

-- The state of a planner. It has the table of tasks after the events added so far. It also has the
-- changes of each processor, the triggers and the side events that these events caused.
pub record PlannerView : Type 0 where
  pub table : TableView
  pub changes : List (List Change)
  pub triggers : List TriggerSpec
  pub sides : List Side

-- Builds the state of a planner from its parts.
abbrev pub planner_view : TableView → List (List Change) → List TriggerSpec → List Side → PlannerView
planner_view table changes triggers sides = record { table = table; changes = changes; triggers = triggers; sides = sides }

-- Encodes the state of a planner as nested pairs, so that proofs can compare states.
abbrev pub planner_code : Coded PlannerView
planner_code =
    code_by (TableView × (List (List Change) × (List TriggerSpec × List Side)))
    (coded× view_code (coded× (coded_list (coded_list change_row.the_row.coded))
    (coded× (coded_list trigger_row.the_row.coded) (coded_list side_row.the_row.coded))))
    (λ p. (p.table, (p.changes, (p.triggers, p.sides)))) (λ p. planner_view p.0 p.1.0 p.1.1.0 p.1.1.1) (λ _. refl)

-- `changes_at planner cpu`: the changes of processor `cpu`, or no changes if there is no such
-- processor.
abbrev pub changes_at : PlannerView → ℕ → List Change
changes_at planner cpu = slice_index_or planner.changes cpu []

-- The invariant of a planner: there is a list of changes for each processor, and the numbers in
-- side events are at most 2^60.
pub record IsPlanner (planner : PlannerView) : Type 0 where
  pub each : length planner.changes ≡ planner.table.limits.cpus
  pub small : AreSmall planner.sides

-- `HasTaken planner limits events`: exactly the events `events` of a trace with the limits `limits`
-- were added to the planner. All events are legal, and their numbers are within the ranges of the
-- trace format.
pub record HasTaken (planner : PlannerView) (limits : Limits) (events : List Event) : Type 0 where
  pub limits_are : planner.table.limits ≡ limits
  pub counted : IsCpuCount limits.cpus
  pub short : limits.latest ≤ last_moment
  pub fit : AllFit events
  pub legal : AreLegal limits first_world events
  pub world : planner.table.world ≡ after events
  pub changes : (cpu : ℕ) → cpu < limits.cpus → changes_at planner cpu ≡ changes_from cpu first_world events
  pub triggers : planner.triggers ≡ triggers_of events
  pub sides : planner.sides ≡ sides_of events

-- `HasTakenAll old new events`: if no events were added to the planner `old`, then exactly `events`
-- were added to the planner `new`, and `events` is an accepted trace.
abbrev pub HasTakenAll : PlannerView → PlannerView → List Event → Type 0
HasTakenAll old new events = (limits : Limits) → HasTaken old limits [] → HasTaken new limits events × IsAccepted limits events

-- `IsRefusedAll old events fault`: if no events were added to the planner `old`, then `fault` is a
-- correct reason to reject `events` (`IsRefusal`).
abbrev pub IsRefusedAll : PlannerView → List Event → Fault Refusal → Type 0
IsRefusedAll old events fault = (limits : Limits) → HasTaken old limits [] → IsRefusal limits events fault

-- `IsFaultAt line fault at`: the fault `at` is `fault` with the line number `line` added to its
-- cause. The fault `NoMemory` has no line number, and stays the same.
abbrev pub IsFaultAt : ℕ → Fault Cause → Fault Refusal → Type 0
IsFaultAt line (fault.Refused why) at = at ≡ fault.Refused (record { line = line; cause = why })
IsFaultAt line (fault.NoMemory none) at = at ≡ fault.NoMemory none

-- `RepresentTaken planner plans`: the plans represent the events that were added to the planner.
abbrev pub RepresentTaken : PlannerView → PlansView → Type 0
RepresentTaken planner plans = (limits : Limits) (events : List Event) → HasTaken planner limits events →
    Represent plans limits.cpus events

-- `HasTrace planner`: for some limits and some list of legal events, exactly these events were
-- added to the planner.
abbrev pub HasTrace : PlannerView → Type 0
HasTrace planner = (limits : Limits) × (events : List Event) × HasTaken planner limits events

-- `PlannerTakes old new event result`: the contract of adding `event` to the planner `old`. On
-- success, the event is legal and was added, and fewer than 4,000,000 events were added before it.
-- On failure, the fault contains the first cause for rejecting the event, or is `NoMemory` if the
-- event is legal.
abbrev pub PlannerTakes : PlannerView → PlannerView → Event → Result (Unit {0}) (Fault Cause) → Type 0
PlannerTakes old new event (Ok x) = (limits : Limits) (events : List Event) → HasTaken old limits events →
    (cause_of limits (after events) event ≡ None) × HasTaken new limits (events ++ event ∷ []) × (length events < most_events)
PlannerTakes old new event (Err fault) = (limits : Limits) (events : List Event) → HasTaken old limits events →
    IsGroupFault (cause_of limits (after events) event) fault

-- If the event `end` was added to a planner, the events added to the planner are a complete and
-- accepted trace.
abbrev pub EndedIsAccepted : Type 0
EndedIsAccepted = (planner : PlannerView) (limits : Limits) (events : List Event) → HasTaken planner limits events →
    planner.table.world.ended ≡ true → IsAccepted limits events
