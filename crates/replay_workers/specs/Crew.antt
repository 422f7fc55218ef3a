-- Defines the state of a worker pool (`Crew`): the clocks of all processors, the number of changes
-- that each processor has applied, and the tables of times at the ticks that are ready.
use Rattle.std.specs.Prelude.{◌≡◌, ◌⊎◌, ℕ, ◌+◌, ◌-◌, ◌*◌, ◌/◌, ◌<◌, ◌≤◌, List, [], length, map, max, min, slice_index_or, Option, None, Some, is_some, true}
use Rattle.std.specs.List.{All, range_with_len}
use Rattle.atomic_table.specs.Seated.{TableId}
use Rattle.psi_base.specs.declared.event.Slot.{Slot}
use Rattle.psi_base.specs.declared.event.Event.{Event}
use Rattle.psi_spec.specs.Refusal.{AreLegal}
use Rattle.psi_spec.specs.World.{Limits, first_world}
use Rattle.psi_spec.specs.Changes.{RiseWithin}
use Rattle.plan_laws.specs.Plan.{IsClock, IsPlan, PlanView, changes_up_to, last_change, no_plan, planned_irq, planned_time}
use Rattle.pressure_spec.specs.Ticks.{table_until, times_with}
use Rattle.proc_plan.specs.Clocks.{OnPlan}
use Rattle.proc_plan.specs.Plans.{PlansView, Represent, plan_at}
use Rattle.clock_row.specs.declared.reader.Sample.{Sample}
use Rattle.clock_row.specs.declared.view.ReaderView.{ReaderView}
use Rattle.clock_row.specs.Steps.{new_reader}
use Rattle.clock_row.specs.Tries.{IsTried, tries_of}
use Rattle.aggregate.specs.Table.{HasSizes, times_at}
use Rattle.replay_workers.specs.declared.ticks.Ticks.{Ticks}

-- ---- ticks

-- `moment_in ticks j`: the time (ns) of tick `j` in `ticks`, numbered from 0.
abbrev pub moment_in : Ticks → ℕ → ℕ
moment_in ticks j = ticks.first + j * ticks.length

-- Returns the times (ns) of all ticks in the sequence.
abbrev pub moments_of : Ticks → List ℕ
moments_of ticks = map (moment_in ticks) (range_with_len 0 ticks.count)

-- Returns the time (ns) of the last tick in the sequence.
abbrev pub last_of : Ticks → ℕ
last_of ticks = moment_in ticks (ticks.count - 1)

-- ---- the worker pool

-- The live samples that were taken of a processor in the last interval, and the state of the reader
-- that took them.
pub record WatchView : Type 0 where
  pub samples : List Sample
  pub reader : ReaderView

-- The state of a worker pool. `plans` has the plans of a trace, and `clocks` has the clocks of each
-- processor. `rows` has the seqlock that contains the processor's clocks, or `None` for plain
-- clocks. `ready` has the times (ns) of the ticks whose tables are ready. `room` is the maximum
-- number of ticks by which the pool advances at once. `requested` is the number of live samples of
-- each processor in an interval. `watches` has these samples, if any are taken.
pub record CrewView : Type 0 where
  pub plans : PlansView
  pub clocks : List OnPlan
  pub rows : List (Option TableId)
  pub ready : List ℕ
  pub room : ℕ
  pub requested : ℕ
  pub watches : List WatchView

-- The maximum size of the stored times of all ticks: 64 MB. A single tick may need more.
abbrev pub most_kept : ℕ
most_kept = 64000000

-- The maximum number of ticks by which a worker pool advances at once. A greater number wouldn't
-- noticeably reduce the cost of starting threads.
abbrev pub most_ahead : ℕ
most_ahead = 256

-- `room_of cpus slots moments`: the maximum number of ticks by which a worker pool advances at
-- once, for a trace of `moments` ticks. This is the number of ticks whose times fit into
-- `most_kept` bytes, at 64 bytes for each group and processor. The number is limited to
-- `most_ahead` and to `moments`. The result is at least 1.
abbrev pub room_of : ℕ → ℕ → ℕ → ℕ
room_of cpus slots moments = max (min (min (most_kept / max (64 * (slots * cpus)) 1) moments) most_ahead) 1

-- `clocks_at clocks cpu`: the clocks of processor `cpu`.
abbrev pub clocks_at : List OnPlan → ℕ → OnPlan
clocks_at clocks cpu = slice_index_or clocks cpu (record { plan = no_plan; made = 0 })

-- `row_at rows cpu`: the seqlock that contains the clocks of processor `cpu`, or `None` for plain
-- clocks.
abbrev pub row_at : List (Option TableId) → ℕ → Option TableId
row_at rows cpu = slice_index_or rows cpu None

-- The clocks of every processor are in a seqlock.
abbrev pub AreInRows : PlansView → List (Option TableId) → Type 0
AreInRows plans rows = (cpu : ℕ) → cpu < length plans.plans → is_some (row_at rows cpu) ≡ true

-- `AreOnPlans plans clocks`: the clocks of each processor advance by the processor's plan. The plan
-- is valid and has the parent of each group.
pub record AreOnPlans (plans : PlansView) (clocks : List OnPlan) : Type 0 where
  pub each : length clocks ≡ length plans.plans
  pub on : (cpu : ℕ) → cpu < length clocks → (clocks_at clocks cpu).plan ≡ plan_at plans cpu
  pub whole : (cpu : ℕ) → cpu < length clocks → IsPlan (plan_at plans cpu)
  pub slots : (cpu : ℕ) → cpu < length clocks → length (plan_at plans cpu).parents ≡ length plans.lives

-- `AreNotPast plans clocks at`: no processor has applied a change later than the time `at` (ns).
pub record AreNotPast (plans : PlansView) (clocks : List OnPlan) (at : ℕ) : Type 0 where
  pub on_plans : AreOnPlans plans clocks
  pub not_past : (cpu : ℕ) → cpu < length clocks → (clocks_at clocks cpu).made ≤ changes_up_to (plan_at plans cpu) at

-- `AreAt plans clocks at`: each processor has applied exactly its changes up to the time `at` (ns).
pub record AreAt (plans : PlansView) (clocks : List OnPlan) (at : ℕ) : Type 0 where
  pub on_plans : AreOnPlans plans clocks
  pub there : (cpu : ℕ) → cpu < length clocks → (clocks_at clocks cpu).made ≡ changes_up_to (plan_at plans cpu) at
  pub past : (cpu : ℕ) → cpu < length clocks → last_change (plan_at plans cpu) (changes_up_to (plan_at plans cpu) at) ≤ at

-- `planned_with_irq plan slot k at`: the times (ns) of the group in `slot` at the time `at` (ns),
-- as computed from the first k changes of the plan. These are the time in each state and the
-- interrupt time.
abbrev pub planned_with_irq : PlanView → ℕ → ℕ → ℕ → List ℕ
planned_with_irq plan slot k at = times_with (λ state. planned_time state plan slot k at) (planned_irq plan slot k)

-- `times_by plan slot at`: the times (ns) of the group in `slot` at the time `at` (ns), computed
-- from all changes of the plan up to `at`.
abbrev pub times_by : PlanView → ℕ → ℕ → List ℕ
times_by plan slot at = planned_with_irq plan slot (changes_up_to plan at) at

-- ---- live samples

-- `watch_at watches cpu`: the live samples of processor `cpu`, and the state of the reader that
-- took them. There are no samples if the processor has no reader.
abbrev pub watch_at : List WatchView → ℕ → WatchView
watch_at watches cpu = slice_index_or watches cpu (record { samples = []; reader = new_reader no_plan 0 })

-- Returns, for each sample, the number of changes that the sample includes.
abbrev pub counts_sampled : List Sample → List ℕ
counts_sampled samples = map (λ (sample : Sample). sample.count) samples

-- `IsSampled plan slot requested before now old new`: a reader took `requested` samples of a slot's
-- clock on a processor, while the writer applied the changes from number `before` to number `now`.
-- Each sample is the clock after its number of changes. These numbers never decrease, and lie
-- between `before` and `now`. The reader made at most eight attempts for each sample.
pub record IsSampled (plan : PlanView) (slot requested before now : ℕ) (old new : WatchView) : Type 0 where
  pub many : length new.samples ≡ requested
  pub clocks : All (λ (sample : Sample). IsClock sample.clock plan slot sample.count) new.samples
  pub rise : RiseWithin before (counts_sampled new.samples) now
  pub tried : IsTried (counts_sampled new.samples) before old.reader new.reader
  pub few : tries_of new.reader ≤ tries_of old.reader + 8 * requested

-- `AreSampled watched old new`: if a slot is watched, `requested` samples of its clock were taken
-- on each processor while the changes were applied. If no slot is watched, there are no samples.
abbrev pub AreSampled : Option Slot → CrewView → CrewView → Type 0
AreSampled None old new = (cpu : ℕ) → (watch_at new.watches cpu).samples ≡ []
AreSampled (Some slot) old new = (cpu : ℕ) → cpu < length old.plans.plans →
    IsSampled (plan_at old.plans cpu) slot.0 old.requested (clocks_at old.clocks cpu).made (clocks_at new.clocks cpu).made
    (watch_at old.watches cpu) (watch_at new.watches cpu)

-- ---- tables of times

-- `IsTableAt table plans at`: for every group and processor, the table has the times (ns) that
-- follow from the processor's plan at the time `at` (ns).
pub record IsTableAt (table : List (List (List ℕ))) (plans : PlansView) (at : ℕ) : Type 0 where
  pub sizes : HasSizes (length plans.plans) (length plans.lives) table
  pub times : (slot cpu : ℕ) → slot < length plans.lives → cpu < length plans.plans
      → times_at table slot cpu ≡ times_by (plan_at plans cpu) slot at

-- ---- laws of the worker pool

-- Law of the stored times: they occupy at most 64 MB, unless a single tick needs more. A worker
-- pool advances by at least one tick at once, and by at most `moments` ticks (or one, if `moments`
-- is 0).
abbrev pub RoomIsSmall : Type 0
RoomIsSmall = (cpus slots moments : ℕ) →
    (1 ≤ room_of cpus slots moments) × (room_of cpus slots moments ≤ max moments 1)
    × ((64 * (room_of cpus slots moments * slots * cpus) ≤ most_kept) ⊎ (room_of cpus slots moments ≡ 1))

-- Law of the tables: if plans represent legal events, the table at a time (ns) has the stall times
-- and interrupt times that follow from the events.
abbrev pub TableIsOfEvents : Type 0
TableIsOfEvents = (limits : Limits) (cpus : ℕ) (events : List Event) (plans : PlansView) (table : List (List (List ℕ))) (at : ℕ) →
    AreLegal limits first_world events → Represent plans cpus events → IsTableAt table plans at → table ≡ table_until cpus events at
