-- Defines the lanes and the batches of a worker pool. A lane is one processor with its clocks and
-- its stored times. Each worker thread has one batch of lanes.
use Rattle.std.specs.Prelude.{◌≡◌, ◌≢◌, ℕ, ◌+◌, ◌*◌, ◌/◌, ◌%◌, ◌^◌, ◌<◌, ◌≤◌, Bool, List, [], length, map, slice_index_or, Option, None, Some, is_some}
use Rattle.std.specs.List.{range_with_len}
use Rattle.plan_laws.specs.Plan.{IsPlan, PlanView, changes_up_to, last_change, no_plan}
use Rattle.atomic_table.specs.Seated.{TableId}
use Rattle.proc_plan.specs.Clocks.{OnPlan}
use Rattle.proc_plan.specs.Plans.{PlansView, plan_at}
use Rattle.clock_row.specs.Ends.{WriterEnd}
use Rattle.aggregate.specs.Table.{times_at}
use Rattle.replay_workers.specs.declared.lane_clocks.LaneClocks.{LaneClocks}
use Rattle.replay_workers.specs.declared.lane_clocks.LaneClocks.TheVariants.{Plain, Row}
use Rattle.replay_workers.specs.declared.ticks.Ticks.{Ticks}
use Rattle.replay_workers.specs.Crew.{last_of, moment_in, times_by}

-- ---- the clocks and stored times of one processor

-- Returns the plan of a seqlock's writer, and the number of changes that the writer has applied.
abbrev pub on_of : WriterEnd → OnPlan
on_of writer = record { plan = writer.knows.plan; made = writer.knows.count }

-- Returns the plan of a processor's clocks, and the number of changes that the clocks have applied.
-- The clocks may be plain or in a seqlock.
abbrev pub clocks_in : LaneClocks → OnPlan
clocks_in (Plain clocks) = clocks
clocks_in (Row writer) = on_of writer

-- Returns the seqlock that contains a processor's clocks, or `None` for plain clocks.
abbrev pub row_of_clocks : LaneClocks → Option TableId
row_of_clocks (Plain clocks) = None
row_of_clocks (Row writer) = Some writer.row

-- The state of a lane (one processor): the processor's number, the seqlock that contains its clocks
-- (`None` for plain clocks), the clocks, and the stored times (ns). The times are ordered by tick
-- and then by slot.
pub record LaneView : Type 0 where
  pub cpu : ℕ
  pub row : Option TableId
  pub on : OnPlan
  pub kept : List (List ℕ)

-- A placeholder lane. `lane_at` returns it for an index past the end of the list.
abbrev pub no_lane : LaneView
no_lane = record { cpu = 0; row = None; on = record { plan = no_plan; made = 0 }; kept = [] }

-- `kept_at kept slots j slot`: the times (ns) of `slot` that are stored for tick `j`, numbered from
-- 0.
abbrev pub kept_at : List (List ℕ) → ℕ → ℕ → ℕ → List ℕ
kept_at kept slots j slot = slice_index_or kept (j * slots + slot) []

-- `KeepsTicks kept plan ticks n`: the times of all slots at each of the first `n` ticks are stored.
abbrev pub KeepsTicks : List (List ℕ) → PlanView → Ticks → ℕ → Type 0
KeepsTicks kept plan ticks n = (j slot : ℕ) → j < n → slot < length plan.parents →
    kept_at kept (length plan.parents) j slot ≡ times_by plan slot (moment_in ticks j)

-- `KeepsTick old new j plan at`: the times of all slots at the time `at` (ns) were stored for tick
-- `j`, numbered from 0. The stored times of earlier ticks are unchanged.
pub record KeepsTick (old new : List (List ℕ)) (j : ℕ) (plan : PlanView) (at : ℕ) : Type 0 where
  pub size : length new ≡ length old
  pub here : (slot : ℕ) → slot < length plan.parents → kept_at new (length plan.parents) j slot ≡ times_by plan slot at
  pub before : (place : ℕ) → place < j * length plan.parents → slice_index_or new place [] ≡ slice_index_or old place []

-- `IsLane plan slots on`: the clocks `on` advance by the plan `plan`. The plan is valid and has
-- `slots` slots.
pub record IsLane (plan : PlanView) (slots : ℕ) (on : OnPlan) : Type 0 where
  pub on_plan : on.plan ≡ plan
  pub whole : IsPlan plan
  pub slots_are : slots ≡ length plan.parents

-- `MayGo ticks lane`: the precondition for advancing a processor (`lane`) over the ticks `ticks`.
-- There is room to store the times at all ticks, and no change later than the first tick has been
-- applied.
pub record MayGo (ticks : Ticks) (lane : LaneView) : Type 0 where
  pub room : ticks.count * length lane.on.plan.parents ≤ length lane.kept
  pub not_past : lane.on.made ≤ changes_up_to lane.on.plan ticks.first

-- `HasGone ticks old new`: a processor advanced over the ticks `ticks`. It has applied exactly the
-- changes up to the last tick, and the times at each tick are stored.
pub record HasGone (ticks : Ticks) (old new : LaneView) : Type 0 where
  pub cpu : new.cpu ≡ old.cpu
  pub row : new.row ≡ old.row
  pub plan : new.on.plan ≡ old.on.plan
  pub made : new.on.made ≡ changes_up_to old.on.plan (last_of ticks)
  pub past : last_change old.on.plan (changes_up_to old.on.plan (last_of ticks)) ≤ last_of ticks
  pub size : length new.kept ≡ length old.kept
  pub keeps : KeepsTicks new.kept old.on.plan ticks ticks.count

-- ---- batches of processors

-- `lane_at lanes k`: the processor with index `k` in the batch `lanes`.
abbrev pub lane_at : List LaneView → ℕ → LaneView
lane_at lanes k = slice_index_or lanes k no_lane

-- `batch_at batches worker`: the batch of processors of the worker with the index `worker`.
abbrev pub batch_at : List (List LaneView) → ℕ → List LaneView
batch_at batches worker = slice_index_or batches worker []

-- `MayAllGo ticks lanes`: the precondition for advancing the batch `lanes` over `ticks`. Each
-- processor of the batch satisfies `MayGo`.
abbrev pub MayAllGo : Ticks → List LaneView → Type 0
MayAllGo ticks lanes = (k : ℕ) → k < length lanes → MayGo ticks (lane_at lanes k)

-- `HaveGone ticks old new`: each processor of a batch advanced over the ticks `ticks`.
pub record HaveGone (ticks : Ticks) (old new : List LaneView) : Type 0 where
  pub many : length new ≡ length old
  pub each : (k : ℕ) → k < length old → HasGone ticks (lane_at old k) (lane_at new k)

-- `HaveAllGone ticks old new`: each processor of each batch advanced over the ticks `ticks`.
pub record HaveAllGone (ticks : Ticks) (old new : List (List LaneView)) : Type 0 where
  pub many : length new ≡ length old
  pub each : (worker : ℕ) → worker < length old → HaveGone ticks (batch_at old worker) (batch_at new worker)

-- `lane_of batches cpu`: the lane (clocks and stored times) of processor `cpu`. It has index `cpu /
-- workers` in batch `cpu % workers`.
abbrev pub lane_of : List (List LaneView) → ℕ → LaneView
lane_of batches cpu = lane_at (batch_at batches (cpu % length batches)) (cpu / length batches)

-- `IsKept plans batches cpu tick at`: processor `cpu` has a lane, and the lane stores the times of
-- all groups at the time `at` (ns) for tick `tick`, numbered from 0.
pub record IsKept (plans : PlansView) (batches : List (List LaneView)) (cpu tick at : ℕ) : Type 0 where
  pub some : 0 < length batches
  pub place : cpu / length batches < length (batch_at batches (cpu % length batches))
  pub room : tick * length plans.lives + length plans.lives ≤ length (lane_of batches cpu).kept
  pub times : (slot : ℕ) → slot < length plans.lives
      → kept_at (lane_of batches cpu).kept (length plans.lives) tick slot ≡ times_by (plan_at plans cpu) slot at

-- `AreKept plans batches tick at`: the times of all groups on every processor at the time `at` (ns)
-- are stored for tick `tick`, numbered from 0.
abbrev pub AreKept : PlansView → List (List LaneView) → ℕ → ℕ → Type 0
AreKept plans batches tick at = (cpu : ℕ) → cpu < length plans.plans → IsKept plans batches cpu tick at

-- `FillsRow old new plans slot cpus at`: in the table `new`, the row of the group in `slot` has the
-- group's times at the time `at` (ns) on the first `cpus` processors. The rows of other groups are
-- the same as in `old`.
pub record FillsRow (old new : List (List (List ℕ))) (plans : PlansView) (slot cpus at : ℕ) : Type 0 where
  pub here : (cpu : ℕ) → cpu < cpus → times_at new slot cpu ≡ times_by (plan_at plans cpu) slot at
  pub others : (other cpu : ℕ) → other ≢ slot → times_at new other cpu ≡ times_at old other cpu

-- `clocks_of batches cpus`: the clocks of the first `cpus` processors.
abbrev pub clocks_of : List (List LaneView) → ℕ → List OnPlan
clocks_of batches cpus = map (λ cpu. (lane_of batches cpu).on) (range_with_len 0 cpus)

-- `rows_of batches cpus`: for each of the first `cpus` processors, the seqlock that contains its
-- clocks, or `None` for plain clocks.
abbrev pub rows_of : List (List LaneView) → ℕ → List (Option TableId)
rows_of batches cpus = map (λ cpu. (lane_of batches cpu).row) (range_with_len 0 cpus)

-- ---- the invariant of a worker pool

-- `IsLaneOf plans ticks room cpu lane`: `lane` has the state of processor `cpu` in a worker pool.
-- Its clocks advance by the processor's plan, it can store the times of `room` ticks, and the times
-- at `ticks` are stored.
pub record IsLaneOf (plans : PlansView) (ticks : Ticks) (room cpu : ℕ) (lane : LaneView) : Type 0 where
  pub cpu_is : lane.cpu ≡ cpu
  pub below : cpu < length plans.plans
  pub plan : lane.on.plan ≡ plan_at plans cpu
  pub whole : IsPlan (plan_at plans cpu)
  pub slots : length (plan_at plans cpu).parents ≡ length plans.lives
  pub size : length lane.kept ≡ room * length plans.lives
  pub keeps : KeepsTicks lane.kept (plan_at plans cpu) ticks ticks.count

-- `IsBatchOf plans ticks room workers worker lanes`: the batch `lanes` has the processors of its
-- worker. The processor with index `k` in the batch is processor `k * workers + worker`.
pub record IsBatchOf (plans : PlansView) (ticks : Ticks) (room workers worker : ℕ) (lanes : List LaneView) : Type 0 where
  pub all : (k : ℕ) → k * workers + worker < length plans.plans → k < length lanes
  pub each : (k : ℕ) → k < length lanes → IsLaneOf plans ticks room (k * workers + worker) (lane_at lanes k)

-- The empty list of ticks, for a worker pool that hasn't advanced yet.
abbrev pub no_ticks : Ticks
no_ticks = record { first = 0; length = 0; count = 0 }

-- `IsNewBatch plans room in_rows workers worker lanes`: the batch `lanes` has the processors of its
-- worker before the first change. The clocks are in seqlocks if `in_rows` is true, and are plain
-- clocks if it is false.
pub record IsNewBatch (plans : PlansView) (room : ℕ) (in_rows : Bool) (workers worker : ℕ) (lanes : List LaneView) : Type 0 where
  pub batch : IsBatchOf plans no_ticks room workers worker lanes
  pub fresh : (k : ℕ) → k < length lanes → (lane_at lanes k).on.made ≡ 0
  pub rows : (k : ℕ) → k < length lanes → is_some (lane_at lanes k).row ≡ in_rows

-- `AreNewBatches plans room in_rows workers batches`: `batches` has the batch of processors of each
-- worker, before the first change.
pub record AreNewBatches (plans : PlansView) (room : ℕ) (in_rows : Bool) (workers : ℕ) (batches : List (List LaneView)) : Type 0 where
  pub many : length batches ≡ workers
  pub each : (worker : ℕ) → worker < workers → IsNewBatch plans room in_rows workers worker (batch_at batches worker)

-- `AreLanes plans batches ticks out room`: the part of a worker pool's invariant that concerns
-- processors. Each worker has a batch of processors, and the tables of the first `out` ticks have
-- been returned.
pub record AreLanes (plans : PlansView) (batches : List (List LaneView)) (ticks : Ticks) (out room : ℕ) : Type 0 where
  pub some : 0 < length batches
  pub roomy : 1 ≤ room
  pub countable : room < 2 ^ 32
  pub within : ticks.count ≤ room
  pub out_within : out ≤ ticks.count
  pub each : (worker : ℕ) → worker < length batches → IsBatchOf plans ticks room (length batches) worker (batch_at batches worker)
