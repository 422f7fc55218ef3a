-- Defines watchers and the invariant of a worker pool. A watcher takes live samples of the clocks
-- of one processor, while a worker thread applies the processor's changes.
use Rattle.std.specs.Prelude.{◌≡◌, ℕ, ◌+◌, ◌*◌, ◌/◌, ◌%◌, ◌<◌, ◌≤◌, true, List, [], drop, length, map, slice_index_or, Option, Some, is_some}
use Rattle.std.specs.List.{All}
use Rattle.atomic_table.specs.Seated.{TableId}
use Rattle.psi_counts.specs.Clock.{zero_clock}
use Rattle.plan_laws.specs.Plan.{IsClock, PlanView, no_plan}
use Rattle.psi_spec.specs.Changes.{RiseWithin}
use Rattle.proc_plan.specs.Clocks.{OnPlan}
use Rattle.proc_plan.specs.Plans.{PlansView, plan_at}
use Rattle.clock_row.specs.declared.reader.Sample.{Sample}
use Rattle.clock_row.specs.declared.view.ReaderView.{ReaderView}
use Rattle.clock_row.specs.Steps.{new_reader}
use Rattle.clock_row.specs.Tries.{IsTried, tries_of}
use Rattle.replay_workers.specs.declared.ticks.Ticks.{Ticks}
use Rattle.replay_workers.specs.Crew.{CrewView, IsSampled, WatchView, counts_sampled, moments_of}
use Rattle.replay_workers.specs.Lanes.{AreLanes, LaneView, batch_at, clocks_of, lane_of, rows_of}

-- ---- a single watcher

-- The state of a watcher, which samples the clocks of one processor. It has the processor's number,
-- the seqlock of its clocks, and the state of the reader of that seqlock. It also has the writer's
-- clock when reader and writer last synchronised, the samples of the last interval, and the number
-- of samples in an interval.
pub record WatcherView : Type 0 where
  pub cpu : ℕ
  pub row : TableId
  pub knows : ReaderView
  pub last : Sample
  pub samples : List Sample
  pub requested : ℕ

-- A placeholder for the identity of a seqlock.
abbrev pub no_table_id : TableId
no_table_id = record { words = 0; slots = 0; views_name = 0; atom = 0; block = 0; offset = 0; slot_names = [] }

-- A placeholder watcher. `watcher_at` returns it for an index past the end of the list.
abbrev pub no_watcher : WatcherView
no_watcher =
    record {
      cpu = 0;
      row = no_table_id;
      knows = new_reader no_plan 0;
      last = record { count = 0; clock = zero_clock };
      samples = [];
      requested = 0;
    }

-- `watcher_at watchers k`: the watcher with the index `k`.
abbrev pub watcher_at : List WatcherView → ℕ → WatcherView
watcher_at watchers k = slice_index_or watchers k no_watcher

-- Returns the samples and the reader of a watcher. The contracts of a worker pool refer only to
-- these two parts.
abbrev pub watch_seen : WatcherView → WatchView
watch_seen watcher = record { samples = watcher.samples; reader = watcher.knows }

-- `IsSameWatcher old new`: the watcher's processor, seqlock, plan and number of samples in an
-- interval are unchanged.
pub record IsSameWatcher (old new : WatcherView) : Type 0 where
  pub cpu : new.cpu ≡ old.cpu
  pub row : new.row ≡ old.row
  pub plan : new.knows.plan ≡ old.knows.plan
  pub requested : new.requested ≡ old.requested

-- `IsNewWatcher cpu requested row plan watcher`: `watcher` is a new watcher of the seqlock `row` of
-- processor `cpu`. It has no samples yet.
pub record IsNewWatcher (cpu requested : ℕ) (row : Option TableId) (plan : PlanView) (watcher : WatcherView) : Type 0 where
  pub cpu_is : watcher.cpu ≡ cpu
  pub row_is : Some watcher.row ≡ row
  pub plan_is : watcher.knows.plan ≡ plan
  pub requested_is : watcher.requested ≡ requested
  pub none : watcher.samples ≡ []

-- `MaySample slot watcher`: the precondition for taking live samples of `slot`. The watcher's last
-- sample is the slot's clock after all changes that the watcher has seen.
pub record MaySample (slot : ℕ) (watcher : WatcherView) : Type 0 where
  pub slot_is : slot < length watcher.knows.plan.parents
  pub clock : IsClock watcher.last.clock watcher.knows.plan slot watcher.last.count
  pub seen : watcher.last.count ≡ watcher.knows.seen

-- `HasMet slot on old new`: the watcher synchronised with the writer of the clocks `on`. The
-- watcher has seen all the writer's changes, and its last sample is the writer's own clock of
-- `slot`. Synchronising changed neither the number of the reader's failed attempts (`met`) nor its
-- successful attempts (`got`).
pub record HasMet (slot : ℕ) (on : OnPlan) (old new : WatcherView) : Type 0 where
  pub same : IsSameWatcher old new
  pub got : new.knows.got ≡ old.knows.got
  pub met : new.knows.met ≡ old.knows.met
  pub seen : new.knows.seen ≡ on.made
  pub count : new.last.count ≡ on.made
  pub clock : IsClock new.last.clock on.plan slot on.made

-- `HasSampled slot old new`: the watcher took its samples of `slot`. The number of changes in each
-- sample lies between the number in the watcher's previous sample and the number that it has now
-- seen. Each sample needed at most eight attempts.
pub record HasSampled (slot : ℕ) (old new : WatcherView) : Type 0 where
  pub same : IsSameWatcher old new
  pub many : length new.samples ≡ old.requested
  pub clocks : All (λ (sample : Sample). IsClock sample.clock old.knows.plan slot sample.count) new.samples
  pub rise : RiseWithin old.last.count (counts_sampled new.samples) new.knows.seen
  pub tried : IsTried (counts_sampled new.samples) old.last.count old.knows new.knows
  pub few : tries_of new.knows ≤ tries_of old.knows + 8 * old.requested

-- `HasWatched slot lane_old lane_new old new`: the watcher sampled `slot` while its processor
-- applied changes.
pub record HasWatched (slot : ℕ) (lane_old lane_new : LaneView) (old new : WatcherView) : Type 0 where
  pub same : IsSameWatcher old new
  pub sampled : IsSampled old.knows.plan slot old.requested lane_old.on.made lane_new.on.made (watch_seen old) (watch_seen new)

-- `HasCleared old new`: the watcher discarded its samples.
pub record HasCleared (old new : WatcherView) : Type 0 where
  pub same : IsSameWatcher old new
  pub none : new.samples ≡ []

-- ---- the watchers of all processors, in order of processors

-- The clocks of the processor are in a seqlock.
abbrev pub IsInRow : LaneView → Type 0
IsInRow lane = is_some lane.row ≡ true

-- `IsLaneThere batches cpu`: the batches contain processor `cpu`.
pub record IsLaneThere (batches : List (List LaneView)) (cpu : ℕ) : Type 0 where
  pub some : 0 < length batches
  pub place : cpu / length batches < length (batch_at batches (cpu % length batches))

-- `IsWatcherThere batches cpu watcher`: the batches contain processor `cpu`, and the watcher has
-- the seqlock and the plan of this processor.
pub record IsWatcherThere (batches : List (List LaneView)) (cpu : ℕ) (watcher : WatcherView) : Type 0 where
  pub there : IsLaneThere batches cpu
  pub cpu_is : watcher.cpu ≡ cpu
  pub row : Some watcher.row ≡ (lane_of batches cpu).row
  pub plan : watcher.knows.plan ≡ (lane_of batches cpu).on.plan

-- `AreWatching batches watchers`: for each k, watcher `k` watches processor `k`.
abbrev pub AreWatching : List (List LaneView) → List WatcherView → Type 0
AreWatching batches watchers = (k : ℕ) → k < length watchers → IsWatcherThere batches k (watcher_at watchers k)

-- `HaveSlot slot watchers`: the plan of each watcher has the slot `slot`.
abbrev pub HaveSlot : ℕ → List WatcherView → Type 0
HaveSlot slot watchers = (k : ℕ) → k < length watchers → slot < length (watcher_at watchers k).knows.plan.parents

-- `MayAllSample slot watchers`: each watcher satisfies the precondition for sampling `slot`.
abbrev pub MayAllSample : ℕ → List WatcherView → Type 0
MayAllSample slot watchers = (k : ℕ) → k < length watchers → MaySample slot (watcher_at watchers k)

-- `HaveMet slot batches old new`: each watcher synchronised with its processor.
pub record HaveMet (slot : ℕ) (batches : List (List LaneView)) (old new : List WatcherView) : Type 0 where
  pub many : length new ≡ length old
  pub each : (k : ℕ) → k < length old → HasMet slot (lane_of batches k).on (watcher_at old k) (watcher_at new k)

-- `HaveSampled slot old new`: each watcher took its samples of `slot`.
pub record HaveSampled (slot : ℕ) (old new : List WatcherView) : Type 0 where
  pub many : length new ≡ length old
  pub each : (k : ℕ) → k < length old → HasSampled slot (watcher_at old k) (watcher_at new k)

-- `AreSettled batches watchers`: no watcher has seen more changes than its processor has applied.
abbrev pub AreSettled : List (List LaneView) → List WatcherView → Type 0
AreSettled batches watchers = (k : ℕ) → k < length watchers → (watcher_at watchers k).knows.seen ≤ (lane_of batches k).on.made

-- `HaveWatched slot batches_old batches_new old new`: each watcher sampled `slot` while its
-- processor applied changes.
pub record HaveWatched (slot : ℕ) (batches_old batches_new : List (List LaneView)) (old new : List WatcherView) : Type 0 where
  pub many : length new ≡ length old
  pub each : (k : ℕ) → k < length old → HasWatched slot (lane_of batches_old k) (lane_of batches_new k) (watcher_at old k)
      (watcher_at new k)

-- `HaveCleared old new`: each watcher discarded its samples.
pub record HaveCleared (old new : List WatcherView) : Type 0 where
  pub many : length new ≡ length old
  pub each : (k : ℕ) → k < length old → HasCleared (watcher_at old k) (watcher_at new k)

-- `AreNewWatchers batches cpus requested watchers`: `watchers` has a new watcher for each of the
-- first `cpus` processors. Each watcher takes `requested` samples in an interval.
pub record AreNewWatchers (batches : List (List LaneView)) (cpus requested : ℕ) (watchers : List WatcherView) : Type 0 where
  pub many : length watchers ≡ cpus
  pub each : (cpu : ℕ) → cpu < length watchers → IsNewWatcher cpu requested (lane_of batches cpu).row (lane_of batches cpu).on.plan
      (watcher_at watchers cpu)

-- ---- the invariant of a worker pool

-- `IsWatcherOf plans batches requested cpu watcher`: the watcher belongs to processor `cpu` of a
-- worker pool. It has the processor's seqlock and plan, and takes `requested` samples in an
-- interval.
pub record IsWatcherOf (plans : PlansView) (batches : List (List LaneView)) (requested cpu : ℕ) (watcher : WatcherView) : Type 0 where
  pub cpu_is : watcher.cpu ≡ cpu
  pub row : Some watcher.row ≡ (lane_of batches cpu).row
  pub plan : watcher.knows.plan ≡ plan_at plans cpu
  pub requested_is : watcher.requested ≡ requested

-- `AreWatchers plans batches requested watchers`: a worker pool that takes samples has one watcher
-- for each processor. A pool that takes no samples has no watchers.
pub record AreWatchers (plans : PlansView) (batches : List (List LaneView)) (requested : ℕ) (watchers : List WatcherView) : Type 0 where
  pub none : requested ≡ 0 → length watchers ≡ 0
  pub all : 0 < requested → length watchers ≡ length plans.plans
  pub each : (cpu : ℕ) → cpu < length watchers → IsWatcherOf plans batches requested cpu (watcher_at watchers cpu)

-- `IsCrew plans batches ticks out room requested watchers`: the invariant of a worker pool. Its
-- processors (`AreLanes`) and its watchers (`AreWatchers`) are valid.
pub record IsCrew (plans : PlansView) (batches : List (List LaneView)) (ticks : Ticks) (out room requested : ℕ)
    (watchers : List WatcherView) : Type 0 where
  pub lanes : AreLanes plans batches ticks out room
  pub watched : AreWatchers plans batches requested watchers

-- Builds the state of a worker pool from its parts.
abbrev pub crew_of : PlansView → List (List LaneView) → Ticks → ℕ → ℕ → ℕ → List WatcherView → CrewView
crew_of plans batches ticks out room requested watchers = record {
  plans = plans;
  clocks = clocks_of batches (length plans.plans);
  rows = rows_of batches (length plans.plans);
  ready = drop out (moments_of ticks);
  room = room;
  requested = requested;
  watches = map watch_seen watchers;
}
