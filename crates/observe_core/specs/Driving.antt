-- Defines how observers are prepared for an interval of a replay, and which samples they have taken
-- after some ticks. An observer is a thread that samples one group's clocks on all processors. It
-- adds its samples as entries to a common journal, and reads the replay's state from a board.
use Rattle.std.specs.Prelude.{◌≡◌, ℕ, ◌+◌, ◌<◌, ◌≤◌, false, List, [], ◌∷◌, length, map, slice_get, slice_index_or, Option, Some}
use Rattle.std.specs.List.{All, flat_map, range_with_len}
use Rattle.ruleset_json.specs.declared.types.Rule.{Rule}
use Rattle.atomic_table.specs.Seated.{TableId}
use Rattle.psi_spec.specs.Changes.{RiseWithin}
use Rattle.psi_spec.specs.Trace.{Trace}
use Rattle.plan_laws.specs.Plan.{IsClock}
use Rattle.pressure_spec.specs.Ticks.{tick_moment}
use Rattle.run_spec.specs.Live.{LiveWatch, live_slot_at}
use Rattle.run_spec.specs.Replay.{Timing, signals_until, tick_count}
use Rattle.observe_spec.specs.Samples.{AreDone, Due, Look, counts_by, due_at}
use Rattle.proc_plan.specs.Plans.{PlansView, plan_at}
use Rattle.clock_row.specs.declared.reader.Sample.{Sample}
use Rattle.clock_row.specs.Ends.{ReaderEnd}
use Rattle.clock_row.specs.Steps.{count_shown}
use Rattle.replay_workers.specs.Crew.{CrewView, clocks_at, row_at}
use Rattle.replay_ticks.specs.Replays.{IsReplay, IsSomeReplay, ReplayView}
use Rattle.observer_log.specs.declared.board.BoardState.{BoardState}
use Rattle.observer_log.specs.declared.entry.Entry.{Entry}
use Rattle.observer_log.specs.Entries.{AreBy}
use Rattle.observer_log.specs.Lending.{with_reader}
use Rattle.observer_log.specs.Watch.{AreReaders, WatcherView, named_by, reader_at}
use Rattle.observe_core.specs.Observing.{ObserverView, last_at}

-- ---- the start

-- A new watcher of observer `number`: it has one reader for each processor's clocks, and has taken
-- no samples.
pub record IsNewWatcher (number : ℕ) (replay : ReplayView) (watcher : WatcherView) : Type 0 where
  pub number_is : watcher.observer ≡ number
  pub plans_are : watcher.plans ≡ replay.plans
  pub readers_are : AreReaders replay.plans watcher.readers
  pub rows_are : (cpu : ℕ) → cpu < length replay.plans.plans → Some (reader_at watcher.readers cpu).row ≡ row_at replay.crew.rows cpu
  pub none : watcher.own ≡ []

-- ---- before an interval

-- Preconditions for preparing a watcher to sample `slot`: the watcher has the plans of the replay,
-- it has one reader for each processor's clocks in the replay, and `lasts` has one sample for each
-- processor.
pub record MayReady (replay : ReplayView) (slot : ℕ) (watcher : WatcherView) (lasts : List Sample) : Type 0 where
  pub some : IsSomeReplay replay
  pub few : length replay.plans.plans ≤ 64
  pub slot_is : slot < length replay.plans.lives
  pub plans_are : watcher.plans ≡ replay.plans
  pub readers_are : length watcher.readers ≡ length replay.plans.plans
  pub rows_are : (cpu : ℕ) → cpu < length replay.plans.plans → Some (reader_at watcher.readers cpu).row ≡ row_at replay.crew.rows cpu
  pub lasts_are : length lasts ≡ length replay.plans.plans

-- The number of changes that the clocks of processor `cpu` have made.
abbrev pub made_by : CrewView → ℕ → ℕ
made_by crew cpu = (clocks_at crew.clocks cpu).made

-- The watcher's reader of processor `cpu` was notified that `made` changes were made: it had seen
-- at most `made` changes before, and has seen at least `made` changes now.
pub record HasMet (cpu made : ℕ) (old new : WatcherView) : Type 0 where
  pub reader : ReaderEnd
  pub are : new ≡ with_reader old cpu reader
  pub row : reader.row ≡ (reader_at old.readers cpu).row
  pub knows : reader.knows ≡ count_shown made (reader_at old.readers cpu).knows
  pub before : (reader_at old.readers cpu).knows.seen ≤ made

-- The watcher's readers of the first `cpus` processors have seen exactly the changes that were made
-- on their processors. Before, they had seen at most these changes. Nothing else of the watcher
-- changed.
pub record ArePreparedChanges (made : ℕ → ℕ) (cpus : ℕ) (old new : WatcherView) : Type 0 where
  pub observer_is : new.observer ≡ old.observer
  pub plans_are : new.plans ≡ old.plans
  pub own_is : new.own ≡ old.own
  pub readers_are : length new.readers ≡ length old.readers
  pub rows : (cpu : ℕ) → (reader_at new.readers cpu).row ≡ (reader_at old.readers cpu).row
  pub names : (cpu : ℕ) → named_by new.readers cpu ≡ named_by old.readers cpu
  pub seen : (cpu : ℕ) → cpu < cpus → (reader_at new.readers cpu).knows.seen ≡ made cpu
  pub before : (cpu : ℕ) → cpu < cpus → (reader_at old.readers cpu).knows.seen ≤ made cpu
  pub later : (cpu : ℕ) → cpus ≤ cpu → reader_at new.readers cpu ≡ reader_at old.readers cpu

-- For each of the first `cpus` processors, the last sample is the clock of `slot` after all changes
-- that were made on the processor.
pub record AreLasts (plans : PlansView) (slot : ℕ) (made : ℕ → ℕ) (cpus : ℕ) (lasts : List Sample) : Type 0 where
  pub counts : (cpu : ℕ) → cpu < cpus → (last_at lasts cpu).count ≡ made cpu
  pub clocks : (cpu : ℕ) → cpu < cpus → IsClock (last_at lasts cpu).clock (plan_at plans cpu) slot (last_at lasts cpu).count

-- An observer is prepared to sample `slot`: its readers have seen all changes, and its last samples
-- are the current clocks. Nothing else of the observer changed.
pub record IsReady (plans : PlansView) (slot : ℕ) (made : ℕ → ℕ) (old new : ObserverView) : Type 0 where
  pub pass_is : new.pass ≡ old.pass
  pub parts_are : new.parts ≡ old.parts
  pub amount_is : new.amount ≡ old.amount
  pub fell_is : new.fell ≡ old.fell
  pub failed_is : new.failed ≡ old.failed
  pub many : length new.lasts ≡ length old.lasts
  pub prepared_changes : ArePreparedChanges made (length old.lasts) old.watcher new.watcher
  pub lasts_are : AreLasts plans slot made (length old.lasts) new.lasts

-- All observers are prepared to sample `slot`.
pub record AreReady (plans : PlansView) (slot : ℕ) (made : ℕ → ℕ) (old new : List ObserverView) : Type 0 where
  pub many : length new ≡ length old
  pub each : (number : ℕ) (d : ObserverView) → number < length old
      → IsReady plans slot made (slice_index_or old number d) (slice_index_or new number d)

-- ---- after an interval

-- Preconditions for synchronising the clocks of a replay with the readers of a watcher: there is
-- one reader for each of the `cpus` processors, and it reads that processor's clocks in the replay.
pub record MaySettle (replay : ReplayView) (watcher : WatcherView) (cpus : ℕ) : Type 0 where
  pub some : IsSomeReplay replay
  pub few : length replay.plans.plans ≤ 64
  pub all : cpus ≡ length replay.plans.plans
  pub plans_are : watcher.plans ≡ replay.plans
  pub readers_are : length watcher.readers ≡ length replay.plans.plans
  pub rows_are : (cpu : ℕ) → cpu < length replay.plans.plans → Some (reader_at watcher.readers cpu).row ≡ row_at replay.crew.rows cpu

-- The watcher's reader for processor `cpu` has seen at most `made` changes. The call that shows
-- this leaves the watcher unchanged.
pub record HasSettled (cpu made : ℕ) (old new : WatcherView) : Type 0 where
  pub reader : ReaderEnd
  pub are : new ≡ with_reader old cpu reader
  pub same : reader ≡ reader_at old.readers cpu
  pub within : (reader_at old.readers cpu).knows.seen ≤ made

-- For each of the first `cpus` processors, the number of changes that the watcher's reader has seen
-- is at most the number of changes that were made.
abbrev pub AreWithin : (ℕ → ℕ) → ℕ → WatcherView → Type 0
AreWithin made cpus watcher = (cpu : ℕ) → cpu < cpus → (reader_at watcher.readers cpu).knows.seen ≤ made cpu

-- The observer is unchanged. Unless it ran out of memory, each of its readers has seen at most the
-- changes that were made on the reader's processor.
pub record IsSettled (made : ℕ → ℕ) (old new : ObserverView) : Type 0 where
  pub same : new ≡ old
  pub within : old.failed ≡ false → AreWithin made (length old.lasts) old.watcher

-- All observers are unchanged. Each reader of an observer that didn't run out of memory has seen at
-- most the changes that were made on the reader's processor.
pub record AreSettled (made : ℕ → ℕ) (old new : List ObserverView) : Type 0 where
  pub many : length new ≡ length old
  pub each : (number : ℕ) (d : ObserverView) → number < length old
      → IsSettled made (slice_index_or old number d) (slice_index_or new number d)

-- ---- after some ticks

-- The observer, the processor, the slot and the number of changes of a sample's entry, without the
-- times.
abbrev pub look_of : Entry → Look
look_of entry = record { observer = entry.observer; cpu = entry.cpu.0; slot = entry.slot.0; count = entry.count }

-- For each entry, in order: the observer, the processor, the slot and the number of changes.
abbrev pub looks_of : List Entry → List Look
looks_of entries = map look_of entries

-- The processor that the entry names exists, and the entry has this processor's plan.
pub record IsOn (plans : PlansView) (entry : Entry) : Type 0 where
  pub cpu : entry.cpu.0 < length plans.plans
  pub plan : entry.plan.now ≡ plan_at plans entry.cpu.0

-- For each entry, the processor that the entry names exists, and the entry has this processor's
-- plan.
abbrev pub AreOn : PlansView → List Entry → Type 0
AreOn plans [] = Unit {0}
AreOn plans (entry ∷ entries) = IsOn plans entry × AreOn plans entries

-- The constants of a replay with observers: the plans, the memory that stores the processors'
-- clocks, the board, the trace, its timing, and the path of the observed group.
pub record Setting : Type 0 where
  pub plans : PlansView
  pub rows : List (Option TableId)
  pub board : TableId
  pub trace : Trace
  pub timing : Timing
  pub path : List ℕ

-- The slot of the group that has the observed path at tick `i`, or `None` if no live group has this
-- path.
abbrev pub slot_in : Setting → ℕ → Option ℕ
slot_in set i = live_slot_at set.trace.events set.path (tick_moment set.timing.length i)

-- The samples that each observer must take at tick `i`.
abbrev pub due_in : Setting → ℕ → List Due
due_in set i = due_at set.trace set.timing.length i (slot_in set i)

-- The samples that each observer must take at the first `count` ticks.
abbrev pub due_until : Setting → ℕ → List Due
due_until set count = flat_map (due_in set) (range_with_len 1 count)

-- The constant properties of observer `number`. It has the plans and the board of the setting, and
-- one reader and one last sample for each processor. It has one part of the ledger that counts the
-- journal's entries, and has not run out of memory.
pub record IsPlaced (set : Setting) (number : ℕ) (observer : ObserverView) : Type 0 where
  pub number_is : observer.watcher.observer ≡ number
  pub plans_are : observer.watcher.plans ≡ set.plans
  pub readers_are : AreReaders set.plans observer.watcher.readers
  pub rows_are : (cpu : ℕ) → cpu < length set.plans.plans → Some (reader_at observer.watcher.readers cpu).row ≡ row_at set.rows cpu
  pub lasts_are : length observer.lasts ≡ length set.plans.plans
  pub board_is : observer.pass.board ≡ set.board
  pub backed : observer.parts ≡ 1
  pub whole : observer.failed ≡ false

-- The entries `own` are the samples of observer `number` that were due at the first `i` ticks. The
-- numbers of changes in the entries of a processor never decrease, and are at most the number of
-- changes that the observer's reader of this processor has seen.
pub record HasTaken (set : Setting) (i number : ℕ) (readers : List ReaderEnd) (own : List Entry) : Type 0 where
  pub by : AreBy number own
  pub on : AreOn set.plans own
  pub done : AreDone (due_until set i) (looks_of own)
  pub rise : (cpu : ℕ) → RiseWithin 0 (counts_by number cpu (looks_of own)) (reader_at readers cpu).knows.seen

-- The journal has accepted all entries of this observer.
abbrev pub IsIn : ObserverView → Type 0
IsIn observer = observer.fell ≡ false

-- The journal has accepted all entries of all observers.
abbrev pub AreIn : List ObserverView → Type 0
AreIn observers = All IsIn observers

-- If the journal has accepted all entries of the observer, the observer's share of the journal's
-- ledger counts all of them.
abbrev pub IsCounted : ObserverView → Type 0
IsCounted observer = IsIn observer → observer.amount ≡ length observer.watcher.own

-- For each observer: if the journal has accepted all its entries, its share of the journal's ledger
-- counts all of them.
abbrev pub AreCounted : List ObserverView → Type 0
AreCounted observers = All IsCounted observers

-- Observer `number` has taken the samples that were due at the first `i` ticks. Its share of the
-- journal's ledger counts them, unless the journal has rejected one.
pub record HasObserved (set : Setting) (i number : ℕ) (observer : ObserverView) : Type 0 where
  pub placed : IsPlaced set number observer
  pub taken : HasTaken set i number observer.watcher.readers observer.watcher.own
  pub counted : IsCounted observer

-- Each observer has taken the samples that were due at the first `i` ticks. Its share of the
-- journal's ledger counts them, unless the journal has rejected one.
abbrev pub HaveObserved : Setting → ℕ → List ObserverView → Type 0
HaveObserved set i observers =
    (number : ℕ) (d : ObserverView) → number < length observers → HasObserved set i number (slice_index_or observers number d)

-- A new observer that has taken no sample.
pub record IsNew (set : Setting) (number : ℕ) (observer : ObserverView) : Type 0 where
  pub placed : IsPlaced set number observer
  pub none : observer.watcher.own ≡ []
  pub nothing : observer.amount ≡ 0

-- Precondition for creating observers in a setting: the replay uses the plans of the setting, and
-- stores its clocks in the memory of the setting.
pub record MayBegin (set : Setting) (replay : ReplayView) : Type 0 where
  pub plans_are : replay.plans ≡ set.plans
  pub rows_are : replay.crew.rows ≡ set.rows

-- The replay has made the first `i` ticks of the setting's trace, and keeps clocks for the path of
-- the observed group.
pub record IsReached (set : Setting) (replay : ReplayView) (i : ℕ) : Type 0 where
  pub plans_are : replay.plans ≡ set.plans
  pub rows_are : replay.crew.rows ≡ set.rows
  pub replayed : IsReplay replay set.trace set.timing [] i
  pub watch : set.timing.watch ≡ Some (record { path = set.path; count = 1 })

-- The replay has made its first `i` ticks, and the observers have taken the samples due at these
-- ticks.
pub record IsObserved (set : Setting) (replay : ReplayView) (observers : List ObserverView) (i : ℕ) : Type 0 where
  pub reached : IsReached set replay i
  pub observed : HaveObserved set i observers

-- The observers read `board`, and the replay has made no tick yet.
abbrev pub IsToBegin : TableId → ReplayView → List ObserverView → Type 0
IsToBegin board replay observers = (set : Setting) × (set.board ≡ board) × IsObserved set replay observers 0

-- Precondition for one more tick: the observers read `board` and have taken all samples due so far,
-- and at least one tick remains.
abbrev pub IsToGo : TableId → ReplayView → List ObserverView → Type 0
IsToGo board replay observers =
    (set : Setting) × (i : ℕ) × (set.board ≡ board) × IsObserved set replay observers i × (i < tick_count set.trace set.timing)

-- No observer in the list has run out of memory.
abbrev pub AreWhole : List ObserverView → Type 0
AreWhole observers = All (λ (observer : ObserverView). observer.failed ≡ false) observers

-- ---- the board

-- The state that the board shows after tick `i`. Observers are used without rules, so there are no
-- kills.
abbrev pub state_at : Trace → Timing → ℕ → BoardState
state_at trace timing i = record { tick = i; events = signals_until trace timing i; kills = 0 }

-- The states published on the board: one after each tick from 0 to `i`, in order.
pub record AreShown (trace : Trace) (timing : Timing) (i : ℕ) (states : List BoardState) : Type 0 where
  pub many : length states ≡ i + 1
  pub each : (k : ℕ) → k ≤ i → slice_get states k ≡ Some (state_at trace timing k)

-- ---- one tick of the replay

-- The replay has made one more tick. Its plans and the memory of its clocks are unchanged.
pub record HasPassed (old new : ReplayView) : Type 0 where
  pub plans_are : new.plans ≡ old.plans
  pub rows_are : new.crew.rows ≡ old.crew.rows
  pub passed : (trace : Trace) (timing : Timing) (rules : List Rule) (i : ℕ) → IsReplay old trace timing rules i
      → i < tick_count trace timing →
      IsReplay new trace timing rules (i + 1)
