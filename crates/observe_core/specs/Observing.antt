-- Defines the state of an observer, the preconditions for watching a slot, and the effect of
-- watching it. An observer is a thread that samples one group's clocks on all processors.
use Rattle.std.specs.Prelude.{◌≡◌, Bool, false, ℕ, ◌+◌, ◌<◌, ◌≤◌, List, ◌++◌, length, slice_get, slice_index_or, Some}
use Rattle.atomic_table.specs.Seated.{TableId}
use Rattle.psi_counts.specs.Clock.{zero_clock}
use Rattle.plan_laws.specs.Plan.{IsClock}
use Rattle.proc_plan.specs.Plans.{PlansView, plan_at}
use Rattle.clock_row.specs.declared.reader.Sample.{Sample}
use Rattle.observer_log.specs.declared.board.BoardState.{BoardState}
use Rattle.observer_log.specs.declared.entry.Entry.{Entry}
use Rattle.observer_log.specs.Board.{BoardEnd, after_read}
use Rattle.observer_log.specs.Watch.{AreReaders, IsTakenBy, WatcherView, named_by, reader_at}

-- ---- samples of all processors

abbrev pub no_sample : Sample
no_sample = record { count = 0; clock = zero_clock }

-- The last sample of processor `cpu` in the list, or an empty sample if the list is too short.
abbrev pub last_at : List Sample → ℕ → Sample
last_at lasts cpu = slice_index_or lasts cpu no_sample

-- Preconditions for sampling `slot` on each processor: the watcher has one reader for each
-- processor, and `lasts` has one sample for each processor. This sample is the slot's clock after
-- all changes that the reader has seen.
pub record CanLook (slot : ℕ) (lasts : List Sample) (watcher : WatcherView) : Type 0 where
  pub few : length watcher.plans.plans ≤ 64
  pub lasts_are : length lasts ≡ length watcher.plans.plans
  pub readers_are : AreReaders watcher.plans watcher.readers
  pub slots : (cpu : ℕ) → cpu < length watcher.plans.plans → slot < length (plan_at watcher.plans cpu).parents
  pub clocks : (cpu : ℕ) → cpu < length watcher.plans.plans
      → IsClock (last_at lasts cpu).clock (plan_at watcher.plans cpu) slot (last_at lasts cpu).count
  pub seen : (cpu : ℕ) → cpu < length watcher.plans.plans → (last_at lasts cpu).count ≡ (reader_at watcher.readers cpu).knows.seen

-- `taken` has one entry for each of the first `cpus` processors, in order: a sample of `slot` by
-- observer number `observer`. Each entry includes at least as many changes as the processor's last
-- sample in `lasts`.
pub record AreTaken (observer : ℕ) (plans : PlansView) (slot : ℕ) (lasts : List Sample) (cpus : ℕ) (taken : List Entry) : Type 0 where
  pub many : length taken ≡ cpus
  pub each : (cpu : ℕ) (entry : Entry) → slice_get taken cpu ≡ Some entry
      → IsTakenBy observer plans cpu slot (last_at lasts cpu).count entry

-- A watcher sampled `slot` once on each of the first `cpus` processors: it appended one entry for
-- each processor to its list. Each processor's reader has seen as many changes as its entry counts.
pub record HaveLooked (slot : ℕ) (lasts : List Sample) (cpus : ℕ) (old new : WatcherView) : Type 0 where
  pub observer_is : new.observer ≡ old.observer
  pub plans_are : new.plans ≡ old.plans
  pub taken : List Entry
  pub own_is : new.own ≡ old.own ++ taken
  pub taken_are : AreTaken old.observer old.plans slot lasts cpus taken
  pub readers_are : length new.readers ≡ length old.readers
  pub rows : (cpu : ℕ) → (reader_at new.readers cpu).row ≡ (reader_at old.readers cpu).row
  pub names : (cpu : ℕ) → named_by new.readers cpu ≡ named_by old.readers cpu
  pub seen : (cpu : ℕ) (entry : Entry) → slice_get taken cpu ≡ Some entry → (reader_at new.readers cpu).knows.seen ≡ entry.count
  pub later : (cpu : ℕ) → cpus ≤ cpu → reader_at new.readers cpu ≡ reader_at old.readers cpu

-- ---- observers

-- An observer as contracts see it: its watcher, its access to the board, its part of the ledger
-- that counts the journal's entries, and its last sample on each processor. `fell` says whether the
-- journal rejected an entry, and `failed` whether the observer ran out of memory.
pub record ObserverView : Type 0 where
  pub watcher : WatcherView
  pub pass : BoardEnd
  pub parts : ℕ
  pub amount : ℕ
  pub lasts : List Sample
  pub fell : Bool
  pub failed : Bool

-- Preconditions for reading `board` and sampling `slot`: the observer may read the board, may add
-- entries to the journal, and has a reader and a last sample for each processor.
pub record CanWatch (board : TableId) (slot : ℕ) (observer : ObserverView) : Type 0 where
  pub board_is : observer.pass.board ≡ board
  pub backed : 0 < observer.parts
  pub can : CanLook slot observer.lasts observer.watcher

-- The effect of watching `slot` once: the observer read the board once and, unless it ran out of
-- memory, sampled the slot on each processor. Unless the journal rejected an entry, all entries
-- were added to the journal.
pub record HasWatched (slot : ℕ) (old new : ObserverView) : Type 0 where
  pub board_is : new.pass.board ≡ old.pass.board
  pub parts_are : new.parts ≡ old.parts
  pub lasts_are : new.lasts ≡ old.lasts
  pub state : BoardState
  pub later : old.pass.knows.least ≤ state.tick
  pub read : new.pass.knows ≡ after_read state old.pass.knows
  pub kept : new.failed ≡ false → old.failed ≡ false
  pub looked : new.failed ≡ false → HaveLooked slot old.lasts (length old.lasts) old.watcher new.watcher
  pub stood : new.fell ≡ false → old.fell ≡ false
  pub added : new.failed ≡ false → new.fell ≡ false → new.amount ≡ old.amount + length old.lasts

-- Each observer in the list watched `slot` once.
pub record HaveAllWatched (slot : ℕ) (old new : List ObserverView) : Type 0 where
  pub many : length new ≡ length old
  pub each : (number : ℕ) (d : ObserverView) → number < length old
      → HasWatched slot (slice_index_or old number d) (slice_index_or new number d)
