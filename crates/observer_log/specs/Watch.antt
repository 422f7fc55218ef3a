-- Watchers, which take samples for one observer: their readers, and the entries that they store.
use Rattle.std.specs.Prelude.{◌≡◌, ℕ, ◌+◌, ◌<◌, ◌≤◌, List, [], ◌∷◌, ◌++◌, length, slice_index_or, slice_set}
use Rattle.plan_laws.specs.Plan.{PlanView, no_plan}
use Rattle.proc_plan.specs.Plans.{PlansView, plan_at}
use Rattle.clock_row.specs.Ends.{ReaderEnd}
use Rattle.clock_row.specs.Steps.{new_reader}
use Rattle.clock_row.specs.Tries.{IsTried, tries_of}
use Rattle.observer_log.specs.declared.entry.Entry.{Entry}

-- ---- readers

-- A dummy reader, for an index past the end of a list of readers.
abbrev pub no_reader : ReaderEnd
no_reader = record {
  row = record { words = 0; slots = 0; views_name = 0; atom = 0; block = 0; offset = 0; slot_names = [] };
  knows = new_reader no_plan 0;
}

-- The reader of processor `cpu`, or a dummy reader if the list is too short.
abbrev pub reader_at : List ReaderEnd → ℕ → ReaderEnd
reader_at readers cpu = slice_index_or readers cpu no_reader

-- The plan whose clocks the reader of processor `cpu` reads.
abbrev pub named_by : List ReaderEnd → ℕ → PlanView
named_by readers cpu = (reader_at readers cpu).knows.plan

-- There is one reader for each processor, and it reads the clocks of that processor's plan.
pub record AreReaders (plans : PlansView) (readers : List ReaderEnd) : Type 0 where
  pub many : length readers ≡ length plans.plans
  pub name : (cpu : ℕ) → cpu < length plans.plans → named_by readers cpu ≡ plan_at plans cpu

-- ---- watchers

-- A watcher: the number of its observer, the plans of all processors, the reader of each processor,
-- and the observer's own entries.
pub record WatcherView : Type 0 where
  pub observer : ℕ
  pub plans : PlansView
  pub readers : List ReaderEnd
  pub own : List Entry

-- A new watcher without entries.
abbrev pub new_watcher : ℕ → PlansView → List ReaderEnd → WatcherView
new_watcher observer plans readers = record { observer = observer; plans = plans; readers = readers; own = [] }

-- ---- taking a sample

-- `observer` took the entry from `slot` on processor `cpu`. The entry includes at least `least`
-- changes of the processor's plan.
pub record IsTakenBy (observer : ℕ) (plans : PlansView) (cpu slot least : ℕ) (entry : Entry) : Type 0 where
  pub observer_is : entry.observer ≡ observer
  pub plan_is : entry.plan.now ≡ plan_at plans cpu
  pub cpu_is : entry.cpu.0 ≡ cpu
  pub slot_is : entry.slot.0 ≡ slot
  pub later : least ≤ entry.count

-- The reader of processor `cpu` took a sample of `count` changes, and the previous sample had
-- `last` changes. If eight tries to read the clocks fail, the reader repeats the previous sample.
-- The other readers are unchanged.
pub record HasSampled (cpu last count : ℕ) (old new : List ReaderEnd) : Type 0 where
  pub reader : ReaderEnd
  pub are : new ≡ slice_set old cpu reader
  pub row : reader.row ≡ (reader_at old cpu).row
  pub plan : reader.knows.plan ≡ named_by old cpu
  pub seen : reader.knows.seen ≡ count
  pub tried : IsTried (count ∷ []) last (reader_at old cpu).knows reader.knows
  pub few : tries_of reader.knows ≤ tries_of (reader_at old cpu).knows + 8

-- A watcher took a sample of `slot` on processor `cpu`, and appended its entry to the list. The
-- previous sample included `last` changes.
pub record HasLooked (cpu slot last : ℕ) (old new : WatcherView) : Type 0 where
  pub observer_is : new.observer ≡ old.observer
  pub plans_are : new.plans ≡ old.plans
  pub entry : Entry
  pub own_is : new.own ≡ old.own ++ entry ∷ []
  pub entry_is : IsTakenBy old.observer old.plans cpu slot last entry
  pub sampled : HasSampled cpu last entry.count old.readers new.readers
