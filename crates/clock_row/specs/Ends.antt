-- Defines how contracts represent a writer and a reader of a seqlock: by the seqlock, and by a view
-- that records what the writer or the reader knows about the seqlock.
use Rattle.std.specs.Prelude.{◌≡◌, ◌⊎◌, ℕ, ◌+◌, ◌*◌, ◌%◌, ◌^◌, ◌<◌, List, [], ◌∷◌, ◌++◌, false, length, slice_index_or}
use Rattle.atomic_table.specs.Seated.{TableId}
use Rattle.psi_counts.specs.Clock.{ClockView, zero_clock}
use Rattle.plan_laws.specs.Plan.{IsClock, IsPlan, PlanView}
use Rattle.proc_plan.specs.Clocks.{OnPlan}
use Rattle.clock_row.specs.Words.{AreClockWords}
use Rattle.clock_row.specs.Seats.{IsReader, IsWriter, RowSeat, reader_on, writer_on}
use Rattle.clock_row.specs.declared.view.WriterView.{WriterView}
use Rattle.clock_row.specs.declared.view.ReaderView.{ReaderView}
use Rattle.clock_row.specs.declared.view.Attempt.TheVariants.{Closed}

-- A writer in contracts: its seqlock, and what the writer knows about the seqlock.
pub record WriterEnd : Type 0 where
  pub row : TableId
  pub knows : WriterView

-- A reader in contracts: its seqlock, and what the reader knows about the seqlock.
pub record ReaderEnd : Type 0 where
  pub row : TableId
  pub knows : ReaderView

-- `IsWriterEnd row seat plan clocks`: the invariant, between two calls, of the writer that has the
-- handle `seat` of the seqlock `row`. The seqlock has a sequence number and nine words for each
-- slot of the plan. No change is in progress, and the words of each slot represent the slot's
-- clock. The writer's own clocks `clocks` have applied the same changes of the same plan.
pub record IsWriterEnd (row : TableId) (seat : RowSeat) (plan : PlanView) (clocks : OnPlan) : Type 0 where
  pub on_row : seat.table_id ≡ row
  pub wide : row.words ≡ 9 * length plan.parents + 1
  pub fits : length plan.parents < 2 ^ 32
  pub writer : IsWriter seat
  pub still : (writer_on seat).changing ≡ false
  pub whole : IsPlan plan
  pub plan_is : (writer_on seat).plan ≡ plan
  pub clocks_plan : clocks.plan ≡ plan
  pub clocks_made : clocks.made ≡ (writer_on seat).count
  pub words : AreClockWords plan (writer_on seat).count (writer_on seat).body

-- `IsReaderEnd row seat`: the invariant, between two calls, of a reader that has the handle `seat`
-- of the seqlock `row`. The seqlock has a sequence number and nine words for each slot of the plan.
-- The reader isn't in an attempt to take a sample.
pub record IsReaderEnd (row : TableId) (seat : RowSeat) : Type 0 where
  pub on_row : seat.table_id ≡ row
  pub wide : row.words ≡ 9 * length (reader_on seat).plan.parents + 1
  pub fits : length (reader_on seat).plan.parents < 2 ^ 32
  pub reader : IsReader seat
  pub closed : (reader_on seat).attempt ≡ Closed

-- `sample_taken count reader`: the reader's view after a successful attempt to take a sample. The
-- sample includes `count` changes, which the reader has now seen. Both loads of the sequence number
-- returned `2 * count`.
abbrev pub sample_taken : ℕ → ReaderView → ReaderView
sample_taken count reader =
    record reader { seen = count; loads = reader.loads + 2; got = reader.got ++ count ∷ []; first = 2 * count; second = 2 * count }

-- `met_change loads first second reader`: the reader's view after an attempt that failed because
-- the writer changed the seqlock. The attempt loaded the sequence number `loads` times. `first` and
-- `second` are the results of the reader's last two loads.
abbrev pub met_change : ℕ → ℕ → ℕ → ReaderView → ReaderView
met_change loads first second reader = record reader { loads = reader.loads + loads; met = reader.met + 1; first = first; second = second }

-- `IsBusy first second before after`: an attempt to take a sample failed because of a change.
-- `before` and `after` are the reader's views before and after the attempt. The attempt either
-- loaded one odd sequence number, which is both `first` and `second`, or an even number `first` and
-- then a greater number `second`.
abbrev pub IsBusy : ℕ → ℕ → ReaderView → ReaderView → Type 0
IsBusy first second before after =
    ((first % 2 ≡ 1) × (second ≡ first) × (after ≡ met_change 1 before.second first before))
    ⊎ ((first % 2 ≡ 0) × (first < second) × (after ≡ met_change 2 first second before))

-- `AllAreClocks plan k clocks`: the list `clocks` has the clock of each slot after the first k
-- changes of the plan, in order of slots.
abbrev pub AllAreClocks : PlanView → ℕ → List ClockView → Type 0
AllAreClocks plan k clocks = (slot : ℕ) → slot < length plan.parents → IsClock (slice_index_or clocks slot zero_clock) plan slot k
