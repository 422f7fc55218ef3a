-- Defines the views of the handles of a seqlock, and how a view may change. The writer, each reader
-- and each message has a handle. The view of a handle records what its owner knows about the
-- seqlock.
use Rattle.std.specs.Prelude.{◌≡◌, ℕ, List, []}
use Rattle.atomic_table.specs.declared.shared.Seat.{Seat}
use Rattle.plan_laws.specs.Plan.{no_plan}
use Rattle.clock_row.specs.Row.{writer_at_start}
use Rattle.clock_row.specs.Steps.{closed, new_reader}
use Rattle.clock_row.specs.declared.view.WriterView.{WriterView}
use Rattle.clock_row.specs.declared.view.ReaderView.{ReaderView}
use Rattle.clock_row.specs.declared.view.Note.{Note}
use Rattle.clock_row.specs.declared.view.Attempt.{Attempt}
use Rattle.clock_row.specs.declared.view.Attempt.TheVariants.{Closed, Open}
use Rattle.clock_row.specs.declared.view.View.{View}
use Rattle.clock_row.specs.declared.view.View.TheVariants.{Noted, Writer, Reader}

-- A handle of a seqlock.
abbrev pub RowSeat : Type 0
RowSeat = Seat (Unit {0}) View

-- Returns the writer's view that `view` contains. If `view` belongs to a reader or a message,
-- returns a writer's view of the empty plan.
abbrev pub as_writer : View → WriterView
as_writer (Writer writer) = writer
as_writer view = writer_at_start no_plan []

-- Returns the reader's view that `view` contains. If `view` belongs to the writer or a message,
-- returns a reader's view of the empty plan.
abbrev pub as_reader : View → ReaderView
as_reader (Reader reader) = reader
as_reader view = new_reader no_plan 0

-- Returns the writer's view of a handle, which must belong to a writer.
abbrev pub writer_on : RowSeat → WriterView
writer_on seat = as_writer seat.me.0

-- Returns the reader's view of a handle, which must belong to a reader.
abbrev pub reader_on : RowSeat → ReaderView
reader_on seat = as_reader seat.me.0

-- The handle belongs to the writer.
abbrev pub IsWriter : RowSeat → Type 0
IsWriter seat = seat.me.0 ≡ Writer (writer_on seat)

-- The handle belongs to a reader.
abbrev pub IsReader : RowSeat → Type 0
IsReader seat = seat.me.0 ≡ Reader (reader_on seat)

-- The handle belongs to a message.
abbrev pub IsNote : RowSeat → Type 0
IsNote seat = (note : Note) × (seat.me.0 ≡ Noted note)

-- `IsSameSeat before after`: both are the same handle of the same seqlock. Its view may differ.
abbrev pub IsSameSeat : RowSeat → RowSeat → Type 0
IsSameSeat before after = (after.table_id ≡ before.table_id) × (after.id ≡ before.id)

-- Returns the writer's view after the words that follow the sequence number are replaced.
abbrev pub with_body : List ℕ → WriterView → WriterView
with_body body writer = record writer { body = body }

-- `HasStored before after`: the writer stored words after the sequence number. Nothing else in the
-- writer's view changed.
abbrev pub HasStored : RowSeat → RowSeat → Type 0
HasStored before after = after.me.0 ≡ Writer (with_body (writer_on after).body (writer_on before))

-- `changed_to body writer`: the writer's view after one more change, if the words after the
-- sequence number are then `body`.
abbrev pub changed_to : List ℕ → WriterView → WriterView
changed_to body writer = closed (with_body body writer)

-- Returns the reader's view after its current attempt is replaced.
abbrev pub with_attempt : Attempt → ReaderView → ReaderView
with_attempt attempt reader = record reader { attempt = attempt }

-- Returns the indexes and values that an attempt has loaded, or the empty list if no attempt is in
-- progress.
abbrev pub loaded_in : Attempt → List (ℕ × ℕ)
loaded_in (Open first loaded) = loaded
loaded_in Closed = []

-- `IsTrying first seat`: the reader with the handle `seat` is in an attempt that began with the
-- sequence number `first`.
abbrev pub IsTrying : ℕ → RowSeat → Type 0
IsTrying first seat = (reader_on seat).attempt ≡ Open first (loaded_in (reader_on seat).attempt)

-- `HasLoaded before after`: the reader's attempt loaded more words. Nothing else in the reader's
-- view changed.
abbrev pub HasLoaded : RowSeat → RowSeat → Type 0
HasLoaded before after = after.me.0 ≡ Reader (with_attempt (reader_on after).attempt (reader_on before))
