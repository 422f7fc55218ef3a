-- Defines the nine kinds of step on a seqlock. States how each step changes the view of its handle,
-- what its result means, and that the step preserves the invariant. The writer, each reader and
-- each message has a handle. The view of a handle records what its owner knows about the seqlock.
use Rattle.std.specs.Prelude.{◌≡◌, ℕ, ◌+◌, ◌*◌, ◌-◌, ◌/◌, ◌%◌, ◌≤◌, max, Bool, true, false, ◌==◌, List, [], ◌∷◌, ◌++◌, slice_index, slice_set}
use mathlib.Core.Option.{none}
use Rattle.atomic_table.specs.Table.{Allows, Joins, Me, Splits, Step, opening, step}
use Rattle.plan_laws.specs.Plan.{PlanView}
use Rattle.clock_row.specs.Words.{AreClockWords, StoodTogether}
use Rattle.clock_row.specs.Row.{HoldsRule, sequence, writer_at_start}
use Rattle.clock_row.specs.declared.view.WriterView.{WriterView}
use Rattle.clock_row.specs.declared.view.ReaderView.{ReaderView}
use Rattle.clock_row.specs.declared.view.Note.{Note}
use Rattle.clock_row.specs.declared.view.Attempt.{Attempt}
use Rattle.clock_row.specs.declared.view.Attempt.TheVariants.{Closed, Open}
use Rattle.clock_row.specs.declared.view.View.{View}
use Rattle.clock_row.specs.declared.view.View.TheVariants.{Spent, Noted, Writer, Reader}

-- The state of a handle as `atomic_table` requires it: the view, and an empty list of slots. A
-- seqlock has no slots in the sense of `atomic_table`.
abbrev pub Sitter : Type 0
Sitter = Me (Unit {0}) View

-- A single step on a seqlock, as defined by `atomic_table`.
abbrev pub RowStep : Type 0
RowStep = Step (Unit {0})

-- `Writes change before after`: a step of the writer applies the function `change` to the writer's
-- view. `before` and `after` are the views before and after the step.
abbrev pub Writes : (WriterView → WriterView) → View → View → Type 0
Writes change before after = (writer : WriterView) → before ≡ Writer writer → after ≡ Writer (change writer)

-- `Reads change before after`: a step of a reader applies the function `change` to the reader's
-- view. `before` and `after` are the views before and after the step.
abbrev pub Reads : (ReaderView → ReaderView) → View → View → Type 0
Reads change before after = (reader : ReaderView) → before ≡ Reader reader → after ≡ Reader (change reader)

-- ---- steps 1 to 4: the writer

-- Returns the writer's view after the writer begins a change.
abbrev pub change_opened : WriterView → WriterView
change_opened writer = record writer { changing = true }

-- `put_at place word writer`: the writer's view after it stores `word` at index `place` after the
-- sequence number.
abbrev pub put_at : ℕ → ℕ → WriterView → WriterView
put_at place word writer = record writer { body = slice_set writer.body place word }

-- Returns the writer's view after the writer completes a change. The seqlock has one more change,
-- and no change is in progress.
abbrev pub closed : WriterView → WriterView
closed writer = record writer { count = writer.count + 1; changing = false }

-- Step 1: the writer begins a change by storing the next odd sequence number.
abbrev pub Opens : RowStep → Sitter → ℕ → Sitter → Type 0
Opens step before number after = Writes change_opened before.0 after.0

-- Step 2: the writer stores a word after the sequence number, which replaces the word at its index.
abbrev pub Puts : RowStep → Sitter → ℕ → Sitter → Type 0
Puts step before word after = Writes (put_at (step.word - 1) step.first) before.0 after.0

-- Step 3: the writer completes the change by storing the next even sequence number.
abbrev pub Closes : RowStep → Sitter → ℕ → Sitter → Type 0
Closes step before number after = Writes closed before.0 after.0

-- Step 4: the writer loads a word, which equals the word in the writer's view. The load also shows
-- that twice the number of changes reported to the writer is at most the sequence number.
abbrev pub Owns : RowStep → Sitter → ℕ → Sitter → Type 0
Owns step before word after =
    (after.0 ≡ before.0)
    × ((writer : WriterView) → before.0 ≡ Writer writer
    → (word ≡ slice_index (sequence writer ∷ writer.body) step.word) × (2 * writer.known ≤ sequence writer))

-- ---- steps 5 to 7: a reader

-- `begun_by is_even number reader`: the reader's view after the first load of an attempt, which
-- returned the sequence number `number`. If the number is even, the attempt is in progress. If it
-- is odd, the attempt has failed because a change was in progress.
abbrev pub begun_by : Bool → ℕ → ReaderView → ReaderView
begun_by true number reader = record reader { loads = reader.loads + 1; first = reader.second; second = number; attempt = Open number [] }
begun_by false number reader =
    record reader { loads = reader.loads + 1; met = reader.met + 1; first = reader.second; second = number; attempt = Closed }

-- `try_begun number reader`: the reader's view after the first load of an attempt, which returned
-- the sequence number `number`.
abbrev pub try_begun : ℕ → ReaderView → ReaderView
try_begun number reader = begun_by (number % 2 == 0) number reader

-- `loaded_too place value attempt`: the reader's attempt after it loaded `value` at index `place`.
-- If no attempt is in progress, none is in progress afterwards.
abbrev pub loaded_too : ℕ → ℕ → Attempt → Attempt
loaded_too place value Closed = Closed
loaded_too place value (Open first loaded) = Open first ((place, value) ∷ loaded)

-- `loaded_at place value reader`: the reader's view after it loaded `value` at index `place` in an
-- attempt.
abbrev pub loaded_at : ℕ → ℕ → ReaderView → ReaderView
loaded_at place value reader = record reader { attempt = loaded_too place value reader.attempt }

-- `ended_by is_same first number reader`: the reader's view after an attempt that began with
-- `first` loaded the sequence number again, with the result `number`. If the two numbers are equal,
-- the attempt succeeds: its sample includes `first / 2` changes, and the reader has now seen these
-- changes. If they differ, the attempt fails because of a change.
abbrev pub ended_by : Bool → ℕ → ℕ → ReaderView → ReaderView
ended_by true first number reader =
    record reader {
      seen = first / 2;
      loads = reader.loads + 1;
      got = reader.got ++ first / 2 ∷ [];
      first = reader.second;
      second = number;
      attempt = Closed;
    }
ended_by false first number reader =
    record reader { loads = reader.loads + 1; met = reader.met + 1; first = reader.second; second = number; attempt = Closed }

-- `ended first number reader`: the reader's view after an attempt that began with `first` loaded
-- the sequence number again, with the result `number`.
abbrev pub ended : ℕ → ℕ → ReaderView → ReaderView
ended first number reader = ended_by (number == first) first number reader

-- Step 5: the first load of the sequence number begins an attempt. The loaded number is at least
-- twice the number of changes that the reader has seen.
abbrev pub BeginsTry : RowStep → Sitter → ℕ → Sitter → Type 0
BeginsTry step before number after =
    (reader : ReaderView) → before.0 ≡ Reader reader → (after.0 ≡ Reader (try_begun number reader)) × (2 * reader.seen ≤ number)

-- Step 6: a reader loads a word after the sequence number, and the attempt records the index and
-- the value.
abbrev pub Loads : RowStep → Sitter → ℕ → Sitter → Type 0
Loads step before value after = Reads (loaded_at (step.word - 1) value) before.0 after.0

-- Step 7: the second load of the sequence number ends an attempt. The number is at least the first
-- number. If the two numbers are equal, the values that the attempt loaded were in the seqlock at
-- the same time, after half that number of changes.
abbrev pub EndsTry : RowStep → Sitter → ℕ → Sitter → Type 0
EndsTry step before number after =
    (reader : ReaderView) (first : ℕ) (loaded : List (ℕ × ℕ)) → before.0 ≡ Reader reader → reader.attempt ≡ Open first loaded →
    (after.0 ≡ Reader (ended first number reader)) × (first ≤ number) × (number ≡ first → StoodTogether reader.plan (first / 2) loaded)

-- ---- step 8: a new handle

-- `new_reader plan count`: the view of a new reader that has seen the first `count` changes of
-- `plan`. The reader isn't in an attempt.
abbrev pub new_reader : PlanView → ℕ → ReaderView
new_reader plan count = record { plan = plan; seen = count; loads = 0; met = 0; got = []; first = 0; second = 0; attempt = Closed }

-- Returns the view of a reader that the writer creates. The reader has seen all changes that the
-- writer has applied. Returns `Spent` for a view that isn't a writer's.
abbrev pub reader_of : View → View
reader_of (Writer writer) = Reader (new_reader writer.plan writer.count)
reader_of view = Spent

-- Returns the view of a message that the writer or a reader creates. The message contains the
-- number of changes that the writer has applied or that the reader has seen. Returns `Spent` for
-- any other view.
abbrev pub note_of : View → View
note_of (Writer writer) = Noted record { plan = writer.plan; number = writer.count }
note_of (Reader reader) = Noted record { plan = reader.plan; number = reader.seen }
note_of view = Spent

-- ---- step 9: a message is received

-- Returns the number of changes in a message's view, or 0 for the view of a writer or a reader.
abbrev pub number_noted : View → ℕ
number_noted (Noted note) = note.number
number_noted view = 0

-- `count_shown number reader`: the reader's view after the reader learns that the seqlock has at
-- least `number` changes.
abbrev pub count_shown : ℕ → ReaderView → ReaderView
count_shown number reader = record reader { seen = max reader.seen number }

-- `count_known number writer`: the writer's view after a reader has reported `number` changes to
-- the writer.
abbrev pub count_known : ℕ → WriterView → WriterView
count_known number writer = record writer { known = max writer.known number }

-- `with_note view note`: the view of a handle after its owner receives a message with a number of
-- changes. If the owner is a reader, it has then seen at least that number. If it is the writer, at
-- least that number has been reported to it.
abbrev pub with_note : View → View → View
with_note (Writer writer) note = Writer (count_known (number_noted note) writer)
with_note (Reader reader) note = Reader (count_shown (number_noted note) reader)
with_note view note = view

-- ---- laws: each step preserves the invariant of a seqlock

-- Law of the start: a new seqlock satisfies the invariant if its words represent the clock of each
-- slot before the first change.
abbrev pub StartHolds : Type 0
StartHolds =
    (plan : PlanView) (body : List ℕ) → AreClockWords plan 0 body → HoldsRule (opening (0 ∷ body) [] (Writer (writer_at_start plan body)))

-- Law of step 1: if no change is in progress, the writer may store the next odd sequence number.
abbrev pub OpenKeeps : Type 0
OpenKeeps =
    (slots id : ℕ) (me : Sitter) (writer : WriterView) (number : ℕ) → me.0 ≡ Writer writer → number ≡ 2 * writer.count + 1
    → writer.changing ≡ false →
    Allows HoldsRule slots id me 0 (λ _. number) (λ _. Opens (step slots 0 number 0 none) me number)

-- Law of step 2: while a change is in progress, the writer may store any word at any index after
-- the sequence number.
abbrev pub PutKeeps : Type 0
PutKeeps = (slots id : ℕ) (me : Sitter) (writer : WriterView) (place word : ℕ) → me.0 ≡ Writer writer → writer.changing ≡ true →
    Allows HoldsRule slots id me (place + 1) (λ _. word) (λ _. Puts (step slots (place + 1) word 0 none) me word)

-- Law of step 3: the writer may store the next even sequence number if a change is in progress and
-- the words of each slot represent the slot's clock after the change.
abbrev pub CloseKeeps : Type 0
CloseKeeps =
    (slots id : ℕ) (me : Sitter) (writer : WriterView) (number : ℕ) → me.0 ≡ Writer writer → number ≡ 2 * writer.count + 2
    → writer.changing ≡ true →
    AreClockWords writer.plan (writer.count + 1) writer.body →
    Allows HoldsRule slots id me 0 (λ _. number) (λ _. Closes (step slots 0 number 0 none) me number)

-- Law of step 4: the writer may load any word at any time.
abbrev pub OwnKeeps : Type 0
OwnKeeps = (slots id word : ℕ) (me : Sitter) → Allows HoldsRule slots id me word (λ value. value) (Owns (step slots word 0 0 none) me)

-- Law of step 5: a reader may begin an attempt at any time.
abbrev pub BeginKeeps : Type 0
BeginKeeps =
    (slots id : ℕ) (me : Sitter) (reader : ReaderView) → me.0 ≡ Reader reader
    → Allows HoldsRule slots id me 0 (λ number. number) (BeginsTry (step slots 0 0 0 none) me)

-- Law of step 6: a reader may load any word after the sequence number at any time.
abbrev pub LoadKeeps : Type 0
LoadKeeps = (slots id place : ℕ) (me : Sitter) (reader : ReaderView) → me.0 ≡ Reader reader →
    Allows HoldsRule slots id me (place + 1) (λ value. value) (Loads (step slots (place + 1) 0 0 none) me)

-- Law of step 7: a reader whose attempt is in progress may end the attempt.
abbrev pub EndKeeps : Type 0
EndKeeps = (slots id first : ℕ) (me : Sitter) (reader : ReaderView) (loaded : List (ℕ × ℕ)) → me.0 ≡ Reader reader
    → reader.attempt ≡ Open first loaded →
    Allows HoldsRule slots id me 0 (λ number. number) (EndsTry (step slots 0 0 0 none) me)

-- Law of step 8: the owner of a handle may create a handle with the view that `reader_of` or
-- `note_of` returns for its own view.
abbrev pub SplitKeeps : Type 0
SplitKeeps = (id : ℕ) (view : View) → Splits HoldsRule id view view (reader_of view) × Splits HoldsRule id view view (note_of view)

-- Law of step 9 for a reader: the reader may receive a message. The message's handle is then spent,
-- and its view contains nothing.
abbrev pub ReaderTakesNote : Type 0
ReaderTakesNote = (id other : ℕ) (view spent : View) (reader : ReaderView) (note : Note) → view ≡ Reader reader → spent ≡ Noted note →
    Joins HoldsRule id view other spent (with_note view spent) Spent

-- Law of step 9 for the writer: the writer may receive a message. The message's handle is then
-- spent, and its view contains nothing.
abbrev pub WriterTakesNote : Type 0
WriterTakesNote = (id other : ℕ) (view spent : View) (writer : WriterView) (note : Note) → view ≡ Writer writer → spent ≡ Noted note →
    Joins HoldsRule id view other spent (with_note view spent) Spent
