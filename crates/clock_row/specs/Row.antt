-- Defines the invariant of a seqlock. The invariant relates the seqlock's words to the views of its
-- handles, and holds between any two steps. The writer, each reader and each message (which carries
-- a number of changes) has a handle. The view of a handle records what its owner knows about the
-- seqlock.
--
-- Word 0 is the sequence number: twice the number of changes in the seqlock, plus one while a
-- change is in progress. Nine words for each slot follow.
use Rattle.std.specs.Prelude.{◌≡◌, ℕ, ◌+◌, ◌*◌, ◌%◌, ◌≤◌, Bool, true, false, List, ◌∷◌, length, replicate}
use mathlib.Core.Option.{some}
use lib.ListN.{get_elem?}
use Rattle.atomic_table.specs.Table.{State}
use Rattle.plan_laws.specs.Plan.{PlanView}
use Rattle.clock_row.specs.Words.{Agrees, AreClockWords}
use Rattle.clock_row.specs.declared.view.WriterView.{WriterView}
use Rattle.clock_row.specs.declared.view.Attempt.{Attempt}
use Rattle.clock_row.specs.declared.view.Attempt.TheVariants.{Closed, Open}
use Rattle.clock_row.specs.declared.view.View.{View}
use Rattle.clock_row.specs.declared.view.View.TheVariants.{Spent, Noted, Writer, Reader}

-- The state of a seqlock: its words, and the view of each handle.
abbrev pub RowState : Type 0
RowState = State (Unit {0}) View

-- Returns the lowest bit of the sequence number: 1 if a change is in progress, otherwise 0.
abbrev pub open_bit : Bool → ℕ
open_bit true = 1
open_bit false = 0

-- `sequence writer`: the sequence number of a seqlock, computed from the writer's view `writer`.
abbrev pub sequence : WriterView → ℕ
sequence writer = 2 * writer.count + open_bit writer.changing

-- `KnowsLoaded number body attempt`: what a reader's attempt has proved about a seqlock with the
-- sequence number `number` and the words `body` after it. The attempt began with an even sequence
-- number, which is at most `number`. If the two numbers are equal, each value that the attempt
-- loaded is still at its index in `body`.
abbrev pub KnowsLoaded : ℕ → List ℕ → Attempt → Type 0
KnowsLoaded number body Closed = Unit {0}
KnowsLoaded number body (Open first loaded) = (first % 2 ≡ 0) × (first ≤ number) × (number ≡ first → Agrees body loaded)

-- `Knows seat writer other view`: the view of the handle `other` is correct for a seqlock whose
-- writer has the handle `seat` and the view `writer`. A writer's view is correct only if it equals
-- `writer` and `other` is `seat`. The view of a message or a reader is correct if it has the
-- writer's plan, and twice its number of changes is at most the sequence number. A reader's attempt
-- must also satisfy `KnowsLoaded`. A spent view is always correct.
abbrev pub Knows : ℕ → WriterView → ℕ → View → Type 0
Knows seat writer other Spent = Unit {0}
Knows seat writer other (Noted note) = (note.plan ≡ writer.plan) × (2 * note.number ≤ sequence writer)
Knows seat writer other (Writer view) = (other ≡ seat) × (view ≡ writer)
Knows seat writer other (Reader reader) =
    (reader.plan ≡ writer.plan) × (2 * reader.seen ≤ sequence writer) × KnowsLoaded (sequence writer) writer.body reader.attempt

-- `IsWholeRow seat writer row`: `writer` is the view of the writer's handle `seat`, and describes
-- the seqlock `row`. The seqlock's words are the sequence number and the words in that view. The
-- view of each handle is correct. The number of changes reported to the writer is at most the
-- number in the seqlock. If no change is in progress, the words of each slot represent the slot's
-- clock after these changes.
pub record IsWholeRow (seat : ℕ) (writer : WriterView) (row : RowState) : Type 0 where
  pub here : get_elem? row.views seat ≡ some (Writer writer)
  pub words : row.words ≡ sequence writer ∷ writer.body
  pub each : (other : ℕ) (view : View) → get_elem? row.views other ≡ some view → Knows seat writer other view
  pub known : 2 * writer.known ≤ sequence writer
  pub at_rest : writer.changing ≡ false → AreClockWords writer.plan writer.count writer.body

-- The invariant of a seqlock: one of its handles belongs to a writer whose view describes the
-- seqlock (`IsWholeRow`).
abbrev pub HoldsRule : RowState → Type 0
HoldsRule row = (seat : ℕ) × (writer : WriterView) × IsWholeRow seat writer row

-- The writer's view before the first change. `body` has the words after the sequence number.
abbrev pub writer_at_start : PlanView → List ℕ → WriterView
writer_at_start plan body = record { plan = plan; count = 0; body = body; changing = false; known = 0 }

-- The view of the only handle of a new seqlock. This is the writer's view before the first change,
-- with all words zero.
abbrev pub first_view : PlanView → View
first_view plan = Writer (writer_at_start plan (replicate (9 * length plan.parents) 0))
