-- The tick board: what the driver of a replay and the observers know about the board, and the
-- invariant that holds between two successive steps.
use Rattle.std.specs.Prelude.{◌≡◌, ℕ, ◌+◌, ◌-◌, ◌<◌, ◌≤◌, max, List, [], ◌∷◌, ◌++◌, length, slice_get, Option, Some}
use mathlib.Core.Option.{some}
use lib.ListN.{get_elem?}
use Rattle.atomic_table.specs.Seated.{TableId}
use Rattle.atomic_table.specs.declared.shared.Seat.{Seat}
use Rattle.crossbeam_utils.specs.Seq.{cell_view}
use Rattle.crossbeam_utils.specs.declared.atomic.seq_cell.Doing.{Doing}
use Rattle.observer_log.specs.declared.board.BoardState.{BoardState}
use Rattle.observer_log.specs.declared.board.Publishing.{Publishing}
use Rattle.observer_log.specs.declared.board.Watching.{Watching}
use Rattle.observer_log.specs.declared.board.View.{View}
use Rattle.observer_log.specs.declared.board.View.TheVariants.{Spent, Shown, Seen, Driver, Observer}

-- ---- states on the board

-- The three words that are stored for a board state.
abbrev pub words_of : BoardState → List ℕ
words_of state = state.tick ∷ state.events ∷ state.kills ∷ []

-- The state of the replay before the first tick.
abbrev pub first_state : BoardState
first_state = record { tick = 0; events = 0; kills = 0 }

-- `states` are all published states in the order of ticks, and `state` is the published state of
-- its tick.
abbrev pub IsPublished : List BoardState → BoardState → Type 0
IsPublished states state = slice_get states state.tick ≡ Some state

-- Each state in the second list was published. The first list has all published states.
abbrev pub ArePublished : List BoardState → List BoardState → Type 0
ArePublished states [] = Unit {0}
ArePublished states (state ∷ more) = IsPublished states state × ArePublished states more

-- `state` is the last of the published states.
abbrev pub IsLast : List BoardState → BoardState → Type 0
IsLast states state = slice_get states (length states - 1) ≡ Some state

-- `prefix` is a prefix of `states`.
abbrev pub Begins : List BoardState → List BoardState → Type 0
Begins states prefix = (rest : List BoardState) × (states ≡ prefix ++ rest)

-- ---- what the driver and the observers know

-- The knowledge of a new observer, which has read nothing: its first read returns the last of
-- `states` or a later state.
abbrev pub newcomer : List BoardState → Watching
newcomer states = record { least = length states - 1; read = [] }

-- The knowledge of an observer after it has read `state`.
abbrev pub after_read : BoardState → Watching → Watching
after_read state watching = record { least = state.tick; read = state ∷ watching.read }

-- The knowledge of an observer after it was notified that `states` were published.
abbrev pub after_known : List BoardState → Watching → Watching
after_known states watching = record { least = max watching.least (length states - 1); read = watching.read }

-- The knowledge of the driver of a new board: only the state before the first tick is published.
abbrev pub first_view : View
first_view = Driver (record { states = first_state ∷ []; heard = [] })

-- The knowledge of a new observer. The argument is the knowledge of the driver when it creates the
-- observer's pass.
abbrev pub admitted : View → View
admitted (Driver driver) = Observer (newcomer driver.states)
admitted view = Spent

-- The note that the driver or an observer creates for another thread. The driver's note has the
-- published states, and an observer's note has the states that the observer read.
abbrev pub note_of : View → View
note_of (Driver driver) = Shown driver.states
note_of (Observer watching) = Seen watching.read
note_of view = Spent

-- The knowledge of the driver or an observer after it received a note: the driver learns what an
-- observer read, and an observer learns what the driver published. Other notes change nothing.
abbrev pub with_note : View → View → View
with_note (Driver driver) (Seen read) = Driver (record { states = driver.states; heard = read })
with_note (Observer watching) (Shown states) = Observer (after_known states watching)
with_note view note = view

-- ---- the invariant

-- Whether the view of a pass is correct: the holder's knowledge agrees with the published states
-- `states`. `other` is the number of the pass, and `seat` is the number of the driver's pass.
abbrev pub Knows : ℕ → List BoardState → ℕ → View → Type 0
Knows seat states other Spent = Unit {0}
Knows seat states other (Shown shown) = Begins states shown
Knows seat states other (Seen read) = ArePublished states read
Knows seat states other (Driver driver) = (other ≡ seat) × (driver.states ≡ states) × ArePublished states driver.heard
Knows seat states other (Observer watching) = (watching.least < length states) × ArePublished states watching.read

-- The invariant of a board whose driver has pass number `seat` and the knowledge `driver`. The
-- board shows the last published state, and the tick of this state is its index among the published
-- states. The knowledge of each pass is correct.
pub record IsBoard (seat : ℕ) (driver : Publishing) (value : BoardState) (views : List View) : Type 0 where
  pub here : get_elem? views seat ≡ some (Driver driver)
  pub last : length driver.states ≡ value.tick + 1
  pub shown : IsPublished driver.states value
  pub each : (other : ℕ) (view : View) → get_elem? views other ≡ some view → Knows seat driver.states other view

-- The invariant of a board: there is a driver, the board shows the last published state, and the
-- knowledge of each pass is correct.
abbrev pub HoldsBoard : BoardState → List View → Type 0
HoldsBoard value views = (seat : ℕ) × (driver : Publishing) × IsBoard seat driver value views

-- ---- the steps

-- The effect of publishing: the driver has published one more state.
abbrev pub HasPublished : View → BoardState → BoardState → View → Type 0
HasPublished before old new after =
    (driver : Publishing) → before ≡ Driver driver → after ≡ Driver (record { states = driver.states ++ new ∷ []; heard = driver.heard })

-- The effect of a read: the observer has read one more state. The tick of this state is at least
-- the latest tick that the observer knew before.
abbrev pub HasRead : View → BoardState → BoardState → View → Type 0
HasRead before old new after =
    (watching : Watching) → before ≡ Observer watching → (after ≡ Observer (after_read new watching)) × (watching.least ≤ new.tick)

-- The effect of a comparison: each state that an observer reported to the driver was published. The
-- driver's knowledge is unchanged.
abbrev pub HasCompared : View → BoardState → BoardState → View → Type 0
HasCompared before old new after =
    (driver : Publishing) → before ≡ Driver driver → (after ≡ before) × ArePublished driver.states driver.heard

-- ---- what contracts see of a pass

abbrev pub BoardSeat : Type 0
BoardSeat = Seat BoardState (Doing BoardState View)

-- The driver's pass (the right to publish on a board), as contracts see it: the board, and the
-- states published on it.
pub record DriverEnd : Type 0 where
  pub board : TableId
  pub states : List BoardState

-- An observer's pass (the right to read a board), as contracts see it: the board, and what the
-- observer knows.
pub record BoardEnd : Type 0 where
  pub board : TableId
  pub knows : Watching

-- Returns what the driver knows. If the view isn't the driver's, returns a driver that has
-- published nothing.
abbrev pub as_driver : View → Publishing
as_driver (Driver driver) = driver
as_driver view = record { states = []; heard = [] }

-- Returns what the observer knows. If the view isn't an observer's, returns an observer that has
-- read nothing.
abbrev pub as_observer : View → Watching
as_observer (Observer watching) = watching
as_observer view = newcomer []

abbrev pub driver_end : BoardSeat → DriverEnd
driver_end seat = record { board = seat.table_id; states = (as_driver (cell_view seat)).states }

abbrev pub board_end : BoardSeat → BoardEnd
board_end seat = record { board = seat.table_id; knows = as_observer (cell_view seat) }

abbrev pub IsDriver : BoardSeat → Type 0
IsDriver seat = cell_view seat ≡ Driver (as_driver (cell_view seat))

abbrev pub IsObserver : BoardSeat → Type 0
IsObserver seat = cell_view seat ≡ Observer (as_observer (cell_view seat))

-- ---- a law of the board

-- If an observer was notified of all published states, the state that it reads next is the last
-- published state. This requires that every state that the observer has read was published.
abbrev pub LastReadIsLast : Type 0
LastReadIsLast = (states : List BoardState) (state : BoardState) (before : Watching) → (after_known states before).least ≤ state.tick →
    ArePublished states (after_read state (after_known states before)).read → IsLast states state
