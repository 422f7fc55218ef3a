-- Defines the clock of a group on a processor: the times (ns) that the group spent in each state,
-- and its current states.
use Rattle.std.specs.Prelude.{◌≡◌, ℕ, ◌+◌, ◌-◌, ◌≤◌, List, [], ◌∷◌, ◌++◌, length, map, slice_index, if◌then◌else◌}
use Rattle.psi_base.specs.declared.event.State.{State}
use Rattle.psi_spec.specs.Within.{last_moment}
use Rattle.psi_spec.specs.Stall.{state_number, states}
use Rattle.psi_counts.specs.Counts.{mask_holds, IsMask}

-- A clock of a group on a processor. `times` has the time (ns) that the group spent in each state
-- up to `start`, in the order of the states. `mask` is the set of the group's states since `start`
-- (ns).
pub record ClockView : Type 0 where
  pub times : List ℕ
  pub mask : ℕ
  pub start : ℕ

-- The clock at time 0: the time in each state is 0, and the mask is empty.
abbrev pub zero_clock : ClockView
zero_clock = record { times = map (λ _. 0) states; mask = 0; start = 0 }

-- `opened_time clock at state`: the time (ns) that the group spent in `state` up to time `at` (ns).
-- It is the time up to the clock's start, plus the time since the start if the mask contains the
-- state.
abbrev pub opened_time : ClockView → ℕ → State → ℕ
opened_time clock at state = slice_index clock.times (state_number state) + (if mask_holds clock.mask state then at - clock.start else 0)

-- `opened clock at`: the times (ns) that the group spent in each state up to time `at` (ns), in the
-- order of the states.
abbrev pub opened : ClockView → ℕ → List ℕ
opened clock at = map (opened_time clock at) states

-- `advanced clock at mask`: the clock after it is advanced to time `at` (ns). Since `at`, the group
-- has been in the states of `mask`.
abbrev pub advanced : ClockView → ℕ → ℕ → ClockView
advanced clock at mask = record { times = opened clock at; mask = mask; start = at }

-- `IsInTime clock at`: the clock can be advanced to time `at` (ns). `at` isn't before the clock's
-- start. Both `at` and the time in each state are at most 60,000,000 s, the length of the longest
-- trace.
pub record IsInTime (clock : ClockView) (at : ℕ) : Type 0 where
  pub started : clock.start ≤ at
  pub moment : at ≤ last_moment
  pub times : (state : State) → slice_index clock.times (state_number state) ≤ last_moment

-- ---- clocks as words

-- The nine words of a clock: the times in the order of the states, the mask (set) of states, and
-- the start.
abbrev pub words_of : ClockView → List ℕ
words_of clock = clock.times ++ clock.mask ∷ clock.start ∷ []

-- The clock is well-formed: it has one time for each state, and its mask contains only bits of
-- states.
pub record IsWholeClock (clock : ClockView) : Type 0 where
  pub times : length clock.times ≡ length states
  pub mask : IsMask clock.mask

-- `words` has the nine words of some well-formed clock.
abbrev pub AreWordsOfClock : List ℕ → Type 0
AreWordsOfClock words = (clock : ClockView) × (words ≡ words_of clock) × IsWholeClock clock

-- ---- equivalent clocks

-- Two clocks are equivalent if their masks are equal, and if they show the same times in the states
-- at every time at or after both starts.
pub record SameClock (one other : ClockView) : Type 0 where
  pub mask : one.mask ≡ other.mask
  pub opened : (at : ℕ) → one.start ≤ at → other.start ≤ at → opened one at ≡ opened other at

-- ---- clocks over a change

-- `ClockFollows old at new`: the clock `new` follows the clock `old` over a change at time `at`
-- (ns). `new` starts at or before the change. At each time after the change, `new` shows for each
-- state the time that `old` shows at the change. If the mask of `new` contains the state, the time
-- since the change is added. `new` may be `old` advanced to the change, or `old` itself if the mask
-- is unchanged.
pub record ClockFollows (old : ClockView) (at : ℕ) (new : ClockView) : Type 0 where
  pub start : new.start ≤ at
  pub times : (state : State) (later : ℕ) → at ≤ later
      → opened_time new later state ≡ opened_time old at state + (if mask_holds new.mask state then later - at else 0)

-- ---- laws of clocks

-- The time in a state is at most the time that has passed. If this is true at a clock's start, it
-- is also true at a later time `at`.
abbrev pub NoLongerThanClock : Type 0
NoLongerThanClock =
    (clock : ClockView) (at : ℕ) (state : State) → clock.start ≤ at → slice_index clock.times (state_number state) ≤ clock.start
    → opened_time clock at state ≤ at

-- Advancing a clock with an unchanged mask gives a clock that is equivalent to the original.
abbrev pub SameMaskIsNoChange : Type 0
SameMaskIsNoChange = (clock : ClockView) (at : ℕ) → clock.start ≤ at → SameClock (advanced clock at clock.mask) clock

-- Equivalent clocks are equal after they are advanced to the same time with the same mask.
abbrev pub SameAfterChange : Type 0
SameAfterChange =
    (one other : ClockView) (at mask : ℕ) → one.start ≤ at → other.start ≤ at → SameClock one other
    → advanced one at mask ≡ advanced other at mask

-- Two clocks are equal if their words are equal.
abbrev pub WordsShowClock : Type 0
WordsShowClock = (one other : ClockView) → words_of one ≡ words_of other → one ≡ other
