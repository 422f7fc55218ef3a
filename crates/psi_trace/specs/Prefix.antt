-- Defines when buffered bytes begin with the line of an event, and when a player (a consumer of
-- events) has processed this event.
use Rattle.std.specs.Prelude.{◌≡◌, ℕ, ◌+◌, ◌-◌, ◌*◌, ◌^◌, ◌≤◌, ◌<◌, List, ◌∷◌, ◌++◌, decimal, take, drop, length, slice_index_or, true, false}
use Rattle.std.specs.Str.{all_ascii_digits}
use Rattle.psi_base.specs.Number.{value_after}
use Rattle.psi_base.specs.declared.event.Event.{Event}
use Rattle.psi_trace.specs.declared.prefix.PlayedLine.{PlayedLine}
use Rattle.trace_player.specs.Playing.{PlayerTakes, Plays}
use Rattle.trace_player.specs.TaskActs.{as_event, exits}
use Rattle.trace_player.specs.declared.task_act.TaskAct.{TaskAct}
use Rattle.psi_spec.specs.Grammar.{Fits, IsKnown, first_verbs, spelling}

-- `AreDigits bytes number count`: the first `count` bytes are decimal digits with the value
-- `number`.
pub record AreDigits (bytes : List ℕ) (number count : ℕ) : Type 0 where
  pub inside : count ≤ length bytes
  pub digits : all_ascii_digits (take count bytes) ≡ true
  pub value : value_after 0 (take count bytes) ≡ number

-- `IsDigit byte number`: the byte is the decimal digit with the value `number`.
pub record IsDigit (byte number : ℕ) : Type 0 where
  pub low : 48 ≤ byte
  pub high : byte ≤ 57
  pub is : number ≡ byte - 48

-- `AreFour bytes place number`: the four bytes from index `place` are decimal digits with the value
-- `number`.
pub record AreFour (bytes : List ℕ) (place number : ℕ) : Type 0 where
  pub a : ℕ
  pub b : ℕ
  pub c : ℕ
  pub d : ℕ
  pub first : IsDigit (slice_index_or bytes place 0) a
  pub second : IsDigit (slice_index_or bytes (place + 1) 0) b
  pub third : IsDigit (slice_index_or bytes (place + 2) 0) c
  pub fourth : IsDigit (slice_index_or bytes (place + 3) 0) d
  pub value : number ≡ a * 1000 + b * 100 + c * 10 + d

-- `BeginsWithEvent bytes event rest`: the bytes are the line of the event with its newline,
-- followed by `rest`. The event's values are in range, and its verb exists in every version.
pub record BeginsWithEvent (bytes : List ℕ) (event : Event) (rest : List ℕ) : Type 0 where
  pub fits : Fits event
  pub known : IsKnown first_verbs event
  pub whole : bytes ≡ spelling event ++ 10 ∷ rest

-- `BeginsWithTaskAct bytes act rest`: the bytes are the verb and the fields of the task act with a
-- newline, followed by `rest`. With any time (ns) and a space before them, they are the whole line
-- of an event. A task act is an event without its time that concerns only tasks; here it isn't an
-- exit.
pub record BeginsWithTaskAct (bytes : List ℕ) (act : TaskAct) (rest : List ℕ) : Type 0 where
  pub stays : exits act ≡ false
  pub begins : (at : ℕ) → at < 2 ^ 64 → BeginsWithEvent (decimal at ++ 32 ∷ bytes) (as_event at act) rest

-- `BeginsBufferWith bytes event count`: the bytes begin with the line of the event, which has
-- `count` bytes (at most 512) before its newline.
pub record BeginsBufferWith (bytes : List ℕ) (event : Event) (count : ℕ) : Type 0 where
  pub begins : BeginsWithEvent bytes event (drop (count + 1) bytes)
  pub inside : count < length bytes
  pub short : count ≤ 512

-- `TakesPrefix Before After bytes played`: the bytes begin with the line of an event, which has
-- `played.count` bytes before its newline. `played.answer` is the result that a player (a consumer
-- of events) returned for the event. `Before` and `After` hold for the events that the player
-- processed before and after the call.
pub record TakesPrefix (Before After : Plays) (bytes : List ℕ) (played : PlayedLine) : Type 0 where
  pub event : Event
  pub prefix : BeginsBufferWith bytes event played.count
  pub takes : PlayerTakes Before After event played.answer
