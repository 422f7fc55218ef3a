-- The parts of a marked line: numbers, the time and the processor in its head, and the fields in
-- its tail.
use Rattle.std.specs.Prelude.{ℕ, ◌+◌, ◌-◌, ◌*◌, ◌^◌, List, [], ◌∷◌, take, drop, length, nat_lt, nat_le, ◌==◌, ◌&&◌, ◌||◌, Bool, if◌then◌else◌, codes, Option, None, Some}
use Rattle.std.specs.List.{after_first, before_first, prefix_len}
use Rattle.std.specs.Char.{is_ascii_digit}
use Rattle.psi_base.specs.Number.{digits_of}
use Rattle.psi_base.specs.declared.event.Pid.{Pid}
use Rattle.psi_base.specs.declared.event.How.{How}
use Rattle.psi_base.specs.declared.event.How.TheVariants.{Preempt, Sleep, IoWait, Exit}
use Rattle.psi_base.specs.OptionSteps.{◌>>=◌}
use Rattle.import_spec.specs.Places.{begins_with, after_last, last_place}

-- ---- the numbers in a line

-- Whether the byte is a space (32).
abbrev pub is_space : ℕ → Bool
is_space byte = byte == 32

-- Whether the byte is a point (46).
abbrev pub is_point : ℕ → Bool
is_point byte = byte == 46

-- The value of a number of 1 to `most` digits, or `None` if the digits are malformed. Leading zeros
-- are allowed.
abbrev pub short_number : ℕ → List ℕ → Option ℕ
short_number most digits = if nat_lt 0 (length digits) && nat_le (length digits) most then digits_of digits else None

-- The number if it is below 2^32, and `None` for any other number.
abbrev pub if_small : ℕ → Option ℕ
if_small number = if nat_lt number (2 ^ 32) then Some number else None

-- ---- the head of a marked line

-- The time (ns) that a word spells: seconds with 1 to 10 digits, a point, and a fraction with 1 to
-- 9 digits. The result is `None` if the word is malformed.
unfoldable pub time_of : List ℕ → Option ℕ
time_of word = do
  seconds ← short_number 10 (before_first is_point word)
  fraction ← short_number 9 (after_first is_point word)
  Some (seconds * 10 ^ 9 + fraction * 10 ^ (9 - length (after_first is_point word)))

-- The time (ns) in the head of a line, which is the word after the last space.
unfoldable pub time_in : List ℕ → Option ℕ
time_in head = do
  word ← after_last (codes " ") head
  time_of word

-- The number of digits at the beginning of the bytes.
abbrev pub digit_count : List ℕ → ℕ
digit_count bytes = prefix_len is_ascii_digit bytes

-- Whether the bytes begin with a number in brackets: `[`, one or more digits, and `]`.
unfoldable pub is_bracketed : List ℕ → Bool
is_bracketed bytes =
    begins_with (codes "[") bytes && nat_lt 0 (digit_count (drop 1 bytes))
    && begins_with (codes "]") (drop (digit_count (drop 1 bytes)) (drop 1 bytes))

-- The processor in the head of a line: the last number in brackets, which has at most 3 digits.
unfoldable pub cpu_in : List ℕ → Option ℕ
cpu_in head = do
  at ← last_place is_bracketed head
  short_number 3 (take (digit_count (drop (at + 1) head)) (drop (at + 1) head))

-- ---- the tail of a marked line

-- The value of the field `key`: 1 to 10 digits after the last occurrence of `key`, followed by a
-- space or the end. The value must be below 2^32.
unfoldable pub field_in : List ℕ → List ℕ → Option ℕ
field_in key part = do
  rest ← after_last key part
  number ← short_number 10 (before_first is_space rest)
  if_small number

-- The task with pid `number`, or `None` for pid 0 (the idle task).
abbrev pub pid_in : ℕ → Option Pid
pid_in number = if number == 0 then None else Some (record { 0 = number })

-- Chooses how a task leaves its processor from the letters of its state. The first byte decides:
-- `R` (82) means that the task is still ready, `D` (68) that it waits for IO, `X` (88) and `Z` (90)
-- that it exits, and any other byte that it sleeps.
unfoldable pub how_in : List ℕ → Option How
how_in [] = None
how_in (first ∷ rest) =
    Some (if first == 82 then Preempt else if first == 68 then IoWait else if first == 88 || first == 90 then Exit else Sleep)
