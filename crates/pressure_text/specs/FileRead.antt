-- Defines the parsing of a pressure file, piece by piece. Each step returns a value and the
-- remaining bytes, or `None` if the bytes don't begin with the piece.
use Rattle.std.specs.Prelude.{◌≡◌, ℕ, ◌+◌, ◌-◌, ◌*◌, List, [], ◌∷◌, drop, codes, ◌==◌, ◌&&◌, nat_le}
use Rattle.std.specs.Prelude.{if◌then◌else◌, Option, None, Some}
use Rattle.std.specs.Char.{is_ascii_digit}
use Rattle.std.specs.List.{prefix_len, take_while}
use Rattle.psi_base.specs.Number.{number_of}
use Rattle.psi_base.specs.declared.event.Level.{Level}
use Rattle.psi_base.specs.declared.event.Level.TheVariants.{SomeStalled, FullStalled}
use Rattle.psi_base.specs.OptionSteps.{◌>>=◌}
use Rattle.psi_spec.specs.Fields.{level_word}
use Rattle.pressure_text.specs.declared.read.PressureLine.{PressureLine}
use Rattle.pressure_text.specs.declared.read.PressureFile.{PressureFile}

-- The bytes after the prefix `text`, or `None` if the bytes don't begin with `text`.
unfoldable pub suffix : List ℕ → List ℕ → Option (List ℕ)
suffix [] bytes = Some bytes
suffix (byte ∷ text) [] = None
suffix (byte ∷ text) (first ∷ bytes) = if first == byte then suffix text bytes else None

-- The number that the digits at the start spell, and the remaining bytes. `None` if there are no
-- digits, if there is a leading zero (except in `0`), or if the number doesn't fit in 64 bits.
unfoldable pub number_at : List ℕ → Option (ℕ × List ℕ)
number_at bytes = do
  n ← number_of (take_while is_ascii_digit bytes)
  Some (n, drop (prefix_len is_ascii_digit bytes) bytes)

-- The number that the first two bytes spell, and the remaining bytes. `None` unless both bytes are
-- digits.
unfoldable pub two_at : List ℕ → Option (ℕ × List ℕ)
two_at [] = None
two_at (tens ∷ []) = None
two_at (tens ∷ ones ∷ bytes) =
    if is_ascii_digit tens && is_ascii_digit ones
    then Some ((tens - 48) * 10 + (ones - 48), bytes) else None

-- The average at the start, in hundredths of a percent, and the remaining bytes. `None` if the
-- bytes don't begin with a number that has two decimals, or if the number is above 100.00 percent.
unfoldable pub average_at : List ℕ → Option (ℕ × List ℕ)
average_at bytes = do
  whole ← number_at bytes
  point ← suffix (codes ".") whole.1
  part ← two_at point
  if nat_le (whole.0 * 100 + part.0) 10000 then Some (whole.0 * 100 + part.0, part.1) else None

-- Applies the parser `read` to the bytes after `label`. `None` if the bytes don't begin with
-- `label`.
abbrev pub past : {A : Type 0} → List ℕ → (List ℕ → Option A) → List ℕ → Option A
past label read bytes = suffix label bytes >>= read

-- The numbers in the line of level `level` (`some` or `full`) at the start of the bytes, and the
-- remaining bytes.
unfoldable pub line_at : Level → List ℕ → Option (PressureLine × List ℕ)
line_at level bytes = do
  start ← suffix (level_word level) bytes
  short ← past (codes " avg10=") average_at start
  middle ← past (codes " avg60=") average_at short.1
  long ← past (codes " avg300=") average_at middle.1
  total ← past (codes " total=") number_at long.1
  end ← suffix (codes "\n") total.1
  Some (record { hundredths = short.0 ∷ middle.0 ∷ long.0 ∷ []; total_us = total.0 }, end)

-- `if_end rest read`: the parsed value `read` if no bytes remain in `rest`, and `None` otherwise.
abbrev pub if_end : {A : Type 0} → List ℕ → A → Option A
if_end [] read = Some read
if_end (byte ∷ bytes) read = None

-- The numbers of the pressure file that the bytes spell: a `some` line, a `full` line, and no
-- further bytes.
unfoldable pub file_at : List ℕ → Option PressureFile
file_at bytes = do
  first ← line_at SomeStalled bytes
  second ← line_at FullStalled first.1
  if_end second.1 (record { some_line = first.0; full_line = second.0 })

-- The numbers of the pressure file of interrupts that the bytes spell: a `full` line and no further
-- bytes.
unfoldable pub irq_at : List ℕ → Option PressureLine
irq_at bytes = do
  line ← line_at FullStalled bytes
  if_end line.1 line.0

-- `TakesPiece result rest read`: the result of a parsing function agrees with the specified result
-- `read`. Either both are `None`, or both have the same value and `rest` is the list of remaining
-- bytes.
abbrev pub TakesPiece : {A : Type 0} → Option A → List ℕ → Option (A × List ℕ) → Type 0
TakesPiece None rest read = read ≡ None
TakesPiece (Some x) rest read = read ≡ Some (x, rest)
