-- Searches for positions in bytes, counted from 0. A test is applied to all bytes from a position
-- to the end.
use Rattle.std.specs.Prelude.{ℕ, ◌+◌, List, [], ◌∷◌, length, drop, nat_eq, Bool, if◌then◌else◌, Option, None, Some, option_map}
use Rattle.std.specs.List.{starts_with}
use Rattle.psi_base.specs.OptionSteps.{◌>>=◌}

-- The first position of the bytes that passes the test, or `None`.
unfoldable pub first_place : (List ℕ → Bool) → List ℕ → Option ℕ
first_place test [] = None
first_place test (byte ∷ bytes) = if test (byte ∷ bytes) then Some 0 else option_map (λ at. at + 1) (first_place test bytes)

-- The last position that passes a test, given the last such position in the bytes after the first
-- byte, and whether position 0 passes the test.
abbrev pub or_here : Option ℕ → Bool → Option ℕ
or_here (Some at) passes = Some (at + 1)
or_here None passes = if passes then Some 0 else None

-- The last position whose suffix (the bytes from there on) passes the test, or `None`.
unfoldable pub last_place : (List ℕ → Bool) → List ℕ → Option ℕ
last_place test [] = None
last_place test (byte ∷ bytes) = or_here (last_place test bytes) (test (byte ∷ bytes))

-- Whether the bytes begin with `text`.
abbrev pub begins_with : List ℕ → List ℕ → Bool
begins_with text bytes = starts_with nat_eq bytes text

-- The bytes after the last occurrence of `text`, or `None` if `text` doesn't occur.
abbrev pub after_last : List ℕ → List ℕ → Option (List ℕ)
after_last text bytes = do
  at ← last_place (begins_with text) bytes
  Some (drop (at + length text) bytes)
