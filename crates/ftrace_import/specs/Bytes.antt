-- Defines the searches that find the parts of a line: its mark (the text that shows the kind of the
-- line), the head before the mark, and the tail after it.
use Rattle.std.specs.Prelude.{◌≡◌, ℕ, ◌+◌, ◌≤◌, List, Bool, ◌==◌, Option, Some, option_map, length, take, drop}
use Rattle.std.specs.Borrow.{Bor}
use Rattle.ftrace_import.specs.declared.marked.ShortMark.{ShortMark}
use Rattle.import_spec.specs.Marked.{Mark, Marked, begins_marked, mark_of}
use Rattle.import_spec.specs.Places.{first_place, last_place}
use Rattle.import_spec.specs.Tails.{digit_count, is_bracketed}

-- `is_at byte other`: whether a search for the byte `byte` stops at the byte `other`.
abbrev pub is_at : ℕ → ℕ → Bool
is_at byte other = other == byte

-- Converts an optional slice of bytes to an optional list of bytes.
abbrev pub shown : Option (Bor (List ℕ)) → Option (List ℕ)
shown part = option_map (λ (bytes : Bor (List ℕ)). bytes.now) part

-- Returns the kind of a mark and the size (bytes) of its text. A mark is the text that shows the
-- kind of a line.
abbrev pub mark_parts : Mark → ShortMark
mark_parts mark = record { kind = mark.kind; size = length mark.text }

-- `IsLastBracket bytes start count`: the last number in brackets has `count` digits, and its first
-- digit is at index `start`.
pub record IsLastBracket (bytes : List ℕ) (start count : ℕ) : Type 0 where
  pub at : ℕ
  pub suffix : start ≡ at + 1
  pub last : last_place is_bracketed bytes ≡ Some at
  pub digits : count ≡ digit_count (drop start bytes)
  pub inside : start + count ≤ length bytes

-- `IsFirstMark line at short`: the leftmost mark of the line begins at index `at`, and has the kind
-- and the size of `short`.
pub record IsFirstMark (line : List ℕ) (at : ℕ) (short : ShortMark) : Type 0 where
  pub first : first_place begins_marked line ≡ Some at
  pub mark : option_map mark_parts (mark_of (drop at line)) ≡ Some short
  pub inside : at + short.size ≤ length line

-- `parted line at short`: the kind of the line, and its parts before and after the mark at index
-- `at`.
abbrev pub parted : List ℕ → ℕ → ShortMark → Marked
parted line at short = record { kind = short.kind; head = take at line; tail = drop (at + short.size) line }
