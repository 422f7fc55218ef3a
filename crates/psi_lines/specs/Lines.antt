-- Defines the state of a reader of lines, and the cases for the start of its remaining bytes: a
-- complete line, a line that is too long, or a line that is cut off.
use Rattle.std.specs.Prelude.{◌≡◌, ◌≢◌, ℕ, ◌≤◌, ◌<◌, List, ◌∷◌, ◌++◌, length, drop, slice_index}
use Rattle.psi_base.specs.Path.{parts_at}

-- The state of a reader of lines: the file's name, the number of the next line (from 1), the bytes
-- that were read but not returned yet, and the offset (bytes) of the next read.
pub record Reader : Type 0 where
  pub name : List ℕ
  pub number : ℕ
  pub buffered : List ℕ
  pub at : ℕ

-- `left reader bytes`: the bytes of the file that the reader hasn't returned yet. `bytes` is the
-- whole file.
abbrev pub left : Reader → List ℕ → List ℕ
left reader bytes = reader.buffered ++ drop reader.at bytes

-- `HasNoNewline bytes n`: the first `n` bytes contain no newline.
abbrev pub HasNoNewline : List ℕ → ℕ → Type 0
HasNoNewline bytes n = (k : ℕ) → k < n → slice_index bytes k ≢ 10

-- `line_count bytes`: the number of lines, including an incomplete line after the last newline.
abbrev pub line_count : List ℕ → ℕ
line_count bytes = length (parts_at 10 bytes)

-- `BeginsWithLine bytes line after`: the bytes are `line`, then a newline, then `after`. The line
-- has at most 512 bytes and contains no newline.
pub record BeginsWithLine (bytes line after : List ℕ) : Type 0 where
  pub whole : bytes ≡ line ++ 10 ∷ after
  pub short : length line ≤ 512
  pub one : HasNoNewline line (length line)

-- The line at the start of the bytes is too long: the first 513 bytes contain no newline.
pub record IsTooLong (bytes : List ℕ) : Type 0 where
  pub long : 513 ≤ length bytes
  pub none : HasNoNewline bytes 513

-- The end of the input cuts off the line: the bytes are 1 to 512 bytes without a newline.
pub record IsCut (bytes : List ℕ) : Type 0 where
  pub some : 0 < length bytes
  pub short : length bytes ≤ 512
  pub none : HasNoNewline bytes (length bytes)
