-- Defines the order of the reads that fill one buffer from a file.
use Rattle.std.specs.Prelude.{◌≡◌, ℕ, ◌+◌, ◌<◌, List, None, Some, Result, Ok, Err}
use Rattle.outside.specs.Reads.{ReadCall, ReadsFile, ReadsFrom}
use Rattle.outside.specs.Reads.Progress.{Next}
use Rattle.outside.specs.declared.shelf.ShelfFault.{ShelfFault}

-- The log of read calls grew from `before` to `now` by reads of the file `name`. The first read
-- begins at offset `at` (bytes), and each later read begins at the end of the previous one. If the
-- buffer of `size` bytes was filled (`n` is `size`), the next read begins at `at + n`. If not, the
-- reads ended at the end of the file or with a failed read.
abbrev pub FillsInOrder : List ℕ → ℕ → ℕ → List ReadCall → List ReadCall → Result ℕ ShelfFault → Type 0
FillsInOrder name at size before now (Ok n) =
    (n ≡ size → ReadsFrom name (Next at) before now (Next (at + n))) × (n < size → ReadsFile name at before now None)
FillsInOrder name at size before now (Err fault) = ReadsFile name at before now (Some fault)
