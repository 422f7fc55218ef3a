-- Defines the log of the reads of a shelf (a store of files), and what it means to read files in
-- order.
use Rattle.std.specs.Prelude.{◌≡◌, ℕ, zero, suc, ◌+◌, ◌<◌, List, [], ◌∷◌, ◌++◌, Option, None, Some, Result, Ok, Err}
use Rattle.outside.specs.declared.shelf.ShelfFault.{ShelfFault}

-- A read of a file: the file's name, the offset (bytes), the requested number of bytes, and the
-- returned number of bytes or the fault.
pub record ReadCall : Type 0 where
  pub name : List ℕ
  pub at : ℕ
  pub size : ℕ
  pub outcome : Result ℕ ShelfFault

-- `read_call name at size outcome`: the log entry of a read, made from these four values.
abbrev pub read_call : List ℕ → ℕ → ℕ → Result ℕ ShelfFault → ReadCall
read_call name at size outcome = record { name = name; at = at; size = size; outcome = outcome }

-- ---- reading one file

-- The progress of reading a file: the next read begins at an offset (bytes), or the reads are over,
-- because the last read returned no byte or failed with a fault.
pub data Progress : Type 0 where
  Next : ℕ → Progress
  Over : Option ShelfFault → Progress

-- `after_read at result`: the progress after a read at offset `at` (bytes) that returned `result`.
abbrev pub after_read : ℕ → Result ℕ ShelfFault → Progress
after_read at (Ok zero) = Over None
after_read at (Ok (suc n)) = Next (at + suc n)
after_read at (Err fault) = Over (Some fault)

-- The fault that ended the reads of a file. The result is `None` if the reads aren't over, or ended
-- without a fault.
abbrev pub fault_in : Progress → Option ShelfFault
fault_in (Next at) = None
fault_in (Over fault) = fault

-- The calls read the file `name` in order, from the progress `from` to the progress `to`: each call
-- requests at least one byte and begins at the end of the previous one. No call follows a call that
-- returned no byte or failed.
abbrev pub AreReads : List ℕ → Progress → List ReadCall → Progress → Type 0
AreReads name from [] to = to ≡ from
AreReads name (Next at) (call ∷ calls) to =
    (call.name ≡ name) × (call.at ≡ at) × (0 < call.size) × AreReads name (after_read at call.outcome) calls to
AreReads name (Over fault) (call ∷ calls) to = ⊥

-- The log grew from `before` to `now` by calls that read the file `name` in order, from the
-- progress `from` to the progress `to`.
pub record ReadsFrom (name : List ℕ) (from : Progress) (before now : List ReadCall) (to : Progress) : Type 0 where
  pub calls : List ReadCall
  pub grown : now ≡ before ++ calls
  pub in_order : AreReads name from calls to

-- The log grew from `before` to `now` by calls that read the file `name` in order from offset `at`
-- (bytes). The last call failed with `fault`, or no call failed if `fault` is `None`.
pub record ReadsFile (name : List ℕ) (at : ℕ) (before now : List ReadCall) (fault : Option ShelfFault) : Type 0 where
  pub progress : Progress
  pub reads : ReadsFrom name (Next at) before now progress
  pub ended : fault_in progress ≡ fault

-- ---- reading several files

-- `ReadsEach names before now`: the log grew from `before` to `now` by calls that read the files
-- with these names in order. Each file is read from its first byte, not necessarily to its end, and
-- no read failed.
abbrev pub ReadsEach : List (List ℕ) → List ReadCall → List ReadCall → Type 0
ReadsEach [] before now = now ≡ before
ReadsEach (name ∷ names) before now =
    (middle : List ReadCall) × ReadsFile name 0 before middle None × ReadsEach names middle now
