-- States laws about parsing a list. A list is accepted if all its items are accepted. Otherwise its
-- fault is the fault of its first rejected item.
use Rattle.std.specs.Prelude.{◌≡◌, ◌↔◌, ℕ, ◌+◌, ◌<◌, List, length, Some, Result, Ok, Err}
use Rattle.std.specs.List.{slice_get}
use Rattle.std.specs.Result.{IsOk}
use Rattle.serde_json.specs.Data.{Data}
use Rattle.ruleset_json.specs.declared.fault.RulesFault.{RulesFault}
use Rattle.ruleset_json.specs.Rules.{each}

-- `AreRead read from items found`: the function `read` accepts each item, and `found` has the
-- parsed items in order. `read` takes the index of an item and the item. The first item has the
-- index `from`.
pub record AreRead {A : Type 0} (read : ℕ → Data → Result A RulesFault) (from : ℕ) (items : List Data) (found : List A) : Type 0 where
  pub equally_many : length found ≡ length items
  pub each : (k : ℕ) (item : Data) (x : A) → slice_get items k ≡ Some item → slice_get found k ≡ Some x → read (from + k) item ≡ Ok x

-- `IsFirstFault read from items fault`: the function `read` rejects one item with the fault
-- `fault`, and accepts all items before it. `read` takes the index of an item and the item. The
-- first item has the index `from`.
pub record IsFirstFault {A : Type 0} (read : ℕ → Data → Result A RulesFault) (from : ℕ) (items : List Data)
    (fault : RulesFault) : Type 0 where
  pub at : ℕ
  pub item : Data
  pub stands : slice_get items at ≡ Some item
  pub refused : read (from + at) item ≡ Err fault
  pub before : (k : ℕ) (earlier : Data) → k < at → slice_get items k ≡ Some earlier → IsOk (read (from + k) earlier)

-- A list is accepted if and only if each of its items is accepted.
abbrev pub ReadsEach : (A : Type 0) → Type 0
ReadsEach A =
    (read : ℕ → Data → Result A RulesFault) (from : ℕ) (items : List Data) (found : List A)
    → (each read from items ≡ Ok found) ↔ AreRead read from items found

-- A list is rejected with a fault if and only if that fault is the fault of its first rejected
-- item.
abbrev pub RefusesFirst : (A : Type 0) → Type 0
RefusesFirst A =
    (read : ℕ → Data → Result A RulesFault) (from : ℕ) (items : List Data) (fault : RulesFault)
    → (each read from items ≡ Err fault) ↔ IsFirstFault read from items fault
