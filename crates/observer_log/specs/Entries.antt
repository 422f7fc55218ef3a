-- Entries of the journal, and the observers' own lists of entries. The type of entries ensures that
-- each entry is a correct sample of its plan.
use Rattle.std.specs.Prelude.{◌≡◌, ℕ, Bool, ◌&&◌, nat_eq, List, [], ◌∷◌, map, filter, slice_index_or}
use Rattle.observer_log.specs.declared.entry.Entry.{Entry}

-- All fields of an entry except its plan.
pub record EntryContent : Type 0 where
  pub observer : ℕ
  pub cpu : ℕ
  pub slot : ℕ
  pub count : ℕ
  pub at : ℕ
  pub seven : List ℕ

abbrev pub entry_content : Entry → EntryContent
entry_content entry =
    record { observer = entry.observer; cpu = entry.cpu.0; slot = entry.slot.0; count = entry.count; at = entry.at; seven = entry.seven }

-- Whether `observer` took the entry.
abbrev pub is_by : ℕ → Entry → Bool
is_by observer entry = nat_eq entry.observer observer

-- Whether `observer` took the entry on processor `cpu`.
abbrev pub is_of : ℕ → ℕ → Entry → Bool
is_of observer cpu entry = nat_eq entry.observer observer && nat_eq entry.cpu.0 cpu

-- The entries that `observer` took, in order.
abbrev pub by : ℕ → List Entry → List Entry
by observer entries = filter (is_by observer) entries

-- The numbers of changes in the entries that `observer` took on processor `cpu`, in order.
abbrev pub counts_of : ℕ → ℕ → List Entry → List ℕ
counts_of observer cpu entries = map (λ (entry : Entry). entry.count) (filter (is_of observer cpu) entries)

-- ---- the observers' own lists

-- The list of `observer`, or an empty list if `observer` is past the end of `lists`.
abbrev pub list_of : List (List Entry) → ℕ → List Entry
list_of lists observer = slice_index_or lists observer []

-- `observer` took all entries in the list.
abbrev pub AreBy : ℕ → List Entry → Type 0
AreBy observer [] = Unit {0}
AreBy observer (entry ∷ entries) = (entry.observer ≡ observer) × AreBy observer entries

-- The list at index `observer` has only entries that this observer took.
abbrev pub AreOwn : List (List Entry) → Type 0
AreOwn lists = (observer : ℕ) → AreBy observer (list_of lists observer)
