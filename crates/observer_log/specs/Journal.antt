-- The journal of all observers: its invariant, the condition for adding an entry, and its agreement
-- with the observers' own lists.
use Rattle.std.specs.Prelude.{◌≡◌, ℕ, ◌<◌, ◌≤◌, List, [], ◌∷◌, ◌++◌, length, map, take, slice_index, Option, None, Some}
use Rattle.observer_log.specs.declared.entry.Entry.{Entry}
use Rattle.observer_log.specs.Entries.{by, counts_of, list_of, entry_content}

-- The numbers in the list never decrease, and each is at least `low`.
abbrev pub RiseFrom : ℕ → List ℕ → Type 0
RiseFrom low [] = Unit {0}
RiseFrom low (number ∷ numbers) = (low ≤ number) × RiseFrom number numbers

-- The invariant of a journal: for each observer and processor, the numbers of changes never
-- decrease. The type of entries ensures that each entry has the correct times.
abbrev pub IsGood : List Entry → Type 0
IsGood entries = (observer cpu : ℕ) → RiseFrom 0 (counts_of observer cpu entries)

-- ---- when an entry may be added

-- The last number of the list, or `None` if the list is empty.
abbrev pub last_of : List ℕ → Option ℕ
last_of [] = None
last_of (number ∷ []) = Some number
last_of (number ∷ next ∷ numbers) = last_of (next ∷ numbers)

-- The journal's last entry of the same observer and processor as `entry` has `last` changes, and
-- `entry` has fewer than `last`.
abbrev pub IsBefore : List Entry → Entry → ℕ → Type 0
IsBefore entries entry last = (last_of (counts_of entry.observer entry.cpu.0 entries) ≡ Some last) × (entry.count < last)

-- `entry` has at least as many changes as the journal's last entry of the same observer and
-- processor. True if the journal has no entry of this observer and processor.
abbrev pub IsNotBefore : List Entry → Entry → Type 0
IsNotBefore entries entry = (last : ℕ) → last_of (counts_of entry.observer entry.cpu.0 entries) ≡ Some last → last ≤ entry.count

-- ---- the order of the journal

-- A journal agrees with the observers' own lists: for each observer, the journal's entries equal
-- the entries of the observer's list, in the same order. The comparison ignores the plans.
abbrev pub Agrees : List Entry → List (List Entry) → Type 0
Agrees entries lists = (observer : ℕ) → map entry_content (by observer entries) ≡ map entry_content (list_of lists observer)

-- The entries of all lists, one list after the other.
abbrev pub joined : List (List Entry) → List Entry
joined [] = []
joined (list ∷ lists) = list ++ joined lists

-- `entries` are the entries of all observers' lists, in the order of the journal. Apart from its
-- plan, each entry equals the journal's entry at the same index.
pub record AreInOrder (journal : List Entry) (lists : List (List Entry)) (entries : List Entry) : Type 0 where
  pub agrees : Agrees journal lists
  pub places : map entry_content entries ≡ map entry_content journal
  pub own : (observer : ℕ) → by observer entries ≡ list_of lists observer

-- The number of entries of `observer` that have been merged so far.
abbrev pub place_of : List ℕ → ℕ → ℕ
place_of places observer = slice_index places observer

-- The entries `taken` were merged from prefixes of the observers' lists, in the order of the
-- journal. `places` has the length of each prefix.
pub record IsTaken (journal : List Entry) (lists : List (List Entry)) (places : List ℕ) (taken : List Entry) : Type 0 where
  pub all : length places ≡ length lists
  pub same : map entry_content taken ≡ map entry_content journal
  pub within : (observer : ℕ) → place_of places observer ≤ length (list_of lists observer)
  pub own : (observer : ℕ) → by observer taken ≡ take (place_of places observer) (list_of lists observer)
