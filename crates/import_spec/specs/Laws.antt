-- Laws of the searches in `Places`: the searches find the first and the last position that passes a
-- test.
use Rattle.std.specs.Prelude.{◌≡◌, ◌↔◌, ℕ, ◌+◌, ◌≤◌, ◌<◌, List, length, drop, Bool, true, false, None, Some}
use Rattle.import_spec.specs.Places.{first_place, last_place}

-- No position from `low` to `high` - 1 passes the test.
abbrev pub NonePasses : (List ℕ → Bool) → List ℕ → ℕ → ℕ → Type 0
NonePasses test bytes low high = (k : ℕ) → low ≤ k → k < high → test (drop k bytes) ≡ false

-- Position `at` of the bytes is the first position that passes the test.
pub record IsFirstPlace (test : List ℕ → Bool) (bytes : List ℕ) (at : ℕ) : Type 0 where
  pub inside : at < length bytes
  pub passes : test (drop at bytes) ≡ true
  pub none : NonePasses test bytes 0 at

-- Position `at` of the bytes is the last position that passes the test.
pub record IsLastPlace (test : List ℕ → Bool) (bytes : List ℕ) (at : ℕ) : Type 0 where
  pub inside : at < length bytes
  pub passes : test (drop at bytes) ≡ true
  pub none : NonePasses test bytes (at + 1) (length bytes)

-- The search from the left returns position `at` if and only if `at` is the first position that
-- passes the test.
abbrev pub FindsFirst : Type 0
FindsFirst = (test : List ℕ → Bool) (bytes : List ℕ) (at : ℕ) → (first_place test bytes ≡ Some at) ↔ IsFirstPlace test bytes at

-- The search from the right returns position `at` if and only if `at` is the last position that
-- passes the test.
abbrev pub FindsLast : Type 0
FindsLast = (test : List ℕ → Bool) (bytes : List ℕ) (at : ℕ) → (last_place test bytes ≡ Some at) ↔ IsLastPlace test bytes at

-- Each of the two searches returns `None` if and only if no position passes the test.
abbrev pub FindsNone : Type 0
FindsNone = (test : List ℕ → Bool) (bytes : List ℕ) → ((first_place test bytes ≡ None) ↔ NonePasses test bytes 0 (length bytes))
    × ((last_place test bytes ≡ None) ↔ NonePasses test bytes 0 (length bytes))
