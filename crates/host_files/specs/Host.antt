-- Defines properties of streams whose bytes have known positions, such as files. The contracts of
-- the system's files use them.
use Rattle.std.specs.Prelude.{◌≡◌, ℕ, ◌+◌, ◌-◌, ◌^◌, ◌<◌, ◌≤◌, min, List, length, take, drop, MatchResult, Option, Result, Some}
use Rattle.outside.specs.declared.shelf.ShelfFault.{ShelfFault}
use Rattle.outside.specs.declared.shelf.ShelfFault.TheVariants.{Failed}

-- `LeavesFromPlace left place bytes`: for streams of this type, the remaining bytes (`left`) are
-- the bytes from the current position (`place`) to the end.
abbrev pub LeavesFromPlace : {F : Type 0} → (F → Option (List ℕ)) → (F → Option ℕ) → (F → Option (List ℕ)) → Type 0
LeavesFromPlace {F} left place bytes =
    (file : F) (at : ℕ) (held : List ℕ) → place file ≡ Some at → bytes file ≡ Some held → left file ≡ Some (drop at held)

-- `IsPlacedAt place bytes file at held`: the current position in the stream `file` is `at`, and its
-- content is `held`.
abbrev pub IsPlacedAt : {F : Type 0} → (F → Option ℕ) → (F → Option (List ℕ)) → F → ℕ → List ℕ → Type 0
IsPlacedAt place bytes file at held = (place file ≡ Some at) × (bytes file ≡ Some held)

-- `GoesOn before now result`: the position advanced from `before` to `now`, by the number of bytes
-- read, but at most to 2^64 - 1. After a failed read the position is unchanged, and the fault is a
-- read fault.
abbrev pub GoesOn : ℕ → ℕ → Result ℕ ShelfFault → Type 0
GoesOn before now result = MatchResult result (λ n. now ≡ min (before + n) (2 ^ 64 - 1)) (λ fault. (fault ≡ Failed) × (now ≡ before))

-- `ReadsPrefix bytes at n into`: `n` bytes were read from offset `at` into the start of the buffer.
-- `n` is 0 only at the end of the file. The rest of the buffer may have any content.
pub record ReadsPrefix (bytes : List ℕ) (at n : ℕ) (into : List ℕ) : Type 0 where
  pub read : take n into ≡ take n (drop at bytes)
  pub inside : n ≤ length bytes - at
  pub end : n ≡ 0 → 0 < length into → length bytes ≤ at
