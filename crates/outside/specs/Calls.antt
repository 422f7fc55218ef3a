-- Results of calls that are stronger than the contracts of all shelves (stores of files) and sinks
-- (outputs): exact counts, and writes of all bytes.
use Rattle.std.specs.Prelude.{◌≡◌, ℕ, ◌+◌, ◌-◌, ◌^◌, ◌≤◌, min, List, Option, Result, MatchResult}
use Rattle.std.specs.Io.KnownBytes.{Appends}
use Rattle.outside.specs.Outside.{AppendsPrefix}

-- `one_more count`: the 64-bit count `count` plus 1, or `count` itself if it is 2^64 - 1.
abbrev pub one_more : ℕ → ℕ
one_more count = min (count + 1) (2 ^ 64 - 1)

-- The count `now` is `before` plus 1 (saturating) if `Happened` holds, and equals `before` if not.
pub record CountsWhere (Happened : Type 0) (before now : ℕ) : Type 0 where
  pub later : before ≤ now
  pub counted : Happened → now ≡ one_more before
  pub same : ¬ Happened → now ≡ before

-- If the content of a sink is known, all of `bytes` were appended to it, or a prefix of `bytes` if
-- the call failed. `old` and `new` are the contents before and after the call.
abbrev pub PutsAll :
    {T E : Type 0} → Option (List ℕ) → Option (List ℕ) → Result T E → List ℕ → Type 0
PutsAll old new result bytes =
    MatchResult result (λ _. Appends old new bytes) (λ _. AppendsPrefix old new bytes)
