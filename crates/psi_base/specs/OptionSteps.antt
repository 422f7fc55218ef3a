-- An operator that chains parsing steps, each of which may fail with `None`.
use Rattle.std.specs.Prelude.{Option, None, Some}

-- Applies the parsing step `f` to the value of the previous step. If the previous step failed, the
-- result is `None`.
infixl 10 ◌>>=◌
abbrev pub ◌>>=◌ : {A B : Type 0} → Option A → (A → Option B) → Option B
None >>= f = None
(Some x) >>= f = f x
