-- An operator that chains parsing steps, each of which may fail with a fault.
use Rattle.std.specs.Prelude.{Result, Ok, Err}

-- Applies the parsing step `f` to the value of the previous step. If the previous step failed, the
-- result is its fault.
infixl 10 ◌>>=◌
abbrev pub ◌>>=◌ : {A B E : Type 0} → Result A E → (A → Result B E) → Result B E
(Ok x) >>= f = f x
(Err e) >>= f = Err e
