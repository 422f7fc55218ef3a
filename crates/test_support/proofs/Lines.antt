-- The lines that are left after some were skipped.
use Rattle.std.proofs.Common.{◌≡◌, ℕ, suc, List, [], ◌∷◌, get_or, refl}
use Rattle.std.specs.Prelude.{Option, Some, None, MatchOption}

-- one line fewer, if any was left
pub skipped : {A : Type 0} (bytes : A → List ℕ) (found : Option A) (old new : List (List ℕ)) (n : ℕ) → MatchOption found ((old ≡ []) × (new ≡ [])) (λ line. old ≡ bytes line ∷ new) → get_or new n [] ≡ get_or old (suc n) []
skipped bytes (Some line) old new n is = rw is refl
skipped bytes None old new n is = rw (is.0, is.1) refl
