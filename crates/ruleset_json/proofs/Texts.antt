-- Proves that certain texts aren't valid arguments.
use Rattle.std.proofs.Common.{◌≡◌, ℕ, ◌≤◌, List, [], ◌∷◌, None, length, refl, arith}
use Rattle.psi_base.specs.Number.{number_of}
use Rattle.ruleset_json.specs.Forms.{size_of, unit_of, number_up_to}

-- The empty text isn't a size.
pub empty_size : (text : List ℕ) → length text ≤ 0 → size_of text ≡ None
unfolding size_of unit_of number_up_to number_of
empty_size [] empty = refl
empty_size (byte ∷ text) empty = grind arith
