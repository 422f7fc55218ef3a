-- A proof about storing the mask and the start after the seven times of a clock.
use Rattle.std.proofs.Common.{◌≡◌, ℕ, List, [], ◌∷◌, ◌++◌, length, refl, arith, slice_set}

-- Setting the words at index 7 and 8 after the seven times gives the clock's nine words.
pub two_placed : (times : List ℕ) (mask start : ℕ) → length times ≡ 7 → slice_set (slice_set (times ++ 0 ∷ 0 ∷ []) 7 mask) 8 start ≡ times ++ mask ∷ start ∷ []
two_placed (a ∷ b ∷ c ∷ d ∷ e ∷ f ∷ g ∷ []) mask start seven = refl
two_placed [] mask start seven = absurd (omega (arith, seven))
two_placed (a ∷ []) mask start seven = absurd (omega (arith, seven))
two_placed (a ∷ b ∷ []) mask start seven = absurd (omega (arith, seven))
two_placed (a ∷ b ∷ c ∷ []) mask start seven = absurd (omega (arith, seven))
two_placed (a ∷ b ∷ c ∷ d ∷ []) mask start seven = absurd (omega (arith, seven))
two_placed (a ∷ b ∷ c ∷ d ∷ e ∷ []) mask start seven = absurd (omega (arith, seven))
two_placed (a ∷ b ∷ c ∷ d ∷ e ∷ f ∷ []) mask start seven = absurd (omega (arith, seven))
two_placed (a ∷ b ∷ c ∷ d ∷ e ∷ f ∷ g ∷ h ∷ more) mask start seven = absurd (omega (arith, seven))
