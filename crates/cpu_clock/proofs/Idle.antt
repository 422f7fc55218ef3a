-- Proofs about a clock whose mask is empty: its times don't change.
use Rattle.std.proofs.Common.{◌≡◌, ℕ, ◌+◌, List, [], ◌∷◌, length, arith, subst, sym}
use Rattle.psi_counts.specs.Clock.{ClockView, opened}

more_of_none : (n : ℕ) → n ≡ n + 0
more_of_none n = omega arith

seven_same : (a b c d e f g h i j k l m n : ℕ) → a ≡ h → b ≡ i → c ≡ j → d ≡ k → e ≡ l → f ≡ m → g ≡ n → a ∷ b ∷ c ∷ d ∷ e ∷ f ∷ g ∷ [] ≡ h ∷ i ∷ j ∷ k ∷ l ∷ m ∷ n ∷ []
seven_same a b c d e f g h i j k l m n one two three four five six seven = cc

-- Seven times with an empty mask are the same at each time `at`.
pub idle_times : (times : List ℕ) (start at : ℕ) → length times ≡ 7 → times ≡ opened (record { times = times; mask = 0; start = start }) at
idle_times (a ∷ b ∷ c ∷ d ∷ e ∷ f ∷ g ∷ []) start at seven = seven_same a b c d e f g _ _ _ _ _ _ _ (more_of_none a) (more_of_none b) (more_of_none c) (more_of_none d) (more_of_none e) (more_of_none f) (more_of_none g)
idle_times [] start at seven = absurd (omega (arith, seven))
idle_times (a ∷ []) start at seven = absurd (omega (arith, seven))
idle_times (a ∷ b ∷ []) start at seven = absurd (omega (arith, seven))
idle_times (a ∷ b ∷ c ∷ []) start at seven = absurd (omega (arith, seven))
idle_times (a ∷ b ∷ c ∷ d ∷ []) start at seven = absurd (omega (arith, seven))
idle_times (a ∷ b ∷ c ∷ d ∷ e ∷ []) start at seven = absurd (omega (arith, seven))
idle_times (a ∷ b ∷ c ∷ d ∷ e ∷ f ∷ []) start at seven = absurd (omega (arith, seven))
idle_times (a ∷ b ∷ c ∷ d ∷ e ∷ f ∷ g ∷ h ∷ more) start at seven = absurd (omega (arith, seven))

-- A clock whose mask is empty shows the same times at each time `at`.
pub idle_clock : (clock : ClockView) (at : ℕ) → length clock.times ≡ 7 → clock.mask ≡ 0 → clock.times ≡ opened clock at
idle_clock clock at seven none = subst (λ mask. clock.times ≡ opened (record { times = clock.times; mask = mask; start = clock.start }) at) (sym none) (idle_times clock.times clock.start at seven)
