-- Proves bounds on the value of the digits after a decimal point.
use Rattle.std.proofs.Common.{◌≡◌, ℕ, ◌<◌, ◌≤◌, List, [], ◌∷◌, ◌++◌, Bool, Some, None, true, false, length, refl, sym, ap, ◌∙◌, arith}
use Rattle.std.specs.Prelude.{◌&&◌, nat_le, nat_lt, codes, take, if◌then◌else◌}
use Rattle.psi_base.specs.Number.{digits_after, digits_of}

-- Three digits have a value of at most 999.
three_most : (a b c n : ℕ) → digits_of (a ∷ b ∷ c ∷ []) ≡ Some n → n ≤ 999
unfolding digits_after
three_most a b c n is = grind (arith, is)

-- One to three digits, padded with zeros at the end, have a value of at most 999.
few_most : (digits : List ℕ) (n : ℕ) → 0 < length digits → length digits ≤ 3 → digits_of (take 3 (digits ++ codes "00")) ≡ Some n → n ≤ 999
few_most [] n some few reads = absurd (omega (arith, some))
few_most (a ∷ []) n some few reads = three_most a 48 48 n reads
few_most (a ∷ b ∷ []) n some few reads = three_most a b 48 n reads
few_most (a ∷ b ∷ c ∷ []) n some few reads = three_most a b c n reads
few_most (a ∷ b ∷ c ∷ d ∷ digits) n some few reads = absurd (omega (arith, few))

-- If an option that has a value only if a test holds has a value, the test holds and the value is
-- the given one.
parts : (b : Bool) (xs three : List ℕ) → Some three ≡ (if b then Some xs else None) → (b ≡ true) × (three ≡ xs)
parts true xs three is = (refl, cc is)
parts false xs three is = let none : Some three ≡ None = is in absurd (cc none)

is_some : (n : ℕ) (b : Bool) → (nat_lt 0 n && b) ≡ true → 0 < n
is_some n b both = grind (arith, both)

is_few : (b : Bool) (n : ℕ) → (b && nat_le n 3) ≡ true → n ≤ 3
is_few b n both = grind (arith, both)

pub padded_most : (digits three : List ℕ) (n : ℕ) →
    Some three ≡ (if nat_lt 0 (length digits) && nat_le (length digits) 3 then Some (take 3 (digits ++ codes "00")) else None) → digits_of three ≡ Some n → n ≤ 999
padded_most digits three n is reads =
    let p = parts (nat_lt 0 (length digits) && nat_le (length digits) 3) (take 3 (digits ++ codes "00")) three is in
    few_most digits n (is_some (length digits) _ p.0) (is_few _ (length digits) p.0) (ap digits_of (sym p.1) ∙ reads)
