-- Decimal numbers: parsing digit by digit, and that each number has exactly one spelling.
use Rattle.std.proofs.Common.{◌≡◌, ℕ, ◌+◌, ◌-◌, ◌*◌, ◌^◌, ◌<◌, ◌≤◌, List, [], ◌∷◌, length, sym, ap, ◌∙◌, arith, rules, true}
use Rattle.std.specs.Prelude.{Option, Some, None, IfSome, IfNone, decimal, slice_index, nat_lt, ◌==◌, ◌||◌, not}
use Rattle.std.specs.Str.{all_ascii_digits}
use Rattle.std.proofs.lemmas.Str.Parse.{IsNumeralModel, numerals_by_fold}
use Rattle.std.proofs.lemmas.Fmt.{digits_decimal, digits_value-decimal, decimal-digits_value, decimal_nonempty, first_decimal}
use Rattle.std.proofs.Common.{◌⊎◌, inl, inr, get_or, drop}
use Rattle.std.proofs.Math.Nat.{eq-zero-or-pos}
use Rattle.std.proofs.Math.ListN.{drop_of_length-le}
use Rattle.std.proofs.lemmas.Fmt.{decimal_digit}
use Rattle.std.proofs.lemmas.List.{drop_more}
use Rattle.psi_base.specs.Number.{value_after, digits_after, number_of}

pub numerals : IsNumeralModel (λ ds. all_ascii_digits ds ≡ true) (value_after 0)
numerals = numerals_by_fold _ (search rules) value_after (search rules)

-- appending digits never makes a number smaller
pub value_after-le : (n : ℕ) (ds : List ℕ) → n ≤ value_after n ds
value_after-le n [] = omega arith
value_after-le n (d ∷ ds) = omega (arith, value_after-le (n * 10 + (d - 48)) ds)

-- the bytes from index i on are the byte at i, followed by the bytes after it
digit_at : (n i : ℕ) (bytes : List ℕ) → i < length bytes → drop i bytes ≡ get_or bytes i 0 ∷ drop (i + 1) bytes
digit_at n i bytes inside = drop_more bytes i 0 inside

pub digits_after-end : (n i : ℕ) (bytes : List ℕ) → n < 2 ^ 64 → length bytes ≤ i → digits_after n (drop i bytes) ≡ Some n
unfolding digits_after
digits_after-end n i bytes fits end = rw (drop_of_length-le bytes end) (grind arith)

pub digits_after-digit : (n i : ℕ) (bytes : List ℕ) → i < length bytes → 48 ≤ get_or bytes i 0 → get_or bytes i 0 ≤ 57 → digits_after n (drop i bytes) ≡ digits_after (n * 10 + (get_or bytes i 0 - 48)) (drop (i + 1) bytes)
unfolding digits_after
digits_after-digit n i bytes inside low high = rw (digit_at n i bytes inside) (grind arith)

pub digits_after-other : (n i : ℕ) (bytes : List ℕ) → i < length bytes → (get_or bytes i 0 < 48) ⊎ (57 < get_or bytes i 0) → digits_after n (drop i bytes) ≡ None
unfolding digits_after
digits_after-other n i bytes inside other = rw (digit_at n i bytes inside) (grind arith)

pub digits_after-large : (n i : ℕ) (bytes : List ℕ) → i < length bytes → 2 ^ 64 ≤ n * 10 + (get_or bytes i 0 - 48) → digits_after n (drop i bytes) ≡ None
unfolding digits_after
digits_after-large n i bytes inside large = rw (digit_at n i bytes inside) (grind (arith, value_after-le))

pub ruleset steps = (digits_after-end, digits_after-digit, digits_after-other, digits_after-large)

-- the decimal spelling of a number begins with a zero only if it is `0`
first_digit : (n : ℕ) → n < 2 ^ 64 → (nat_lt (length (decimal n)) 2 || not (slice_index (decimal n) 0 == 48)) ≡ true
first_digit n fits = elim (eq-zero-or-pos n) [ inl zero ↦ grind (arith, decimal_digit n) | inr more ↦ grind (arith, first_decimal n more fits) ]

pub number_of-decimal : (n : ℕ) → n < 2 ^ 64 → number_of (decimal n) ≡ Some n
unfolding number_of digits_after
number_of-decimal n fits =
    let digits = digits_decimal numerals n fits in
    let value = digits_value-decimal numerals n fits in
    let some = decimal_nonempty n fits in
    let first = first_digit n fits in
    grind (arith, digits, value, some, first)

-- the facts that the tests in `number_of` establish about the bytes
pub record IsNumber (bytes : List ℕ) (n : ℕ) : Type 0 where
  pub digits : all_ascii_digits bytes ≡ true
  pub some : 0 < length bytes
  pub first : get_or bytes 0 0 ≡ 48 → length bytes ≡ 1
  pub value : value_after 0 bytes ≡ n
  pub fits : n < 2 ^ 64

IsNumber-number_of : (bytes : List ℕ) (n : ℕ) → number_of bytes ≡ Some n → IsNumber bytes n
unfolding number_of digits_after
IsNumber-number_of bytes n is = record {
  digits = grind arith;
  some = grind arith;
  first = λ zero. grind arith;
  value = grind arith;
  fits = grind arith;
}

pub decimal-number_of : (bytes : List ℕ) (n : ℕ) → number_of bytes ≡ Some n → (bytes ≡ decimal n) × (n < 2 ^ 64)
decimal-number_of bytes n is =
    let p = IsNumber-number_of bytes n is in
    let same = decimal-digits_value numerals bytes p.digits p.some p.first (omega (arith, p.value, p.fits)) in
    (sym same ∙ ap decimal p.value, p.fits)

pub found_number : (bytes : List ℕ) (r : Option ℕ) → r ≡ number_of bytes → IfSome r (λ n. bytes ≡ decimal n)
found_number bytes None is = tt
found_number bytes (Some n) is = (decimal-number_of bytes n (sym is)).0

pub no_number : (bytes : List ℕ) (r : Option ℕ) → r ≡ number_of bytes → IfNone r ((n : ℕ) → n < 2 ^ 64 → bytes ≡ decimal n → ⊥)
no_number bytes (Some n) is = tt
no_number bytes None is = λ n fits spelled. let e = number_of-decimal n fits in cc (ap number_of spelled)
