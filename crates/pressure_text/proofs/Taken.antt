-- Proves that parsing a piece consumes exactly that piece.
use Rattle.std.proofs.Common.{◌≡◌, ◌≢◌, ℕ, ◌+◌, ◌*◌, ◌-◌, ◌/◌, ◌%◌, ◌^◌, ◌<◌, ◌≤◌, List, []}
use Rattle.std.proofs.Common.{◌∷◌, ◌++◌, refl, sym, ap, ◌∙◌, arith, append_assoc, Bool, true, false}
use Rattle.std.proofs.Common.{length, take, drop, get_or}
use Rattle.std.specs.Prelude.{Option, None, Some, MatchOption, ◌==◌, ◌&&◌, nat_le, if◌then◌else◌, codes}
use Rattle.std.specs.Prelude.{decimal}
use Rattle.std.specs.Borrow.{Bor}
use Rattle.std.specs.Char.{is_ascii_digit}
use Rattle.std.specs.Cmp.Lexicographic.{pointwise}
use Rattle.std.specs.List.{prefix_len, take_while}
use Rattle.std.specs.Str.{all_ascii_digits}
use Rattle.std.proofs.Math.Seq.{take-append_seam, drop-append_seam}
use Rattle.std.proofs.lemmas.Bool.{eqb-true}
use Rattle.std.proofs.lemmas.Bool.Decides.{Decides-eqb, nat_tests}
use Rattle.std.proofs.lemmas.Fmt.{decimal_digit, digits_decimal}
use Rattle.std.proofs.lemmas.List.{take-append-drop}
use Rattle.std.proofs.lemmas.Slice.Eq.{strip_prefix_is}
use Rattle.psi_base.specs.Number.{number_of}
use Rattle.psi_base.proofs.NumberLaws.{numerals, number_of-decimal, decimal-number_of}
use Rattle.pressure_spec.specs.File.{two_digits}
use Rattle.pressure_spec.specs.Printed.{hundredths_text}
use Rattle.psi_base.specs.OptionSteps.{◌>>=◌}
use Rattle.pressure_text.specs.FileRead.{average_at, suffix, number_at, past, two_at}

-- ---- steps

-- If `r >>= f` has a value, then `r` has a value, and `f` maps it to the value of `r >>= f`.
pub bind_some : {A B : Type 0} (r : Option A) (f : A → Option B) (y : B) → r >>= f ≡ Some y →
    (x : A) × (r ≡ Some x) × (f x ≡ Some y)
bind_some None f y is = absurd cc
bind_some (Some x) f y is = (x, refl, is)

pub if_some : {A : Type 0} (test : Bool) (x y : A) → (if test then Some x else None) ≡ Some y →
    (test ≡ true) × (x ≡ y)
if_some true x y is = (refl, cc)
if_some false x y is = absurd cc

-- Equal pairs have equal first components and equal second components.
pub parts_same : {A : Type 0} (x a : A) (y b : List ℕ) →
    (let one : A × List ℕ = (x, y) in let other : A × List ℕ = (a, b) in one ≡ other) →
    (x ≡ a) × (y ≡ b)
parts_same {A} x a y b is = (ap (λ (p : A × List ℕ). p.0) is, ap (λ (p : A × List ℕ). p.1) is)

pub found_same : {A : Type 0} (x a : A) (y b : List ℕ) →
    (let one : A × List ℕ = (x, y) in let other : A × List ℕ = (a, b) in Some one ≡ Some other) →
    (x ≡ a) × (y ≡ b)
found_same x a y b is = parts_same x a y b cc

-- ---- a leading text

pub after_again : (text rest : List ℕ) → suffix text (text ++ rest) ≡ Some rest
unfolding suffix
after_again [] rest = refl
after_again (byte ∷ text) rest = grind (arith, after_again text rest)

after_if : (test : Bool) (read : Option (List ℕ)) (rest : List ℕ) →
    (if test then read else None) ≡ Some rest → (test ≡ true) × (read ≡ Some rest)
after_if true read rest is = (refl, is)
after_if false read rest is = absurd cc

pub after_is : (text bytes rest : List ℕ) → suffix text bytes ≡ Some rest → bytes ≡ text ++ rest
unfolding suffix
after_is [] bytes rest is = cc
after_is (byte ∷ text) [] rest is = absurd cc
after_is (byte ∷ text) (first ∷ bytes) rest is =
    let both = after_if (first == byte) (suffix text bytes) rest is in
    let same = eqb-true first byte both.0 in
    let more = after_is text bytes rest both.1 in cc

-- There is no suffix if the bytes don't begin with the text.
after_none : (text bytes : List ℕ) → ((rest : List ℕ) → bytes ≢ text ++ rest) →
    suffix text bytes ≡ None
after_none text bytes other =
    elim (suffix text bytes) as (λ r. suffix text bytes ≡ r → r ≡ None) [
      | None ↦ λ is. refl
      | Some rest ↦ λ is. absurd (other rest (after_is text bytes rest is))
    ] refl

found_in_suffix : (text bytes : List ℕ) (r : Option (Bor (List ℕ))) →
    MatchOption r ((rest : List ℕ) → bytes ≢ text ++ rest) (λ x. bytes ≡ text ++ x.now) →
    MatchOption r (suffix text bytes ≡ None) (λ x. suffix text bytes ≡ Some x.now)
found_in_suffix text bytes None other = after_none text bytes other
found_in_suffix text bytes (Some x) is = rw is (after_again text x.now)

-- The contract of the standard library for stripping a prefix implies the specification `suffix`.
pub stripped : (text bytes : List ℕ) (r : Option (Bor (List ℕ))) →
    MatchOption r (pointwise ◌==◌ (take (length text) bytes) text ≡ false) (λ x. (pointwise ◌==◌ (take (length text) bytes) text ≡ true) × (x.now ≡ drop (length text) bytes) × (length x.now + length text ≡ length bytes)) →
    MatchOption r (suffix text bytes ≡ None) (λ x. suffix text bytes ≡ Some x.now)
stripped text bytes r cases = found_in_suffix text bytes r (strip_prefix_is Decides-eqb bytes text r cases)

-- ---- a leading number

-- The bytes don't begin with a digit.
abbrev pub NoDigit : List ℕ → Type 0
NoDigit bytes = is_ascii_digit (get_or bytes 0 0) ≡ false

digits_prefix : (digits rest : List ℕ) → all_ascii_digits digits ≡ true → NoDigit rest →
    prefix_len is_ascii_digit (digits ++ rest) ≡ length digits
digits_prefix [] [] all none = refl
digits_prefix [] (byte ∷ rest) all none = grind (arith, none)
digits_prefix (digit ∷ digits) rest all none =
    let more = digits_prefix digits rest (grind (arith, all)) none in
    let here : is_ascii_digit digit ≡ true = grind (arith, all) in
    rw here (omega (arith, more))

pub number_again : (n : ℕ) (rest : List ℕ) → n < 2 ^ 64 → NoDigit rest →
    number_at (decimal n ++ rest) ≡ Some (n, rest)
unfolding number_at
number_again n rest fits none =
    let prefix = digits_prefix (decimal n) rest (digits_decimal numerals n fits) none in
    rw (prefix, take-append_seam (decimal n) rest, drop-append_seam (decimal n) rest, number_of-decimal n fits) refl

pub number_is : (bytes : List ℕ) (n : ℕ) (rest : List ℕ) → number_at bytes ≡ Some (n, rest) →
    (bytes ≡ decimal n ++ rest) × (n < 2 ^ 64)
unfolding number_at
number_is bytes n rest is =
    let found = bind_some (number_of (take_while is_ascii_digit bytes)) _ (n, rest) is in
    let same = found_same found.0 n (drop (prefix_len is_ascii_digit bytes) bytes) rest found.2 in
    let spelled = decimal-number_of (take_while is_ascii_digit bytes) found.0 found.1 in
    let whole = take-append-drop (prefix_len is_ascii_digit bytes) bytes in
    (sym whole ∙ ap (λ xs. xs ++ drop (prefix_len is_ascii_digit bytes) bytes) (spelled.0 ∙ ap decimal same.0) ∙ ap (λ xs. decimal n ++ xs) same.1, omega (arith, spelled.1, same.0))

-- ---- two leading digits

two_text : (n : ℕ) → n < 100 → two_digits n ≡ (48 + n / 10) ∷ (48 + n % 10) ∷ []
two_text n below = rw (decimal_digit (n / 10) (omega arith), decimal_digit (n % 10) (omega arith)) refl

pub two_again : (n : ℕ) (rest : List ℕ) → n < 100 → two_at (two_digits n ++ rest) ≡ Some (n, rest)
unfolding two_at
two_again n rest below =
    let tens : is_ascii_digit (48 + n / 10) ≡ true = grind (arith, nat_tests) in
    let ones : is_ascii_digit (48 + n % 10) ≡ true = grind (arith, nat_tests) in
    let number : (48 + n / 10 - 48) * 10 + (48 + n % 10 - 48) ≡ n = omega arith in
    rw (two_text n below, tens, ones, number) refl

pub two_is : (bytes : List ℕ) (n : ℕ) (rest : List ℕ) → two_at bytes ≡ Some (n, rest) →
    (bytes ≡ two_digits n ++ rest) × (n < 100)
unfolding two_at
two_is [] n rest is = absurd cc
two_is (tens ∷ []) n rest is = absurd cc
two_is (tens ∷ ones ∷ bytes) n rest is =
    let found = if_some (is_ascii_digit tens && is_ascii_digit ones) ((tens - 48) * 10 + (ones - 48), bytes) (n, rest) is in
    let same = parts_same ((tens - 48) * 10 + (ones - 48)) n bytes rest found.1 in
    let low : (48 ≤ tens) × (tens ≤ 57) = grind (arith, nat_tests, found.0) in
    let high : (48 ≤ ones) × (ones ≤ 57) = grind (arith, nat_tests, found.0) in
    let below : n < 100 = omega (arith, same.0, low.1, high.1) in
    let first : 48 + n / 10 ≡ tens = omega (arith, same.0, low.0, high.0, high.1) in
    let second : 48 + n % 10 ≡ ones = omega (arith, same.0, low.0, high.0, high.1) in
    (rw (two_text n below, first, second, same.1) refl, below)

-- ---- a leading average

average_parts : (n : ℕ) (rest : List ℕ) →
    hundredths_text n ++ rest ≡ decimal (n / 100) ++ (codes "." ++ (two_digits (n % 100) ++ rest))
average_parts n rest = simp append_assoc

pub average_again : (n : ℕ) (rest : List ℕ) → n ≤ 10000 →
    average_at (hundredths_text n ++ rest) ≡ Some (n, rest)
unfolding average_at
average_again n rest most =
    let part : List ℕ = two_digits (n % 100) ++ rest in
    let number = number_again (n / 100) (codes "." ++ part) (omega arith) refl in
    let point = after_again (codes ".") part in
    let two = two_again (n % 100) rest (omega arith) in
    let whole : n / 100 * 100 + n % 100 ≡ n = omega arith in
    let fits : nat_le n 10000 ≡ true = grind (arith, nat_tests, most) in
    rw (average_parts n rest, number, point, two, whole, fits) refl

pub average_is : (bytes : List ℕ) (n : ℕ) (rest : List ℕ) → average_at bytes ≡ Some (n, rest) →
    (bytes ≡ hundredths_text n ++ rest) × (n ≤ 10000)
unfolding average_at
average_is bytes n rest is =
    let whole = bind_some (number_at bytes) _ (n, rest) is in
    let point = bind_some (suffix (codes ".") whole.0.1) _ (n, rest) whole.2 in
    let part = bind_some (two_at point.0) _ (n, rest) point.2 in
    let found = if_some (nat_le (whole.0.0 * 100 + part.0.0) 10000) (whole.0.0 * 100 + part.0.0, part.0.1) (n, rest) part.2 in
    let same = parts_same (whole.0.0 * 100 + part.0.0) n part.0.1 rest found.1 in
    let number = number_is bytes whole.0.0 whole.0.1 whole.1 in
    let after_point = after_is (codes ".") whole.0.1 point.0 point.1 in
    let two = two_is point.0 part.0.0 part.0.1 part.1 in
    let most : n ≤ 10000 = grind (arith, nat_tests, found.0, same.0) in
    let first : whole.0.0 ≡ n / 100 = omega (arith, same.0, two.1) in
    let second : part.0.0 ≡ n % 100 = omega (arith, same.0, two.1) in
    let rest_is : point.0 ≡ two_digits (n % 100) ++ rest = two.0 ∙ ap (λ m. two_digits m ++ part.0.1) second ∙ ap (λ xs. two_digits (n % 100) ++ xs) same.1 in
    let point_is : whole.0.1 ≡ codes "." ++ (two_digits (n % 100) ++ rest) = after_point ∙ ap (λ xs. codes "." ++ xs) rest_is in
    (number.0 ∙ ap (λ m. decimal m ++ whole.0.1) first ∙ ap (λ xs. decimal (n / 100) ++ xs) point_is ∙ sym (average_parts n rest), most)

-- ---- a piece after its label

pub past_is : {A : Type 0} (label : List ℕ) (read : List ℕ → Option A) (bytes : List ℕ) (found : A) →
    past label read bytes ≡ Some found →
    (rest : List ℕ) × (bytes ≡ label ++ rest) × (read rest ≡ Some found)
past_is label read bytes found is =
    let after_label = bind_some (suffix label bytes) read found is in
    (after_label.0, after_is label bytes after_label.0 after_label.1, after_label.2)
