-- Proves that parsing the text of an argument returns the argument.
use Rattle.std.proofs.Common.{◌≡◌, ℕ, ◌+◌, ◌*◌, ◌/◌, ◌%◌, ◌^◌, ◌<◌, ◌≤◌, List, [], ◌∷◌, ◌++◌, Bool, true, false, Some, None, Ok, length, refl, ap, ◌∙◌, arith, inl, inr}
use Rattle.std.specs.Prelude.{◌==◌, codes, decimal, nat_le}
use Rattle.std.specs.List.{list_all}
use Rattle.std.specs.Char.{is_ascii_digit}
use Rattle.std.specs.Str.{all_ascii_digits}
use Rattle.std.proofs.lemmas.Bool.{and_parts, and_from, cases_lt, le-leb}
use Rattle.std.proofs.lemmas.Fmt.{decimal_digit, decimal_step, digits_decimal}
use Rattle.std.proofs.lemmas.Grind.{common_steps}
use Rattle.std.proofs.lemmas.List.{append_assoc}
use Rattle.psi_base.specs.Number.{digits_after, digits_of}
use Rattle.psi_base.specs.Path.{parts_at}
use Rattle.psi_base.proofs.NumberLaws.{number_of-decimal, numerals}
use Rattle.psi_base.proofs.PartLaws.{HasNone, parts_at-all, parts_at-line}
use Rattle.psi_base.specs.declared.event.Res.{Res}
use Rattle.psi_base.specs.declared.event.Res.TheVariants as res
use Rattle.psi_spec.specs.Fields.{resource_word}
use Rattle.path_match.specs.Match.{Pattern, patterns_text}
use Rattle.path_match.specs.Answers.{ArePatterns}
use Rattle.path_match.proofs.JoinedParts.{none_of}
use Rattle.path_match.proofs.SpelledLaws.{read_again}
use Rattle.ruleset_json.specs.declared.fault.Place.{Place}
use Rattle.ruleset_json.specs.declared.types.Size.{Size}
use Rattle.ruleset_json.specs.declared.types.Size.TheVariants as bytes_or_percent
use Rattle.ruleset_json.specs.Arguments.{argument_of, patterns, resource, number, ratio, size, truth, truth_text}
use Rattle.ruleset_json.specs.Forms.{fraction_of, prefix, last, number_up_to, ratio_of, resource_of, size_of, thousandths_of, truth_of, unit_of}
use Rattle.ruleset_json.specs.Ranges.{IsRatio, IsSize, IsStallable}
use Rattle.dropin_rules.specs.RulesText.{ratio_text, size_text}

pub patterns_again : (at : Place) (patterns_now : List Pattern) → ArePatterns patterns_now → argument_of at patterns (patterns_text patterns_now) ≡ Ok patterns_now
unfolding argument_of
patterns_again at patterns_now are = rw (read_again patterns_now are) refl

pub truth_again : (at : Place) (b : Bool) → argument_of at truth (truth_text b) ≡ Ok b
unfolding argument_of truth_of
truth_again at true = refl
truth_again at false = refl

pub resource_again : (at : Place) (r : Res) → IsStallable r → argument_of at resource (resource_word r) ≡ Ok r
unfolding argument_of resource_of
resource_again at res.Io fits = refl
resource_again at res.Memory fits = refl
resource_again at res.Cpu fits = absurd fits

number_read : (most n : ℕ) → n ≤ most → n < 2 ^ 64 → number_up_to most (decimal n) ≡ Some n
unfolding number_up_to
number_read most n small fits = rw (number_of-decimal n fits) (rw (le-leb n most small) refl)

pub number_again : (at : Place) (most n : ℕ) → n ≤ most → most < 2 ^ 64 → argument_of at (number most) (decimal n) ≡ Ok n
unfolding argument_of
number_again at most n small fits = rw (number_read most n small (omega (arith, small, fits))) refl

-- ---- ratios

all_digits : (bytes : List ℕ) → all_ascii_digits bytes ≡ true → list_all is_ascii_digit bytes ≡ true
all_digits [] digits = refl
all_digits (byte ∷ bytes) digits =
    let both = and_parts (is_ascii_digit byte) (all_ascii_digits bytes) digits in
    and_from (is_ascii_digit byte) (list_all is_ascii_digit bytes) both.0 (all_digits bytes both.1)

no_point : (n : ℕ) → n < 2 ^ 64 → HasNone 46 (decimal n) (length (decimal n))
no_point n fits = none_of 46 is_ascii_digit (decimal n) refl (all_digits (decimal n) (digits_decimal numerals n fits))

three_read : (a b c : ℕ) → a < 10 → b < 10 → c < 10 → digits_of ((48 + a) ∷ (48 + b) ∷ (48 + c) ∷ []) ≡ Some (a * 100 + b * 10 + c)
unfolding digits_after
three_read a b c first second third = grind arith

fraction_read : (a b c : ℕ) → a < 10 → b < 10 → c < 10 → fraction_of ((48 + a) ∷ (48 + b) ∷ (48 + c) ∷ []) ≡ Some (a * 100 + b * 10 + c)
unfolding fraction_of
fraction_read a b c first second third = three_read a b c first second third

three_digits_none : (a b c : ℕ) → HasNone 46 ((48 + a) ∷ (48 + b) ∷ (48 + c) ∷ []) 3
three_digits_none a b c = none_of 46 (λ byte. nat_le 47 byte) ((48 + a) ∷ (48 + b) ∷ (48 + c) ∷ []) refl (grind arith)

three_digits_text : (a b c : ℕ) → a < 10 → b < 10 → c < 10 → decimal a ++ (decimal b ++ decimal c) ≡ (48 + a) ∷ (48 + b) ∷ (48 + c) ∷ []
three_digits_text a b c first second third = rw (decimal_digit a first, decimal_digit b second, decimal_digit c third) refl

pointed_parts : (n : ℕ) (digits : List ℕ) → n < 2 ^ 64 → HasNone 46 digits (length digits) → parts_at 46 (decimal n ++ 46 ∷ digits) ≡ decimal n ∷ digits ∷ []
pointed_parts n digits fits none = parts_at-line 46 (decimal n) digits (no_point n fits) ∙ ap (λ parts. decimal n ∷ parts) (parts_at-all 46 digits none)

pointed_read : (whole a b c : ℕ) → whole ≤ 1000 → a < 10 → b < 10 → c < 10 → ratio_of (decimal whole ++ 46 ∷ (48 + a) ∷ (48 + b) ∷ (48 + c) ∷ []) ≡ Some (whole * 1000 + (a * 100 + b * 10 + c))
unfolding thousandths_of
pointed_read whole a b c small first second third =
    rw (pointed_parts whole ((48 + a) ∷ (48 + b) ∷ (48 + c) ∷ []) (omega (arith, small)) (three_digits_none a b c))
    (rw (number_read 1000 whole small (omega (arith, small)), fraction_read a b c first second third) refl)

with_point : (whole a b c : List ℕ) → whole ++ codes "." ++ a ++ b ++ c ≡ whole ++ 46 ∷ (a ++ (b ++ c))
with_point whole a b c = append_assoc (whole ++ codes "." ++ a) b c ∙ append_assoc (whole ++ codes ".") a (b ++ c) ∙ append_assoc whole (codes ".") (a ++ (b ++ c))

ratio_read : (n : ℕ) → IsRatio n → ratio_of (ratio_text n) ≡ Some n
ratio_read n fits =
    let a : n / 100 % 10 < 10 = omega arith in
    let b : n / 10 % 10 < 10 = omega arith in
    let c : n % 10 < 10 = omega arith in
    let whole : n / 1000 ≤ 1000 = omega (arith, fits) in
    let same : n / 1000 * 1000 + (n / 100 % 10 * 100 + n / 10 % 10 * 10 + n % 10) ≡ n = omega arith in
    ap ratio_of (with_point (decimal (n / 1000)) (decimal (n / 100 % 10)) (decimal (n / 10 % 10)) (decimal (n % 10)))
    ∙ ap (λ digits. ratio_of (decimal (n / 1000) ++ 46 ∷ digits)) (three_digits_text (n / 100 % 10) (n / 10 % 10) (n % 10) a b c)
    ∙ pointed_read (n / 1000) (n / 100 % 10) (n / 10 % 10) (n % 10) whole a b c ∙ ap Some same

pub ratio_again : (at : Place) (n : ℕ) → IsRatio n → argument_of at ratio (ratio_text n) ≡ Ok n
unfolding argument_of
ratio_again at n fits = rw (ratio_read n fits) refl

-- ---- sizes

last_end : (bytes : List ℕ) (byte : ℕ) → last (bytes ++ byte ∷ []) ≡ byte
last_end bytes byte = grind (arith, common_steps)

prefix_end : (bytes : List ℕ) (byte : ℕ) → prefix (bytes ++ byte ∷ []) ≡ bytes
prefix_end bytes byte = grind (arith, common_steps)

last_small : (n : ℕ) → n < 10 → last (decimal n) ≡ 48 + n % 10
last_small n small = let same : n % 10 ≡ n = omega (arith, small) in rw (decimal_digit n small, same) refl

last_digit : (n : ℕ) → n < 2 ^ 64 → last (decimal n) ≡ 48 + n % 10
last_digit n fits = elim (cases_lt n 10) [
  | inl small ↦ last_small n small
  | inr large ↦ ap last (decimal_step n large fits) ∙ last_end (decimal (n / 10)) (48 + n % 10)
]

unit_none : (digit : ℕ) → digit < 10 → unit_of (48 + digit) ≡ None
unfolding unit_of
unit_none digit small = grind arith

bytes_read : (n : ℕ) → n ≤ 2 ^ 60 → size_of (decimal n) ≡ Some (bytes_or_percent.Bytes n)
unfolding size_of
bytes_read n small =
    let other : (48 + n % 10 == 37) ≡ false = grind arith in
    let digit : n % 10 < 10 = omega arith in
    rw (last_digit n (omega (arith, small)), other, unit_none (n % 10) digit, number_read (2 ^ 60) n small (omega (arith, small))) refl

percent_read : (n : ℕ) → n ≤ 100 → size_of (decimal n ++ 37 ∷ []) ≡ Some (bytes_or_percent.Percent n)
unfolding size_of
percent_read n small = rw (last_end (decimal n) 37, prefix_end (decimal n) 37) (rw (number_read 100 n small (omega (arith, small))) refl)

size_read : (s : Size) → IsSize s → size_of (size_text s) ≡ Some s
size_read (bytes_or_percent.Bytes n) fits = bytes_read n fits
size_read (bytes_or_percent.Percent n) fits = percent_read n fits

pub size_again : (at : Place) (s : Size) → IsSize s → argument_of at size (size_text s) ≡ Ok s
unfolding argument_of
size_again at s fits = rw (size_read s fits) refl
