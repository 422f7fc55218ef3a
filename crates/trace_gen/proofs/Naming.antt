-- Proofs about the paths of numbered groups: each is a path below the root, and different numbers
-- have different paths.
use Rattle.std.proofs.Common.{◌≡◌, ◌≢◌, ℕ, zero, suc, ◌^◌, ◌<◌, ◌≤◌, List, [], ◌∷◌, refl, ap, arith, true, false, length, get_or, drop}
use Rattle.std.specs.Prelude.{nat_le, nat_lt, codes, decimal}
use Rattle.std.specs.List.{list_all}
use Rattle.std.specs.Str.{all_ascii_digits, bytes_eq}
use Rattle.std.proofs.lemmas.Bool.Decides.{nat_tests}
use Rattle.std.proofs.lemmas.Fmt.{decimal_injective, digits_decimal}
use Rattle.psi_base.specs.Path.{is_path, is_path_byte, parts_at}
use Rattle.psi_base.proofs.NumberLaws.{numerals}
use Rattle.psi_base.proofs.PartLaws.{HasNone, parts_at-all}
use Rattle.psi_spec.specs.World.{parent_path}
use Rattle.trace_laws.proofs.GrammarWords.{decimal_short}
use Rattle.psi_spec.proofs.GroupLaws.{same_bytes}
use Rattle.group_tree.proofs.Slashes.{HasNoSlash, above_cut}
use Rattle.run_spec.specs.Generated.{numbered_path}

-- Digits are bytes that a path may contain.
digits_pass : (bytes : List ℕ) → all_ascii_digits bytes ≡ true → list_all is_path_byte bytes ≡ true
digits_pass [] are = refl
digits_pass (c ∷ cs) are =
    let rest : list_all is_path_byte cs ≡ true = digits_pass cs (grind (arith, are)) in
    grind (arith, are, rest)

-- Digits aren't slashes.
digit_at : (bytes : List ℕ) → all_ascii_digits bytes ≡ true → (k : ℕ) → k < length bytes → 48 ≤ get_or bytes k 0
digit_at [] are k room = absurd (omega (arith, room))
digit_at (c ∷ cs) are zero room = grind (arith, are)
digit_at (c ∷ cs) are (suc k) room = digit_at cs (grind (arith, are)) k (omega (arith, room))

-- The bytes after the slash contain no slash.
name_at : (digits : List ℕ) → all_ascii_digits digits ≡ true → HasNone 47 (103 ∷ digits) (length (103 ∷ digits))
name_at digits are zero room = λ same. absurd (omega (arith, same))
name_at digits are (suc k) room = λ same. let large = digit_at digits are k (omega (arith, room)) in absurd (omega (arith, same, large))

-- A slash, the letter g and at most 20 digits are a path.
named_path : (digits : List ℕ) → all_ascii_digits digits ≡ true → length digits ≤ 20 → is_path (47 ∷ 103 ∷ digits) ≡ true
unfolding is_path
named_path digits are short =
    let parts : parts_at 47 (103 ∷ digits) ≡ (103 ∷ digits) ∷ [] = parts_at-all 47 (103 ∷ digits) (name_at digits are) in
    let fits : nat_le (length (47 ∷ 103 ∷ digits)) 255 ≡ true = grind (arith, nat_tests) in
    let some : nat_lt 0 (length (103 ∷ digits)) ≡ true = grind (arith, nat_tests) in
    let pass = digits_pass digits are in
    rw (fits, parts, some, pass) refl

-- There is no slash after the first byte.
no_more : (digits : List ℕ) → all_ascii_digits digits ≡ true → HasNoSlash (47 ∷ 103 ∷ digits) 1
no_more digits are zero low room = absurd (omega (arith, low))
no_more digits are (suc k) low room = name_at digits are k (omega (arith, room))

-- The decimal form of a number consists of digits.
digits_of : (number : ℕ) → number < 2 ^ 64 → all_ascii_digits (decimal number) ≡ true
digits_of number fits = digits_decimal numerals number fits

pub numbered_is_path : (number : ℕ) → number < 2 ^ 64 → is_path (numbered_path number) ≡ true
numbered_is_path number fits = named_path (decimal number) (digits_of number fits) (decimal_short number fits)

-- The parent of every numbered group is the root.
pub numbered_parent : (number : ℕ) → number < 2 ^ 64 → parent_path (numbered_path number) ≡ codes "/"
numbered_parent number fits = above_cut (numbered_path number) 0 (omega arith) refl (no_more (decimal number) (digits_of number fits))

-- Different numbers have different paths.
pub numbered_apart : (m n : ℕ) → m < 2 ^ 64 → n < 2 ^ 64 → m ≢ n → bytes_eq (numbered_path m) (numbered_path n) ≡ false
numbered_apart m n fits_m fits_n apart =
    elim (bytes_eq (numbered_path m) (numbered_path n)) as (λ b. bytes_eq (numbered_path m) (numbered_path n) ≡ b → b ≡ false) [
      | true ↦ λ same.
          let paths : numbered_path m ≡ numbered_path n = same_bytes (numbered_path m) (numbered_path n) same in
          absurd (apart (decimal_injective m n fits_m fits_n (ap (drop 2) paths)))
      | false ↦ λ _. refl
    ] refl
