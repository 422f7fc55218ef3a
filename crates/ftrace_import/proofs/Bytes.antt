-- Proofs about the results of searches in bytes.
use Rattle.std.proofs.Common.{◌≡◌, ◌≢◌, ℕ, suc, ◌+◌, ◌*◌, ◌-◌, ◌^◌, ◌≤◌, ◌<◌, List, [], ◌∷◌, refl, ap, ◌∙◌, sym, arith, cond, Bool, true, false, Option, None, Some, ◌==◌, length, take, drop, get_or, inl, inr}
use Rattle.std.proofs.Math.Nat.{mul_assoc, mul_comm, pow-suc, pow-le-pow_right}
use Rattle.std.specs.Prelude.{◌&&◌, IfSome, nat_eq, nat_lt}
use Rattle.std.specs.List.{prefix_len}
use Rattle.std.specs.Str.{all_ascii_digits}
use Rattle.std.proofs.Math.ListN.{drop_of_length-le}
use Rattle.std.proofs.lemmas.List.{drop-drop, drop_more, get_or-drop, get_or-take, length-drop, length-take-le}
use Rattle.std.proofs.lemmas.Bool.{cases_lt, eq-eqb, ne_eqb}
use Rattle.std.proofs.lemmas.Bool.Decides.{nat_tests}
use Rattle.memchr.specs.Find.{Nowhere, Passes, is_byte}
use Rattle.psi_base.specs.Number.{digits_after, digits_of, value_after}
use Rattle.import_spec.specs.Places.{begins_with, first_place, last_place}
use Rattle.import_spec.specs.Laws.{NonePasses}
use Rattle.import_spec.specs.Tails.{digit_count, is_bracketed}
use Rattle.ftrace_import.specs.Bytes.{IsLastBracket}
use Rattle.import_spec.proofs.PlaceLaws.{first_is, first_none, last_is, last_none}

-- ---- texts

-- Bytes don't begin with a text whose first byte differs.
pub begins_other : (text rest : List ℕ) → 0 < length text → (get_or text 0 0 == get_or rest 0 0) ≡ false → begins_with text rest ≡ false
begins_other [] rest some other = absurd (omega (arith, some))
begins_other (c ∷ cs) [] some other = refl
begins_other (c ∷ cs) (x ∷ xs) some other = rw other refl

-- The first byte of the rest is the byte at its index.
pub prefix : (bytes : List ℕ) (at : ℕ) → get_or (drop at bytes) 0 0 ≡ get_or bytes at 0
prefix bytes at = let same : at + 0 ≡ at = omega arith in get_or-drop at bytes 0 0 ∙ ap (λ n. get_or bytes n 0) same

-- ---- places

-- A byte that a search passed over differs from the byte that is sought.
pub passed_by : (sought byte : ℕ) → (is_byte sought byte ≡ true → ⊥) → byte ≢ sought
passed_by sought byte off same = off (eq-eqb byte sought same)

-- One more index at which a test fails.
pub none_down : (test : List ℕ → Bool) (bytes : List ℕ) (at below high : ℕ) → at ≡ below + 1 → NonePasses test bytes at high → test (drop below bytes) ≡ false → NonePasses test bytes below high
none_down test bytes at below high next none here k low under =
    elim (k == below) as (λ b. (k == below) ≡ b → test (drop k bytes) ≡ false) [
      | true ↦ λ same. let it : k ≡ below = grind (arith, nat_tests) in rw it here
      | false ↦ λ other. let more : k ≢ below = grind (arith, nat_tests) in none k (omega (arith, next, low, more)) under
    ] refl

pub none_up : (test : List ℕ → Bool) (bytes : List ℕ) (at : ℕ) → NonePasses test bytes 0 at → test (drop at bytes) ≡ false → NonePasses test bytes 0 (at + 1)
none_up test bytes at none here k low under =
    elim (k == at) as (λ b. (k == at) ≡ b → test (drop k bytes) ≡ false) [
      | true ↦ λ same. let it : k ≡ at = grind (arith, nat_tests) in rw it here
      | false ↦ λ other. let more : k ≢ at = grind (arith, nat_tests) in none k low (omega (arith, under, more))
    ] refl

-- No text begins at or after `low`, if none begins at or after `high` and a search for its first
-- byte passed over the bytes between.
pub none_passed : (text bytes : List ℕ) (low high : ℕ) → 0 < length text → high ≤ length bytes → Nowhere (Passes (is_byte (get_or text 0 0)) (take high bytes)) low (length (take high bytes))
    → NonePasses (begins_with text) bytes high (length bytes) → NonePasses (begins_with text) bytes low (length bytes)
none_passed text bytes low high some inside off none k from under =
    elim (cases_lt k high) [
      | inl early ↦
          let size = length-take-le high bytes inside in
          let other = passed_by (get_or text 0 0) (get_or (take high bytes) k 0) (off k from (omega (arith, early, size))) in
          let same = get_or-take high bytes k 0 early ∙ sym (prefix bytes k) in
          begins_other text (drop k bytes) some (ne_eqb (get_or text 0 0) (get_or (drop k bytes) 0 0) (λ first. other (same ∙ sym first)))
      | inr late ↦ none k late under
    ]

-- Nothing begins after the last byte.
pub none_at_end : (test : List ℕ → Bool) (bytes : List ℕ) (at : ℕ) → length bytes ≤ at → NonePasses test bytes at (length bytes)
none_at_end test bytes at end k low under = absurd (omega (arith, end, low, under))

pub last_found : (test : List ℕ → Bool) (bytes : List ℕ) (at below : ℕ) → at ≡ below + 1 → at ≤ length bytes → NonePasses test bytes at (length bytes) → test (drop below bytes) ≡ true → last_place test bytes ≡ Some below
last_found test bytes at below next inside none here =
    last_is test bytes below (record { inside = omega (arith, next, inside); passes = here; none = λ k low under. none k (omega (arith, next, low)) under })

pub last_missing : (test : List ℕ → Bool) (bytes : List ℕ) (at : ℕ) → at ≡ 0 → NonePasses test bytes at (length bytes) → last_place test bytes ≡ None
last_missing test bytes at first none = last_none test bytes (λ k low under. none k (omega (arith, first)) under)

pub first_found : (test : List ℕ → Bool) (bytes : List ℕ) (at : ℕ) → at < length bytes → NonePasses test bytes 0 at → test (drop at bytes) ≡ true → first_place test bytes ≡ Some at
first_found test bytes at inside none here = first_is test bytes at (record { inside = inside; passes = here; none = none })

pub first_missing : (test : List ℕ → Bool) (bytes : List ℕ) (at : ℕ) → length bytes ≤ at → NonePasses test bytes 0 at → first_place test bytes ≡ None
first_missing test bytes at end none = first_none test bytes (λ k low under. none k low (omega (arith, under, end)))

-- A text that occurs in bytes isn't longer than they are.
begins_fits : (text rest : List ℕ) → begins_with text rest ≡ true → length text ≤ length rest
begins_fits [] rest is = omega arith
begins_fits (c ∷ cs) [] is = absurd (cc is)
begins_fits (c ∷ cs) (x ∷ xs) is =
    elim (nat_eq c x) as (λ b. (b && begins_with cs xs) ≡ true → suc (length cs) ≤ suc (length xs)) [
      | true ↦ λ more. let fits = begins_fits cs xs more in omega (arith, fits)
      | false ↦ λ more. absurd (cc more)
    ] is

pub text_fits : (text bytes : List ℕ) (at : ℕ) → at < length bytes → begins_with text (drop at bytes) ≡ true → at + length text ≤ length bytes
text_fits text bytes at inside is = let fits = begins_fits text (drop at bytes) is in let left = length-drop at bytes in omega (arith, inside, fits, left)

-- ---- runs of bytes that pass a test

-- A run with one more byte.
pub run_more : (p : ℕ → Bool) (bytes : List ℕ) (count : ℕ) → count < length bytes → p (get_or bytes count 0) ≡ true → prefix_len p (drop count bytes) ≡ 1 + prefix_len p (drop (count + 1) bytes)
run_more p bytes count inside passes = rw (drop_more bytes count 0 inside, passes) refl

-- A run ends at a byte that fails the test.
pub run_stops : (p : ℕ → Bool) (bytes : List ℕ) (count : ℕ) → count < length bytes → p (get_or bytes count 0) ≡ false → prefix_len p (drop count bytes) ≡ 0
run_stops p bytes count inside fails = rw (drop_more bytes count 0 inside, fails) refl

pub run_ends : (p : ℕ → Bool) (bytes : List ℕ) (count : ℕ) → length bytes ≤ count → prefix_len p (drop count bytes) ≡ 0
run_ends p bytes count end = rw (drop_of_length-le bytes end) refl

pub ruleset runs = (run_more, run_stops, run_ends)

-- ---- numbers

-- The value of digits after a number below a bound is below a larger bound.
value_low : (ds : List ℕ) (n m : ℕ) → all_ascii_digits ds ≡ true → n < m → value_after n ds < m * 10 ^ length ds
value_low [] n m digits low = omega (arith, low)
value_low (d ∷ ds) n m digits low =
    let here : d ≤ 57 = grind arith in
    let rest : all_ascii_digits ds ≡ true = grind arith in
    let more = value_low ds (n * 10 + (d - 48)) (m * 10) rest (omega (arith, low, here)) in
    let same : m * 10 * 10 ^ length ds ≡ m * 10 ^ suc (length ds) = mul_assoc m 10 (10 ^ length ds) ∙ ap (λ x. m * x) (mul_comm 10 (10 ^ length ds) ∙ sym (pow-suc 10 (length ds))) in
    omega (arith, more, same)

pub low_digits : (digits : List ℕ) (most : ℕ) (o : Option ℕ) → o ≡ digits_of digits → length digits ≤ most → IfSome o (λ number. number < 10 ^ most)
unfolding digits_after
low_digits digits most None is few = tt
low_digits digits most (Some n) is few =
    elim (all_ascii_digits digits) as (λ b. all_ascii_digits digits ≡ b → Some n ≡ cond (b && nat_lt (value_after 0 digits) (2 ^ 64)) (Some (value_after 0 digits)) None → n < 10 ^ most) [
      | false ↦ λ _ found. absurd (cc found)
      | true ↦ λ all found.
          elim (nat_lt (value_after 0 digits) (2 ^ 64)) as (λ b. Some n ≡ cond b (Some (value_after 0 digits)) None → n < 10 ^ most) [
            | false ↦ λ found. absurd (cc found)
            | true ↦ λ found.
                let same : n ≡ value_after 0 digits = cc found in
                let low = value_low digits 0 1 all (omega arith) in
                let more = pow-le-pow_right {n = 10} (omega arith) {i = length digits} {j = most} few in
                omega (arith, same, low, more)
          ] found
    ] refl is

-- ---- numbers in brackets

if_some : (b : Bool) (n m : ℕ) → Some n ≡ cond b (Some m) None → (b ≡ true) × (n ≡ m)
if_some true n m is = (refl, cc is)
if_some false n m is = absurd (cc is)

pub bracket_found : (bytes rest : List ℕ) (at below count : ℕ) → rest ≡ drop below bytes → at ≡ below + 1 → at ≤ length bytes → NonePasses is_bracketed bytes at (length bytes)
    → Some count ≡ cond (is_bracketed rest) (Some (digit_count (drop 1 rest))) None → count + 1 ≤ length rest → IsLastBracket bytes (below + 1) count
bracket_found bytes rest at below count is next inside none found fits =
    let both = if_some (is_bracketed rest) count (digit_count (drop 1 rest)) found in
    let left = ap length is ∙ length-drop below bytes in
    record {
      at = below;
      suffix = refl;
      last = last_found is_bracketed bytes at below next inside none (ap is_bracketed (sym is) ∙ both.0);
      digits = both.1 ∙ ap (λ bs. digit_count (drop 1 bs)) is ∙ ap digit_count (drop-drop 1 below bytes);
      inside = omega (arith, fits, left, inside, next);
    }
