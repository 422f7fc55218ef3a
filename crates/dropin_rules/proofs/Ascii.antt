-- Proves that the text of patterns is ASCII.
use Rattle.std.proofs.Common.{◌≡◌, ℕ, ◌<◌, ◌≤◌, List, [], ◌∷◌, refl, arith, Bool, true, false, inl, inr}
use Rattle.std.specs.Prelude.{All, map, ◌==◌, nat_le, nat_lt}
use Rattle.std.specs.List.{list_all}
use Rattle.std.specs.Str.{IsUtf8}
use Rattle.std.proofs.lemmas.Bool.{and_parts, and_from, cases_lt, le-leb, lt-ltb, ltb-true, ne_eqb}
use Rattle.std.proofs.lemmas.Str.{IsUtf8-from_ascii}
use Rattle.std.proofs.lemmas.Str.Ascii.{IsAscii-from_all}
use Rattle.path_match.specs.Match.{Pattern, is_pattern_byte, is_pattern_component, pattern_text, patterns_text}
use Rattle.path_match.specs.Answers.{ArePatterns}
use Rattle.path_match.proofs.JoinedParts.{list_all-join, list_all-weaker}
use Rattle.path_match.proofs.MatchLaws.{all_cons}
use Rattle.path_match.proofs.PatternLaws.{formed_bytes}

abbrev is_ascii_byte : ℕ → Bool
is_ascii_byte c = nat_lt c 128

large_byte : (c : ℕ) → 128 ≤ c → is_pattern_byte c ≡ false
large_byte c large =
    let small_letter : nat_le c 122 ≡ false = grind arith in
    let large_letter : nat_le c 90 ≡ false = grind arith in
    let digit : nat_le c 57 ≡ false = grind arith in
    let above : (low : ℕ) → low < 128 → nat_le low c ≡ true = λ low below. le-leb low c (omega (arith, below, large)) in
    let other : (byte : ℕ) → byte < 128 → (c == byte) ≡ false = λ byte below. ne_eqb c byte (λ same. omega (arith, same, below, large)) in
    rw (
      small_letter,
      large_letter,
      digit,
      above 97 (omega arith),
      above 65 (omega arith),
      above 48 (omega arith),
      other 95 (omega arith),
      other 46 (omega arith),
      other 64 (omega arith),
      other 58 (omega arith),
      other 45 (omega arith),
      other 92 (omega arith),
      other 42 (omega arith),
    ) refl

pattern_byte : (c : ℕ) → is_pattern_byte c ≡ true → is_ascii_byte c ≡ true
pattern_byte c known = elim (cases_lt c 128) [ inl small ↦ lt-ltb c 128 small | inr large ↦ absurd (let no = large_byte c large in cc) ]

pattern_ascii : (pattern : Pattern) → list_all is_pattern_component pattern ≡ true → list_all is_ascii_byte (pattern_text pattern) ≡ true
pattern_ascii [] formed = refl
pattern_ascii (component ∷ pattern) formed =
    list_all-join 47 is_ascii_byte (component ∷ pattern) refl
    (list_all-weaker is_pattern_component (list_all is_ascii_byte) (component ∷ pattern)
    (λ part good. list_all-weaker is_pattern_byte is_ascii_byte part pattern_byte (formed_bytes part good)) formed)

each_ascii : (patterns : List Pattern) → list_all (λ pattern. list_all is_pattern_component pattern) patterns ≡ true → list_all (list_all is_ascii_byte) (map pattern_text patterns) ≡ true
each_ascii [] formed = refl
each_ascii (pattern ∷ patterns) formed =
    let both = and_parts (list_all is_pattern_component pattern) (list_all (λ p. list_all is_pattern_component p) patterns) formed in
    and_from (list_all is_ascii_byte (pattern_text pattern)) (list_all (list_all is_ascii_byte) (map pattern_text patterns)) (pattern_ascii pattern both.0) (each_ascii patterns both.1)

each_byte : (bytes : List ℕ) → list_all is_ascii_byte bytes ≡ true → All (λ b. b < 128) bytes
each_byte [] passes = λ k d below. absurd (omega arith)
each_byte (byte ∷ bytes) passes =
    let both = and_parts (is_ascii_byte byte) (list_all is_ascii_byte bytes) passes in
    all_cons (λ b. b < 128) byte bytes (ltb-true byte 128 both.0) (each_byte bytes both.1)

pub patterns_utf8 : (patterns : List Pattern) → ArePatterns patterns → IsUtf8 (patterns_text patterns)
patterns_utf8 patterns are =
    IsUtf8-from_ascii (patterns_text patterns)
    (IsAscii-from_all (patterns_text patterns) (each_byte (patterns_text patterns) (list_all-join 44 is_ascii_byte (map pattern_text patterns) refl (each_ascii patterns are.formed))))
