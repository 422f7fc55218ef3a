-- Proofs about the patterns that a text spells.
use Rattle.std.proofs.Common.{◌≡◌, ◌≢◌, ℕ, ◌<◌, List, [], ◌∷◌, ◌++◌, length, refl, sym, ap, ◌∙◌, arith, Bool, true, false, inl, inr, ⊎_elim, subst}
use Rattle.std.specs.Prelude.{nat_lt, nat_le, if◌then◌else◌, map, Ok, Err}
use Rattle.std.specs.List.{join_with_byte, list_all}
use Rattle.std.proofs.lemmas.Bool.{and_parts, ltb-true, leb-true, ne_eqb, cases_eq}
use Rattle.std.proofs.lemmas.List.{length-map}
use Rattle.psi_base.specs.Path.{parts_at}
use Rattle.psi_base.proofs.PartLaws.{HasFirst, first_part}
use Rattle.path_match.specs.declared.fault.PatternFault.TheVariants.{BadPattern, TooMany}
use Rattle.path_match.specs.Match.{Pattern, components, is_pattern, is_pattern_byte, is_pattern_component, pattern_text, patterns_of}
use Rattle.path_match.specs.Answers.{ArePatterns}
use Rattle.path_match.specs.Laws.{SpellsPattern, SlashIsFree}
use Rattle.path_match.proofs.JoinedParts.{joined_by-parts, list_all-map, list_all-weaker, none_of, parts-joined_by}
use Rattle.path_match.proofs.MatchLaws.{components-root}

-- ---- parsed patterns

-- if parsing succeeds, all parts are patterns and there are at most 16
pub read_if : {A : Type 0} (good few : Bool) (all read : A) → (if good then (if few then Ok all else Err TooMany) else Err BadPattern) ≡ Ok read → (good ≡ true) × (few ≡ true) × (read ≡ all)
read_if true true all read is = (refl, refl, cc)
read_if true false all read is = absurd cc
read_if false few all read is = absurd cc

pub reads_patterns : (text : List ℕ) (patterns : List Pattern) → patterns_of text ≡ Ok patterns → ArePatterns patterns
unfolding patterns_of
reads_patterns text patterns is =
    let parts = parts_at 44 text in
    let read = read_if (list_all is_pattern parts) (nat_le (length parts) 16) (map components parts) patterns is in
    let first = first_part 44 text in
    let long : length patterns ≡ length parts = ap length read.2 ∙ length-map parts components in
    let more : length parts ≡ length (first.0 ∷ first.1) = ap length first.2 in
    record {
      some = omega (arith, long, more);
      few = omega (arith, long, leb-true (length parts) 16 read.1);
      formed = rw read.2 (list_all-map (λ pattern. list_all is_pattern_component pattern) components parts ∙ read.0);
    }

-- ---- the components of a pattern's text

components-byte : (byte : ℕ) (bytes : List ℕ) → byte ≢ 47 → components (byte ∷ bytes) ≡ parts_at 47 (byte ∷ bytes)
unfolding components
components-byte byte bytes other = rw (ne_eqb byte 47 other) refl

pub components-slash : (byte : ℕ) (bytes : List ℕ) → components (47 ∷ byte ∷ bytes) ≡ parts_at 47 (byte ∷ bytes)
unfolding components
components-slash byte bytes = refl

pub slash_is_free : SlashIsFree
slash_is_free byte bytes other = components-slash byte bytes ∙ sym (components-byte byte bytes other)

-- a component of a pattern consists of pattern bytes
pub formed_bytes : (part : List ℕ) → is_pattern_component part ≡ true → list_all is_pattern_byte part ≡ true
formed_bytes part formed =
    let prefix = (and_parts _ _ (and_parts _ _ formed).0).0 in
    (and_parts (nat_lt 0 (length part)) (list_all is_pattern_byte part) prefix).1

some_bytes : (part : List ℕ) → is_pattern_component part ≡ true → 0 < length part
some_bytes part formed =
    let prefix = (and_parts _ _ (and_parts _ _ formed).0).0 in
    ltb-true 0 (length part) (and_parts (nat_lt 0 (length part)) (list_all is_pattern_byte part) prefix).0

-- a text whose first byte isn't a slash
record StartsPlain (text : List ℕ) : Type 0 where
  byte : ℕ
  rest : List ℕ
  is : text ≡ byte ∷ rest
  other : byte ≢ 47

starts_plain : (component : List ℕ) (pattern : Pattern) → list_all is_pattern_component (component ∷ pattern) ≡ true → StartsPlain (join_with_byte 47 (component ∷ pattern))
starts_plain [] pattern formed = absurd (let some = some_bytes [] (and_parts (is_pattern_component []) (list_all is_pattern_component pattern) formed).0 in omega arith)
starts_plain (byte ∷ bytes) [] formed = record {
  byte = byte;
  rest = bytes;
  is = refl;
  other = none_of 47 is_pattern_byte (byte ∷ bytes) refl (formed_bytes (byte ∷ bytes) (and_parts (is_pattern_component (byte ∷ bytes)) true formed).0) 0 (omega arith);
}
starts_plain (byte ∷ bytes) (next ∷ pattern) formed = record {
  byte = byte;
  rest = bytes ++ 47 ∷ join_with_byte 47 (next ∷ pattern);
  is = refl;
  other = none_of 47 is_pattern_byte (byte ∷ bytes) refl (formed_bytes (byte ∷ bytes) (and_parts (is_pattern_component (byte ∷ bytes)) (list_all is_pattern_component (next ∷ pattern)) formed).0) 0 (omega arith);
}

joined_components : (component : List ℕ) (pattern : Pattern) → list_all is_pattern_component (component ∷ pattern) ≡ true → parts_at 47 (join_with_byte 47 (component ∷ pattern)) ≡ component ∷ pattern
joined_components component pattern formed =
    parts-joined_by 47 is_pattern_byte component pattern refl (list_all-weaker is_pattern_component (list_all is_pattern_byte) (component ∷ pattern) formed_bytes formed)

components-text : (pattern : Pattern) → list_all is_pattern_component pattern ≡ true → components (pattern_text pattern) ≡ pattern
components-text [] formed = components-root
components-text (component ∷ pattern) formed =
    let starts = starts_plain component pattern formed in
    let plain : components (join_with_byte 47 (component ∷ pattern)) ≡ parts_at 47 (join_with_byte 47 (component ∷ pattern)) = rw starts.is (components-byte starts.byte starts.rest starts.other) in
    plain ∙ joined_components component pattern formed

components-slashed : (pattern : Pattern) → pattern ≢ [] → list_all is_pattern_component pattern ≡ true → components (47 ∷ pattern_text pattern) ≡ pattern
components-slashed [] some formed = absurd (some refl)
components-slashed (component ∷ pattern) some formed =
    let starts = starts_plain component pattern formed in
    let plain : components (47 ∷ join_with_byte 47 (component ∷ pattern)) ≡ parts_at 47 (join_with_byte 47 (component ∷ pattern)) = rw starts.is (components-slash starts.byte starts.rest) in
    plain ∙ joined_components component pattern formed

-- ---- a text that spells a pattern

pub spelled_components : (text : List ℕ) (pattern : Pattern) → list_all is_pattern_component pattern ≡ true → SpellsPattern text pattern → components text ≡ pattern
spelled_components text pattern formed spells = ⊎_elim
    (λ own. ap components own ∙ components-text pattern formed)
    (λ suffix. ap components suffix.1 ∙ components-slashed pattern suffix.0 formed)
    spells

pattern_text-parts : (parts : List (List ℕ)) → HasFirst parts → pattern_text parts ≡ join_with_byte 47 parts
pattern_text-parts [] has = absurd (cc (has.2))
pattern_text-parts (part ∷ parts) has = refl

parts_some : (parts : List (List ℕ)) → HasFirst parts → parts ≢ []
parts_some parts has is = let first = has.2 in absurd cc

pub spells_parts : (bytes : List ℕ) → pattern_text (parts_at 47 bytes) ≡ bytes
spells_parts bytes = pattern_text-parts (parts_at 47 bytes) (first_part 47 bytes) ∙ joined_by-parts 47 bytes

-- a text that is a pattern spells its components
spells_slashed : (byte : ℕ) (bytes : List ℕ) → SpellsPattern (47 ∷ byte ∷ bytes) (components (47 ∷ byte ∷ bytes))
spells_slashed byte bytes =
    rw (components-slash byte bytes) (inr (parts_some (parts_at 47 (byte ∷ bytes)) (first_part 47 (byte ∷ bytes)), ap (λ bs. 47 ∷ bs) (sym (spells_parts (byte ∷ bytes)))))

spells_first : (first : ℕ) (bytes : List ℕ) → first ≡ 47 → SpellsPattern (first ∷ bytes) (components (first ∷ bytes))
spells_first first [] is = inl (rw (is, components-root) refl)
spells_first first (byte ∷ bytes) is = subst (λ (b : ℕ). SpellsPattern (b ∷ byte ∷ bytes) (components (b ∷ byte ∷ bytes))) (sym is) (spells_slashed byte bytes)

no_text : is_pattern [] ≡ true → ⊥
unfolding components parts_at
no_text formed = absurd cc

pub spells_components : (text : List ℕ) → is_pattern text ≡ true → SpellsPattern text (components text)
spells_components [] formed = absurd (no_text formed)
spells_components (byte ∷ bytes) formed = ⊎_elim
    (λ is. spells_first byte bytes is)
    (λ other. rw (components-byte byte bytes other) (inl (sym (spells_parts (byte ∷ bytes)))))
    (cases_eq byte 47)
