-- Proofs that patterns are parsed from exactly the texts that spell them.
use Rattle.std.proofs.Common.{◌≡◌, ℕ, suc, ◌≤◌, List, [], ◌∷◌, length, refl, sym, ap, ◌∙◌, arith, Bool, true, inl, ⊎_elim}
use Rattle.std.specs.Prelude.{◌==◌, ◌||◌, nat_le, if◌then◌else◌, map, Ok, Err, All}
use Rattle.std.specs.List.{join_with_byte, list_all, zip}
use Rattle.std.proofs.lemmas.Bool.{and_parts, and_from, or_left, le-leb}
use Rattle.std.proofs.lemmas.List.{length-map}
use Rattle.psi_base.specs.Path.{parts_at}
use Rattle.path_match.specs.declared.fault.PatternFault.TheVariants.{BadPattern, TooMany}
use Rattle.path_match.specs.Match.{Pattern, components, is_pattern, is_pattern_byte, is_pattern_component, pattern_text, patterns_text, patterns_of}
use Rattle.path_match.specs.Answers.{ArePatterns}
use Rattle.path_match.specs.Laws.{SpellsPattern, SpellsEach, ReadsPatterns, ReadAgain}
use Rattle.path_match.proofs.JoinedParts.{joined_by-parts, list_all-join, list_all-map, list_all-weaker, parts-joined_by}
use Rattle.path_match.proofs.MatchLaws.{all_cons}
use Rattle.path_match.proofs.PatternLaws.{formed_bytes, read_if, reads_patterns, spelled_components, spells_components}

-- ---- the text of a pattern has no comma

-- a byte that the text of a pattern may contain
abbrev pub is_text_byte : ℕ → Bool
is_text_byte c = is_pattern_byte c || c == 47

formed_text : (pattern : Pattern) → list_all is_pattern_component pattern ≡ true → list_all is_text_byte (pattern_text pattern) ≡ true
formed_text [] formed = refl
formed_text (component ∷ pattern) formed =
    list_all-join 47 is_text_byte (component ∷ pattern) refl
    (list_all-weaker is_pattern_component (list_all is_text_byte) (component ∷ pattern)
    (λ part good. list_all-weaker is_pattern_byte is_text_byte part (λ c known. or_left (is_pattern_byte c) (c == 47) known) (formed_bytes part good)) formed)

spelled_text : (text : List ℕ) (pattern : Pattern) → list_all is_pattern_component pattern ≡ true → SpellsPattern text pattern → list_all is_text_byte text ≡ true
spelled_text text pattern formed spells = ⊎_elim
    (λ own. rw own (formed_text pattern formed))
    (λ suffix. rw suffix.1 (formed_text pattern formed))
    spells

-- ---- parts that spell patterns

-- the same number of parts as of patterns, and each part spells its pattern
abbrev pub SpellAll : List (List ℕ) → List Pattern → Type 0
SpellAll parts patterns = (length parts ≡ length patterns) × All (λ pair. SpellsPattern pair.0 pair.1) (zip parts patterns)

all_after : (part : List ℕ) (parts : List (List ℕ)) (pattern : Pattern) (patterns : List Pattern) → SpellAll (part ∷ parts) (pattern ∷ patterns) → SpellAll parts patterns
all_after part parts pattern patterns all = (omega (arith, all.0), λ k d below. all.1 (suc k) d (omega arith))

all_components : (parts : List (List ℕ)) (patterns : List Pattern) → SpellAll parts patterns → list_all (λ pattern. list_all is_pattern_component pattern) patterns ≡ true → map components parts ≡ patterns
all_components [] [] all formed = refl
all_components [] (pattern ∷ patterns) all formed = absurd (omega (arith, all.0))
all_components (part ∷ parts) [] all formed = absurd (omega (arith, all.0))
all_components (part ∷ parts) (pattern ∷ patterns) all formed =
    let both = and_parts (list_all is_pattern_component pattern) (list_all (λ p. list_all is_pattern_component p) patterns) formed in
    let first = spelled_components part pattern both.0 (all.1 0 (part, pattern) (omega arith)) in
    let rest = all_components parts patterns (all_after part parts pattern patterns all) both.1 in cc

all_texts : (parts : List (List ℕ)) (patterns : List Pattern) → SpellAll parts patterns → list_all (λ pattern. list_all is_pattern_component pattern) patterns ≡ true → list_all (list_all is_text_byte) parts ≡ true
all_texts [] [] all formed = refl
all_texts [] (pattern ∷ patterns) all formed = absurd (omega (arith, all.0))
all_texts (part ∷ parts) [] all formed = absurd (omega (arith, all.0))
all_texts (part ∷ parts) (pattern ∷ patterns) all formed =
    let both = and_parts (list_all is_pattern_component pattern) (list_all (λ p. list_all is_pattern_component p) patterns) formed in
    and_from (list_all is_text_byte part) (list_all (list_all is_text_byte) parts)
    (spelled_text part pattern both.0 (all.1 0 (part, pattern) (omega arith)))
    (all_texts parts patterns (all_after part parts pattern patterns all) both.1)

-- parts that are patterns spell their components
each_spells : (parts : List (List ℕ)) → list_all is_pattern parts ≡ true → All (λ pair. SpellsPattern pair.0 pair.1) (zip parts (map components parts))
each_spells [] good = λ k d below. absurd (omega arith)
each_spells (part ∷ parts) good =
    let both = and_parts (is_pattern part) (list_all is_pattern parts) good in
    let P : List ℕ × Pattern → Type 0 = λ pair. SpellsPattern pair.0 pair.1 in
    all_cons P (part, components part) (zip parts (map components parts)) (spells_components part both.0) (each_spells parts both.1)

-- ---- parsed patterns

read_from : {A : Type 0} (good few : Bool) (all : A) → good ≡ true → few ≡ true → (if good then (if few then Ok all else Err TooMany) else Err BadPattern) ≡ Ok all
read_from good few all is_good is_few = rw (is_good, is_few) refl

parts_read : (text : List ℕ) (parts : List (List ℕ)) (patterns : List Pattern) → parts_at 44 text ≡ parts → list_all is_pattern parts ≡ true → length parts ≤ 16 → map components parts ≡ patterns → patterns_of text ≡ Ok patterns
unfolding patterns_of
parts_read text parts patterns are good few all =
    rw are (read_from (list_all is_pattern parts) (nat_le (length parts) 16) (map components parts) good (le-leb (length parts) 16 few) ∙ ap Ok all)

spelled_read : (text : List ℕ) (parts : List (List ℕ)) (patterns : List Pattern) → ArePatterns patterns → text ≡ join_with_byte 44 parts → SpellAll parts patterns → patterns_of text ≡ Ok patterns
spelled_read text [] patterns are joined all = absurd (omega (arith, are.some, all.0))
spelled_read text (part ∷ parts) patterns are joined all =
    let same = all_components (part ∷ parts) patterns all are.formed in
    let good : list_all is_pattern (part ∷ parts) ≡ true = sym (list_all-map (λ p. list_all is_pattern_component p) components (part ∷ parts)) ∙ ap (list_all (λ p. list_all is_pattern_component p)) same ∙ are.formed in
    parts_read text (part ∷ parts) patterns
    (ap (parts_at 44) joined ∙ parts-joined_by 44 is_text_byte part parts refl (all_texts (part ∷ parts) patterns all are.formed))
    good (omega (arith, all.0, are.few)) same

read_spells : (text : List ℕ) (patterns : List Pattern) → patterns_of text ≡ Ok patterns → SpellsEach text patterns
unfolding patterns_of
read_spells text patterns is =
    let parts = parts_at 44 text in
    let read = read_if (list_all is_pattern parts) (nat_le (length parts) 16) (map components parts) patterns is in
    record {
      parts = parts;
      joined = sym (joined_by-parts 44 text);
      as_many = sym (length-map parts components) ∙ ap length (sym read.2);
      each = rw read.2 (each_spells parts read.0);
    }

pub reads_spelled : ReadsPatterns
reads_spelled text patterns = (
  λ is. (reads_patterns text patterns is, read_spells text patterns is),
  λ both. spelled_read text both.1.parts patterns both.0 both.1.joined (both.1.as_many, both.1.each),
)

own_texts : (patterns : List Pattern) → All (λ pair. SpellsPattern pair.0 pair.1) (zip (map pattern_text patterns) patterns)
own_texts [] = λ k d below. absurd (omega arith)
own_texts (pattern ∷ patterns) =
    let P : List ℕ × Pattern → Type 0 = λ pair. SpellsPattern pair.0 pair.1 in
    all_cons P (pattern_text pattern, pattern) (zip (map pattern_text patterns) patterns) (inl refl) (own_texts patterns)

pub read_again : ReadAgain
read_again patterns are = spelled_read (patterns_text patterns) (map pattern_text patterns) patterns are refl (length-map patterns pattern_text, own_texts patterns)
