-- Proofs that splitting the words as `clap` does gives the meaning that the definition gives. A
-- *part* is an option with its value, or a positional argument.
use Rattle.std.proofs.Common.{◌≡◌, ℕ, ◌++◌, ◌∷◌, ◌==◌, ◌&&◌, ◌||◌, List, [], Bool, true, false, not}
use Rattle.std.proofs.Common.{Option, Some, None, map, nat_eq, refl, sym, ap, ◌∙◌, subst}
use Rattle.std.proofs.Common.{true≢false, arith, if◌then◌else◌}
use Rattle.std.specs.Prelude.{⊤, codes, is_some}
use Rattle.std.specs.Str.{bytes_eq}
use Rattle.std.specs.List.{list_all, list_any, before_first}
use Rattle.clap.specs.Lexer.{long_of, name_and_value}
use Rattle.psi_base.specs.OptionSteps.{◌>>=◌}
use Rattle.run_spec.specs.Words.{Word, assigned, opened, unknown, is_among, is_dashed}
use Rattle.run_spec.specs.Words.{is_equals, option_of, word_of, ParsedWords, nothing, option_value}
use Rattle.run_spec.specs.Words.{with_option, with_positional, at_word, at_value, suffix, by_word, parsed_from}
use Rattle.psi_words.specs.Clap.{positional_id}
use Rattle.psi_words.proofs.Parts.{Part, parsed, plain, id_of, then_part, then_long, parts, has_part}
use Rattle.psi_words.proofs.Parts.{fits, judged}
use Rattle.psi_words.proofs.Finding.{same_text, text_itself}
use Rattle.psi_words.proofs.Reading.{has_after, not_positional}

-- ---- one word

-- the kind of a word that begins with `--`, given its name and value
abbrev pub word_by : List (List ℕ) → Option (List ℕ × Option (List ℕ)) → Word
word_by names None = unknown
word_by names (Some (name, None)) = if is_among name names then opened name else unknown
word_by names (Some (name, Some value)) =
    if is_among name names then assigned name value else unknown

option_agrees : (names : List (List ℕ)) (text : List ℕ)
    → option_of names text ≡ word_by names (Some (name_and_value text))
option_agrees names text =
    go (is_among (before_first is_equals text) names) (list_any is_equals text) refl refl
  where
    go : (b d : Bool) → is_among (before_first is_equals text) names ≡ b
        → list_any is_equals text ≡ d
        → option_of names text ≡ word_by names (Some (name_and_value text))
    go true true known has = rw (known, has, known) refl
    go true false known has = rw (known, has, known) refl
    go false true known has = rw (known, has, known) refl
    go false false known has = rw (known, has, known) refl

is_45 : (x : ℕ) → (x == 45) ≡ true → x ≡ 45
is_45 x is = grind arith

not_45 : (x : ℕ) → (x == 45) ≡ false → nat_eq 45 x ≡ false
not_45 x is = grind arith

-- the meaning of the words after `--`
dashes_agree : (names : List (List ℕ)) (rest : List ℕ)
    → bytes_eq (45 ∷ 45 ∷ rest) (codes "--") ≡ false
    → word_of names (45 ∷ 45 ∷ rest) ≡ word_by names (long_of (45 ∷ 45 ∷ rest))
dashes_agree names [] other = absurd (true≢false other)
dashes_agree names (z ∷ zs) other = option_agrees names (z ∷ zs)

dash_agrees : (names : List (List ℕ)) (y : ℕ) (rest : List ℕ) (b : Bool) → (y == 45) ≡ b
    → bytes_eq (45 ∷ y ∷ rest) (codes "--") ≡ false
    → word_of names (45 ∷ y ∷ rest) ≡ word_by names (long_of (45 ∷ y ∷ rest))
dash_agrees names y rest false is other = rw (is, not_45 y is) refl
dash_agrees names y rest true is other =
    subst (λ k. bytes_eq (45 ∷ k ∷ rest) (codes "--") ≡ false
    → word_of names (45 ∷ k ∷ rest) ≡ word_by names (long_of (45 ∷ k ∷ rest)))
    (sym (is_45 y is)) (dashes_agree names rest) other

pub word_agrees : (names : List (List ℕ)) (word : List ℕ) → is_dashed word ≡ true
    → bytes_eq word (codes "--") ≡ false → word_of names word ≡ word_by names (long_of word)
word_agrees names [] dashed other = absurd (true≢false (sym dashed))
word_agrees names (x ∷ []) dashed other = absurd (true≢false (sym dashed))
word_agrees names (x ∷ y ∷ rest) dashed other =
    subst (λ k. bytes_eq (k ∷ y ∷ rest) (codes "--") ≡ false
    → word_of names (k ∷ y ∷ rest) ≡ word_by names (long_of (k ∷ y ∷ rest)))
    (sym (is_45 x dashed)) (dash_agrees names y rest (y == 45) refl) other

-- ---- the meaning of parts

-- the meaning of parts that all have different ids
abbrev pub parsed_parts : List Part → ParsedWords
parsed_parts [] = nothing
parsed_parts (parsed name value ∷ ps) =
    record (parsed_parts ps) { options = (name, value) ∷ (parsed_parts ps).options }
parsed_parts (plain word ∷ ps) = record (parsed_parts ps) { positional = Some word }

-- all parts have different ids
abbrev pub are_apart : List Part → Bool
are_apart [] = true
are_apart (p ∷ ps) = not (has_part (id_of p) ps) && are_apart ps

-- the meaning of parts, or `None` if two have the same id
abbrev pub parts_say : List Part → Option ParsedWords
parts_say ps = if are_apart ps then Some (parsed_parts ps) else None

-- the options among the parts have names of the list
abbrev pub AreKnown : List (List ℕ) → List Part → Type 0
AreKnown names [] = ⊤
AreKnown names (parsed name value ∷ ps) = (is_among name names ≡ true) × AreKnown names ps
AreKnown names (plain word ∷ ps) = AreKnown names ps

-- a name of the list isn't the id of the positional argument
pub free_name : (names : List (List ℕ)) (name : List ℕ) → is_among positional_id names ≡ false
    → is_among name names ≡ true → bytes_eq name positional_id ≡ false
free_name names name free known =
    not_positional names name (bytes_eq name positional_id) refl known free

free_id : (names : List (List ℕ)) (name : List ℕ) → is_among positional_id names ≡ false
    → is_among name names ≡ true → bytes_eq positional_id name ≡ false
free_id names name free known = go (bytes_eq positional_id name) (same_text positional_id name)
  where
    go : (b : Bool) → (b ≡ true → positional_id ≡ name) → b ≡ false
    go true same =
        absurd (true≢false (sym known ∙ (ap (λ n. is_among n names) (sym (same refl)) ∙ free)))
    go false same = refl

option_under : (name value key : List ℕ) (g : ParsedWords) (b : Bool) → bytes_eq name key ≡ b
    → is_some (option_value key (record g { options = (name, value) ∷ g.options })) ≡ b
    || is_some (option_value key g)
option_under name value key g true is = rw is refl
option_under name value key g false is = rw is refl

pub has_option : (names : List (List ℕ)) (key : List ℕ) (ps : List Part)
    → is_among positional_id names ≡ false → is_among key names ≡ true
    → has_part key ps ≡ is_some (option_value key (parsed_parts ps))
has_option names key [] free known = refl
has_option names key (parsed name value ∷ ps) free known =
    ap (λ b. bytes_eq name key || b) (has_option names key ps free known)
    ∙ sym (option_under name value key (parsed_parts ps) (bytes_eq name key) refl)
has_option names key (plain word ∷ ps) free known =
    ap (λ b. b || has_part key ps) (free_id names key free known)
    ∙ has_option names key ps free known

pub has_plain : (names : List (List ℕ)) (ps : List Part) → is_among positional_id names ≡ false
    → AreKnown names ps → has_part positional_id ps ≡ is_some (parsed_parts ps).positional
has_plain names [] free known = refl
has_plain names (parsed name value ∷ ps) free known =
    ap (λ b. b || has_part positional_id ps) (free_name names name free known.0)
    ∙ has_plain names ps free known.1
has_plain names (plain word ∷ ps) free known = refl

say_option : (names : List (List ℕ)) (name value : List ℕ) (ps : List Part)
    → is_among positional_id names ≡ false → is_among name names ≡ true
    → parts_say (parsed name value ∷ ps) ≡ parts_say ps >>= with_option name value
say_option names name value ps free known =
    go (has_part name ps) (are_apart ps) refl refl (sym (has_option names name ps free known))
  where
    go : (b d : Bool) → has_part name ps ≡ b → are_apart ps ≡ d
        → is_some (option_value name (parsed_parts ps)) ≡ has_part name ps
        → parts_say (parsed name value ∷ ps) ≡ parts_say ps >>= with_option name value
    go true true has apart same = rw (has, apart, same, has) refl
    go true false has apart same = rw (has, apart) refl
    go false true has apart same = rw (has, apart, same, has) refl
    go false false has apart same = rw (has, apart) refl

say_plain : (names : List (List ℕ)) (word : List ℕ) (ps : List Part)
    → is_among positional_id names ≡ false → AreKnown names ps
    → parts_say (plain word ∷ ps) ≡ parts_say ps >>= with_positional word
say_plain names word ps free known =
    go (has_part positional_id ps) (are_apart ps) refl refl (sym (has_plain names ps free known))
  where
    go : (b d : Bool) → has_part positional_id ps ≡ b → are_apart ps ≡ d
        → is_some (parsed_parts ps).positional ≡ has_part positional_id ps
        → parts_say (plain word ∷ ps) ≡ parts_say ps >>= with_positional word
    go true true has apart same = rw (has, apart, same, has) refl
    go true false has apart same = rw (has, apart) refl
    go false true has apart same = rw (has, apart, same, has) refl
    go false false has apart same = rw (has, apart) refl

-- ---- the meaning of words

-- the parts have this meaning, and their options have names of the list
abbrev pub Agrees : List (List ℕ) → Option (List Part) → Option ParsedWords → Type 0
Agrees names None g = g ≡ None
Agrees names (Some ps) g = AreKnown names ps × (g ≡ parts_say ps)

agrees_option : (names : List (List ℕ)) (name value : List ℕ) (r : Option (List Part))
    (g : Option ParsedWords) → is_among positional_id names ≡ false → is_among name names ≡ true
    → Agrees names r g
    → Agrees names (then_part (parsed name value) r) (g >>= with_option name value)
agrees_option names name value None g free known same = ap (λ x. x >>= with_option name value) same
agrees_option names name value (Some ps) g free known same = (
  (known, same.0),
  ap (λ x. x >>= with_option name value) same.1
      ∙ sym (say_option names name value ps free known),
)

agrees_plain : (names : List (List ℕ)) (word : List ℕ) (r : Option (List Part)) (g : Option ParsedWords)
    → is_among positional_id names ≡ false → Agrees names r g
    → Agrees names (then_part (plain word) r) (g >>= with_positional word)
agrees_plain names word None g free same = ap (λ x. x >>= with_positional word) same
agrees_plain names word (Some ps) g free same = (
  same.0,
  ap (λ x. x >>= with_positional word) same.1
      ∙ sym (say_plain names word ps free same.0),
)

agrees_plainly : (names words : List (List ℕ)) → is_among positional_id names ≡ false
    → Agrees names (Some (map plain words)) (parsed_from names suffix words)
agrees_plainly names [] free = (tt, refl)
agrees_plainly names (word ∷ words) free =
    agrees_plain names word (Some (map plain words)) (parsed_from names suffix words) free
    (agrees_plainly names words free)

-- the words have the right meaning, also after an option that waits for its value
abbrev AllAgree : List (List ℕ) → List (List ℕ) → Type 0
AllAgree names words = Agrees names (parts names None words) (parsed_from names at_word words)
    × ((name : List ℕ) → is_among name names ≡ true
    → Agrees names (parts names (Some name) words) (parsed_from names (at_value name) words))

long_agrees : (names : List (List ℕ)) (word : List ℕ) (rest : List (List ℕ))
    (l : Option (List ℕ × Option (List ℕ))) → is_among positional_id names ≡ false
    → AllAgree names rest
    → Agrees names (then_long names l (λ waiting. parts names waiting rest))
    (by_word (word_by names l) word (λ word_state. parsed_from names word_state rest))
long_agrees names word rest None free more = refl
long_agrees names word rest (Some (name, None)) free more = go (is_among name names) refl
  where
    go : (b : Bool) → is_among name names ≡ b
        → Agrees names (if b then parts names (Some name) rest else None)
        (by_word (if b then opened name else unknown) word (λ word_state. parsed_from names word_state rest))
    go true known = more.1 name known
    go false known = refl
long_agrees names word rest (Some (name, Some value)) free more = go (is_among name names) refl
  where
    go : (b : Bool) → is_among name names ≡ b
        → Agrees names (if b then then_part (parsed name value) (parts names None rest) else None)
        (by_word (if b then assigned name value else unknown) word (λ word_state. parsed_from names word_state rest))
    go true known =
        agrees_option names name value (parts names None rest) (parsed_from names at_word rest) free known
        more.0
    go false known = refl

word_parts : (names : List (List ℕ)) (word : List ℕ) (rest : List (List ℕ)) (dashed ends : Bool)
    → is_dashed word ≡ dashed → bytes_eq word (codes "--") ≡ ends
    → is_among positional_id names ≡ false → AllAgree names rest
    → Agrees names (parts names None (word ∷ rest)) (parsed_from names at_word (word ∷ rest))
word_parts names word rest false ends is_dashed is_end free more =
    rw is_dashed (agrees_plain names word (parts names None rest) (parsed_from names at_word rest) free
    more.0)
word_parts names word rest true true is_dashed is_end free more =
    rw (is_dashed, is_end) (agrees_plainly names rest free)
word_parts names word rest true false is_dashed is_end free more =
    subst (λ w. Agrees names (parts names None (word ∷ rest))
    (by_word w word (λ word_state. parsed_from names word_state rest)))
    (sym (word_agrees names word is_dashed is_end))
    (rw (is_dashed, is_end) (long_agrees names word rest (long_of word) free more))

value_parts : (names : List (List ℕ)) (word : List ℕ) (rest : List (List ℕ)) (dashed : Bool)
    → is_dashed word ≡ dashed → is_among positional_id names ≡ false → AllAgree names rest
    → (name : List ℕ) → is_among name names ≡ true
    → Agrees names (parts names (Some name) (word ∷ rest))
    (parsed_from names (at_value name) (word ∷ rest))
value_parts names word rest true is_dashed free more name known = rw is_dashed refl
value_parts names word rest false is_dashed free more name known =
    rw is_dashed (agrees_option names name word (parts names None rest) (parsed_from names at_word rest)
    free known more.0)

pub all_agree : (names words : List (List ℕ)) → is_among positional_id names ≡ false
    → AllAgree names words
all_agree names [] free = ((tt, refl), λ name known. refl)
all_agree names (word ∷ rest) free =
    let more = all_agree names rest free in (
      word_parts names word rest (is_dashed word) (bytes_eq word (codes "--")) refl refl free more,
      value_parts names word rest (is_dashed word) refl free more,
    )

-- ---- the parts are accepted if their ids differ

same_both_ways : (xs ys : List ℕ) → bytes_eq xs ys ≡ bytes_eq ys xs
same_both_ways xs ys = go (bytes_eq xs ys) (bytes_eq ys xs) refl refl
  where
    go : (b d : Bool) → bytes_eq xs ys ≡ b → bytes_eq ys xs ≡ d → bytes_eq xs ys ≡ bytes_eq ys xs
    go true true one other = one ∙ sym other
    go true false one other =
        absurd (true≢false (sym (text_itself xs)
        ∙ (ap (λ t. bytes_eq t xs) (same_text xs ys one) ∙ other)))
    go false true one other =
        absurd (true≢false (sym (text_itself ys)
        ∙ (ap (λ t. bytes_eq t ys) (same_text ys xs other) ∙ one)))
    go false false one other = one ∙ sym other

-- no part has the id of an earlier part
abbrev are_new : List Part → List Part → Bool
are_new before ps = list_all (λ p. not (has_part (id_of p) before)) ps

new_again : (before : List Part) (p : Part) (ps : List Part)
    → are_new (before ++ p ∷ []) ps ≡ are_new before ps && not (has_part (id_of p) ps)
new_again before p [] = refl
new_again before p (q ∷ qs) =
    ap (λ b. not b && are_new (before ++ p ∷ []) qs) (has_after (id_of q) before p)
    ∙ (ap (λ b. not (has_part (id_of q) before || (b || false)) && are_new (before ++ p ∷ []) qs)
    (same_both_ways (id_of p) (id_of q))
    ∙ (ap (λ b. not (has_part (id_of q) before || (bytes_eq (id_of q) (id_of p) || false)) && b)
    (new_again before p qs)
    ∙ regroup (has_part (id_of q) before) (bytes_eq (id_of q) (id_of p)) (are_new before qs)
    (has_part (id_of p) qs)))
  where
    regroup : (a b d e : Bool)
        → not (a || (b || false)) && (d && not e) ≡ (not a && d) && not (b || e)
    regroup true b d e = refl
    regroup false true true e = refl
    regroup false true false e = refl
    regroup false false d e = refl

all_new : (ps : List Part) → are_new [] ps ≡ true
all_new [] = refl
all_new (p ∷ ps) = all_new ps

fits_is : (before ps : List Part) → fits before ps ≡ are_new before ps && are_apart ps
fits_is before [] = refl
fits_is before (p ∷ ps) =
    ap (λ b. not (has_part (id_of p) before) && b)
    (fits_is (before ++ p ∷ []) ps ∙ ap (λ b. b && are_apart ps) (new_again before p ps))
    ∙ regroup (not (has_part (id_of p) before)) (are_new before ps) (not (has_part (id_of p) ps))
    (are_apart ps)
  where
    regroup : (a b d e : Bool) → a && ((b && d) && e) ≡ (a && b) && (d && e)
    regroup true true d e = refl
    regroup true false d e = refl
    regroup false b d e = refl

apart_if : (ps : List Part) (b : Bool) → fits [] ps ≡ b → are_apart ps ≡ b
apart_if ps b is = ap (λ d. d && are_apart ps) (sym (all_new ps)) ∙ (sym (fits_is [] ps) ∙ is)

-- if the parts aren't accepted, the words have no meaning
pub refused_words : (names words : List (List ℕ)) → is_among positional_id names ≡ false
    → judged [] (parts names None words) ≡ false → parsed_from names at_word words ≡ None
refused_words names words free unfit =
    go (parts names None words) (all_agree names words free).0 unfit
  where
    go : (r : Option (List Part)) → Agrees names r (parsed_from names at_word words) → judged [] r ≡ false
        → parsed_from names at_word words ≡ None
    go None same unfit = same
    go (Some ps) same unfit =
        same.1 ∙ ap (λ b. if b then Some (parsed_parts ps) else None) (apart_if ps false unfit)

-- if the parts are accepted, the words have the meaning of the parts
pub accepted_words : (names words : List (List ℕ)) (ps : List Part)
    → is_among positional_id names ≡ false → parts names None words ≡ Some ps
    → judged [] (parts names None words) ≡ true
    → AreKnown names ps × (parsed_from names at_word words ≡ Some (parsed_parts ps))
accepted_words names words ps free are fit =
    let same : Agrees names (Some ps) (parsed_from names at_word words) =
    subst (λ r. Agrees names r (parsed_from names at_word words)) are (all_agree names words free).0 in
    let fits_now : fits [] ps ≡ true = sym (ap (judged []) are) ∙ fit in
    (same.0, same.1 ∙ ap (λ b. if b then Some (parsed_parts ps) else None) (apart_if ps true fits_now))
