-- Proofs that different spellings give the same command.
use Rattle.std.proofs.Common.{◌≡◌, ◌≢◌, ℕ, ◌∷◌, ◌++◌, ◌||◌, ◌∙◌, List, [], Bool, true, false}
use Rattle.std.proofs.Common.{Option, Some, None, length, refl, sym, ap, subst, true≢false}
use Rattle.std.proofs.Common.{arith, if◌then◌else◌}
use Rattle.std.proofs.Math.Seq.{take-append_seam, take-length, drop-append-add}
use Rattle.std.specs.Prelude.{codes, is_some, ⊤}
use Rattle.std.specs.List.{list_any, position_or_len, before_first, after_first}
use Rattle.std.specs.Str.{bytes_eq}
use Rattle.std.proofs.lemmas.Slice.Eq.{bytes_eq-Decides}
use Rattle.psi_base.specs.OptionSteps.{◌>>=◌}
use Rattle.run_spec.specs.Words.{Word, assigned, opened, end, plain, unknown, is_dashed}
use Rattle.run_spec.specs.Words.{is_among, is_equals, option_of, word_of, ParsedWords, option_value}
use Rattle.run_spec.specs.Words.{with_option, with_positional, WordState, at_word, at_value, suffix, by_word, parsed_from}
use Rattle.run_spec.specs.Laws.{assigned_word}
use Rattle.run_spec.specs.Laws.{HasNoEquals}

-- ---- texts

pub same_text : (xs ys : List ℕ) → bytes_eq xs ys ≡ true → xs ≡ ys
same_text xs ys is = (bytes_eq-Decides xs ys).0 is

pub text_itself : (xs : List ℕ) → bytes_eq xs xs ≡ true
text_itself xs = (bytes_eq-Decides xs xs).1 refl

pub other_text : (xs ys : List ℕ) → xs ≢ ys → bytes_eq xs ys ≡ false
other_text xs ys differ = go (bytes_eq xs ys) (same_text xs ys)
  where
    go : (b : Bool) → (b ≡ true → xs ≡ ys) → b ≡ false
    go true same = absurd (differ (same refl))
    go false same = refl

pub or_false : (a b : Bool) → a || b ≡ false → (a ≡ false) × (b ≡ false)
or_false false b is = (refl, is)
or_false true b is = absurd (true≢false is)

-- in `name=value` the first `=` is at the end of the name, if the name contains no `=`
first_equals : (name value : List ℕ) → HasNoEquals name
    → position_or_len is_equals (name ++ 61 ∷ value) ≡ length name
first_equals [] value none = refl
first_equals (byte ∷ name) value none =
    let both = or_false (is_equals byte) (list_any is_equals name) none in
    let rest = first_equals name value both.1 in
    rw (both.0, rest) (omega arith)

no_equals : (name : List ℕ) → HasNoEquals name → position_or_len is_equals name ≡ length name
no_equals [] none = refl
no_equals (byte ∷ name) none =
    let both = or_false (is_equals byte) (list_any is_equals name) none in
    let rest = no_equals name both.1 in
    rw (both.0, rest) (omega arith)

name_before : (name value : List ℕ) → HasNoEquals name
    → before_first is_equals (name ++ 61 ∷ value) ≡ name
name_before name value none = rw (first_equals name value none) (take-append_seam name (61 ∷ value))

value_after : (name value : List ℕ) → HasNoEquals name
    → after_first is_equals (name ++ 61 ∷ value) ≡ value
value_after name value none =
    rw (first_equals name value none) (drop-append-add name (61 ∷ value) 1)

has_equals : (name value : List ℕ) → list_any is_equals (name ++ 61 ∷ value) ≡ true
has_equals [] value = refl
has_equals (byte ∷ name) value = rw (has_equals name value) (or_true (is_equals byte))
  where
    or_true : (b : Bool) → b || true ≡ true
    or_true true = refl
    or_true false = refl

pub name_alone : (name : List ℕ) → HasNoEquals name → before_first is_equals name ≡ name
name_alone name none = rw (no_equals name none) (take-length name)

-- ---- the word of an option

longer : (name rest : List ℕ) (byte : ℕ)
    → bytes_eq (codes "--" ++ (name ++ byte ∷ rest)) (codes "--") ≡ false
longer [] rest byte = refl
longer (first ∷ name) rest byte = refl

-- the kind of the word `--name=value`: `known` says if the name is an option of the command
abbrev pub assigned_among : Bool → List ℕ → List ℕ → Word
assigned_among known name value = if known then assigned name value else unknown

option_is : (names : List (List ℕ)) (name value : List ℕ) → HasNoEquals name
    → option_of names (name ++ 61 ∷ value) ≡ assigned_among (is_among name names) name value
option_is names name value none = go (is_among name names) refl
  where
    go : (b : Bool) → is_among name names ≡ b
        → option_of names (name ++ 61 ∷ value) ≡ assigned_among b name value
    go true is =
        rw (name_before name value none, is, has_equals name value, value_after name value none)
        refl
    go false is = rw (name_before name value none, is) refl

pub assigned_is : (names : List (List ℕ)) (name value : List ℕ) → HasNoEquals name
    → word_of names (assigned_word name value) ≡ assigned_among (is_among name names) name value
assigned_is names name value none = rw (longer name value 61) (option_is names name value none)

-- ---- parsed words with the same content

-- two parses have the same content: each option has the same value in both, and so does the
-- positional argument
pub record SaysSame (one other : ParsedWords) : Type 0 where
  pub values : (name : List ℕ) → option_value name one ≡ option_value name other
  pub positional : one.positional ≡ other.positional

-- both parses fail, or both succeed with the same content
abbrev pub Same : Option ParsedWords → Option ParsedWords → Type 0
Same None None = ⊤
Same None (Some other) = ⊥
Same (Some one) None = ⊥
Same (Some one) (Some other) = SaysSame one other

same_itself : (r : Option ParsedWords) → Same r r
same_itself None = tt
same_itself (Some parsed) = record { values = λ name. refl; positional = refl }

pub same_if : (one other : Option ParsedWords) → one ≡ other → Same one other
same_if one other is = subst (Same one) is (same_itself one)

value_under : (name value key : List ℕ) (parsed : ParsedWords) (b : Bool) → bytes_eq name key ≡ b
    → option_value key (record parsed { options = (name, value) ∷ parsed.options })
    ≡ (if b then Some value else option_value key parsed)
value_under name value key parsed true is = rw is refl
value_under name value key parsed false is = rw is refl

same_more : (name value : List ℕ) (one other : ParsedWords) → SaysSame one other
    → SaysSame (record one { options = (name, value) ∷ one.options })
    (record other { options = (name, value) ∷ other.options })
same_more name value one other same = record {
  values = λ key. value_under name value key one (bytes_eq name key) refl
      ∙ (ap (λ v. if bytes_eq name key then Some value else v) (same.values key)
      ∙ sym (value_under name value key other (bytes_eq name key) refl));
  positional = same.positional;
}

with_option_same : (name value : List ℕ) (r s : Option ParsedWords) → Same r s
    → Same (r >>= with_option name value) (s >>= with_option name value)
with_option_same name value None None same = tt
with_option_same name value None (Some other) same = absurd same
with_option_same name value (Some one) None same = absurd same
with_option_same name value (Some one) (Some other) same =
    go (is_some (option_value name one)) refl (sym (ap is_some (same.values name)))
  where
    go : (b : Bool) → is_some (option_value name one) ≡ b
        → is_some (option_value name other) ≡ is_some (option_value name one)
        → Same (with_option name value one) (with_option name value other)
    go true is is_other = rw (is_other, is) tt
    go false is is_other = rw (is_other, is) (same_more name value one other same)

with_positional_same : (word : List ℕ) (r s : Option ParsedWords) → Same r s
    → Same (r >>= with_positional word) (s >>= with_positional word)
with_positional_same word None None same = tt
with_positional_same word None (Some other) same = absurd same
with_positional_same word (Some one) None same = absurd same
with_positional_same word (Some one) (Some other) same =
    go (is_some one.positional) refl (sym (ap is_some same.positional))
  where
    go : (b : Bool) → is_some one.positional ≡ b → is_some other.positional ≡ is_some one.positional
        → Same (with_positional word one) (with_positional word other)
    go true is is_other = rw (is_other, is) tt
    go false is is_other = rw (is_other, is) (record { values = same.values; positional = refl })

-- two options with different names may be added in either order
swapped : (name value other another : List ℕ) → name ≢ other → (r : Option ParsedWords)
    → Same ((r >>= with_option other another) >>= with_option name value)
    ((r >>= with_option name value) >>= with_option other another)
swapped name value other another differ None = tt
swapped name value other another differ (Some parsed) =
    go (is_some (option_value name parsed)) (is_some (option_value other parsed)) refl refl
  where
    first : (bytes_eq name other ≡ false)
    first = other_text name other differ

    second : (bytes_eq other name ≡ false)
    second = other_text other name (λ is. differ (sym is))

    go : (b d : Bool) → is_some (option_value name parsed) ≡ b → is_some (option_value other parsed) ≡ d
        → Same (with_option other another parsed >>= with_option name value)
        (with_option name value parsed >>= with_option other another)
    go true true is is_other = rw (is, is_other) tt
    go true false is is_other = rw (is, is_other, second, is) tt
    go false true is is_other = rw (is, is_other, first, is_other) tt
    go false false is is_other =
        rw (is, is_other, first, second, is, is_other)
        (record {
          values = λ key. both key (bytes_eq name key) (bytes_eq other key) refl refl;
          positional = refl;
        })
      where
        both : (key : List ℕ) (b d : Bool) → bytes_eq name key ≡ b → bytes_eq other key ≡ d
            → option_value key (record parsed {
              options = (name, value) ∷ (other, another) ∷
                  parsed.options;
            }) ≡ option_value key
            (record parsed { options = (other, another) ∷ (name, value) ∷ parsed.options })
        both key true true is_name is_other =
            absurd (differ (same_text name key is_name ∙ sym (same_text other key is_other)))
        both key true false is_name is_other = rw (is_name, is_other) refl
        both key false true is_name is_other = rw (is_name, is_other) refl
        both key false false is_name is_other = rw (is_name, is_other) refl

-- ---- two options in either order

-- two positional arguments are rejected
two_positionals : (one other : List ℕ) (r : Option ParsedWords)
    → (r >>= with_positional other) >>= with_positional one ≡ None
two_positionals one other None = refl
two_positionals one other (Some parsed) = go (is_some parsed.positional) refl
  where
    go : (b : Bool) → is_some parsed.positional ≡ b
        → with_positional other parsed >>= with_positional one ≡ None
    go true is = rw is refl
    go false is = rw is refl

both_positional : (one other : List ℕ) (r : Option ParsedWords)
    → (r >>= with_positional other) >>= with_positional one
    ≡ (r >>= with_positional one) >>= with_positional other
both_positional one other r = two_positionals one other r ∙ sym (two_positionals other one r)

abbrev SameFrom : List (List ℕ) → List (List ℕ) → List (List ℕ) → Type 0
SameFrom names one other = (word_state : WordState) → Same (parsed_from names word_state one) (parsed_from names word_state other)

none_waits : (names : List (List ℕ)) (name word : List ℕ) (rest : List (List ℕ))
    → is_dashed word ≡ true → parsed_from names (at_value name) (word ∷ rest) ≡ None
none_waits names name word rest dashed = rw dashed refl

-- two adjacent options, known or unknown, may be swapped at the beginning of the words
options_either : (names after : List (List ℕ)) (name value other another : List ℕ) (b d : Bool)
    → name ≢ other
    → word_of names (assigned_word name value) ≡ assigned_among b name value
    → word_of names (assigned_word other another) ≡ assigned_among d other another
    → Same (parsed_from names at_word (assigned_word name value ∷ assigned_word other another ∷ after))
    (parsed_from names at_word (assigned_word other another ∷ assigned_word name value ∷ after))
options_either names after name value other another true true differ is is_other =
    rw (is, is_other, is) (swapped name value other another differ (parsed_from names at_word after))
options_either names after name value other another true false differ is is_other =
    rw (is, is_other) tt
options_either names after name value other another false true differ is is_other =
    rw (is_other, is) tt
options_either names after name value other another false false differ is is_other =
    rw (is, is_other) tt

-- if two lists of words have the same content, they still do after the same word is put before both
word_either : (names : List (List ℕ)) (word : List ℕ) (one other : List (List ℕ))
    → SameFrom names one other → SameFrom names (word ∷ one) (word ∷ other)
word_either names word one other same (at_value name) = go (is_dashed word)
  where
    go : (b : Bool) → Same (if b then None else parsed_from names at_word one >>= with_option name word)
        (if b then None else parsed_from names at_word other >>= with_option name word)
    go true = tt
    go false =
        with_option_same name word (parsed_from names at_word one) (parsed_from names at_word other)
        (same at_word)
word_either names word one other same suffix =
    with_positional_same word (parsed_from names suffix one) (parsed_from names suffix other) (same suffix)
word_either names word one other same at_word = go (word_of names word)
  where
    go : (w : Word) → Same (by_word w word (λ word_state. parsed_from names word_state one))
        (by_word w word (λ word_state. parsed_from names word_state other))
    go (assigned name value) =
        with_option_same name value (parsed_from names at_word one) (parsed_from names at_word other)
        (same at_word)
    go (opened name) = same (at_value name)
    go end = same suffix
    go plain =
        with_positional_same word (parsed_from names at_word one) (parsed_from names at_word other)
        (same at_word)
    go unknown = tt

pub all_either : (names before after : List (List ℕ)) (name value other another : List ℕ)
    → HasNoEquals name → HasNoEquals other → name ≢ other
    → SameFrom names (before ++ assigned_word name value ∷ assigned_word other another ∷ after)
    (before ++ assigned_word other another ∷ assigned_word name value ∷ after)
all_either names [] after name value other another none none_other differ at_word =
    options_either names after name value other another (is_among name names) (is_among other names)
    differ (assigned_is names name value none) (assigned_is names other another none_other)
all_either names [] after name value other another none none_other differ (at_value waiting) = tt
all_either names [] after name value other another none none_other differ suffix =
    let one = assigned_word name value in
    let two = assigned_word other another in
    let rest = parsed_from names suffix after in
    same_if ((rest >>= with_positional two) >>= with_positional one)
    ((rest >>= with_positional one) >>= with_positional two) (both_positional one two rest)
all_either names (word ∷ before) after name value other another none none_other differ word_state =
    word_either names word
    (before ++ assigned_word name value ∷ assigned_word other another ∷ after)
    (before ++ assigned_word other another ∷ assigned_word name value ∷ after)
    (all_either names before after name value other another none none_other differ) word_state
