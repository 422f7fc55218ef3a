-- Proofs that a command depends only on the content of its words, not on their spelling.
use Rattle.std.proofs.Common.{◌≡◌, ◌≢◌, ℕ, ◌∷◌, ◌++◌, List, [], Bool, true, false, not}
use Rattle.std.proofs.Common.{Option, Some, None, drop, refl, sym, ap, true≢false}
use Rattle.std.proofs.Common.{if◌then◌else◌}
use Rattle.std.specs.Prelude.{find, codes, is_some, nat_eq}
use Rattle.std.specs.List.{list_any, before_first, starts_with}
use Rattle.std.specs.Str.{bytes_eq}
use Rattle.run_spec.specs.declared.command.Command.{Command}
use Rattle.psi_base.specs.OptionSteps.{◌>>=◌}
use Rattle.run_spec.specs.Words.{Word, assigned, opened, end, plain, unknown, is_dashed}
use Rattle.run_spec.specs.Words.{is_among, is_equals, option_of, word_of, ParsedWords}
use Rattle.run_spec.specs.Words.{with_option, with_positional, at_word, at_value, by_word, parsed_from}
use Rattle.run_spec.specs.Words.{options_of, shape_of, stall_of, check_of, replay_of, gen_of}
use Rattle.run_spec.specs.Words.{stress_of, import_command_of, rules_command_of, whatif_of, CommandForm, forms, command_of}
use Rattle.run_spec.specs.Laws.{assigned_word}
use Rattle.run_spec.specs.Laws.{HasNoEquals, OrderIsFree, ValueMayFollow}
use Rattle.run_spec.proofs.RangeLaws.{OfEach, each_found}
use Rattle.run_spec.proofs.WordLaws.{or_false, name_alone, assigned_among, assigned_is, SaysSame, Same, same_if, all_either}

-- ---- the functions of commands depend only on the content

abbrev pub Respects : (ParsedWords → Option Command) → Type 0
Respects read = (one other : ParsedWords) → SaysSame one other → read one ≡ read other

stall_respects : Respects stall_of
unfolding stall_of
stall_respects one other same = rw (same.positional) refl

check_respects : Respects check_of
unfolding check_of
check_respects one other same = rw (same.positional, same.values (codes "tick-ms")) refl

options_respects : (one other : ParsedWords) → SaysSame one other → options_of one ≡ options_of other
unfolding options_of
options_respects one other same =
    rw (
      same.values (codes "rules"),
      same.values (codes "drop-in"),
      same.values (codes "tick-ms"),
      same.values
          (codes "interval-s"),
      same.values (codes "report-s"),
      same.values (codes "workers"),
      same.values (codes "live"),
      same.values (codes "live-count"),
    ) refl

replay_respects : Respects replay_of
unfolding replay_of
replay_respects one other same = rw (options_respects one other same, same.positional) refl

shape_respects : (one other : ParsedWords) → SaysSame one other → shape_of one ≡ shape_of other
unfolding shape_of
shape_respects one other same = go (is_some one.positional) refl (sym (ap is_some same.positional))
  where
    go : (b : Bool) → is_some one.positional ≡ b → is_some other.positional ≡ is_some one.positional
        → shape_of one ≡ shape_of other
    go true is is_other = rw (is_other, is) refl
    go false is is_other =
        rw (
          is_other,
          is,
          same.values (codes "seed"),
          same.values (codes "cpus"),
          same.values
              (codes "groups"),
          same.values (codes "events"),
        ) refl

gen_respects : Respects gen_of
unfolding gen_of
gen_respects one other same = rw (shape_respects one other same) refl

stress_respects : Respects stress_of
unfolding stress_of
stress_respects one other same =
    rw (shape_respects one other same, same.values (codes "workers")) refl

import_respects : Respects import_command_of
unfolding import_command_of
import_respects one other same = rw (same.positional, same.values (codes "cpus")) refl

rules_respects : Respects rules_command_of
unfolding rules_command_of
rules_respects one other same = rw (same.positional, same.values (codes "drop-in")) refl

whatif_respects : Respects whatif_of
unfolding whatif_of
whatif_respects one other same = rw (options_respects one other same, same.positional) refl

all_respect : OfEach Respects forms
all_respect =
    (stall_respects, (check_respects, (replay_respects, (gen_respects, (stress_respects, (import_respects, (rules_respects, (whatif_respects, tt))))))))

same_read : (read : ParsedWords → Option Command) (r s : Option ParsedWords) → Respects read → Same r s
    → r >>= read ≡ s >>= read
same_read read None None respects same = refl
same_read read None (Some other) respects same = absurd same
same_read read (Some one) None respects same = absurd same
same_read read (Some one) (Some other) respects same = respects one other same

-- the command's own word and the content of the words after it determine the command
same_command : (first : List ℕ) (one other : List (List ℕ))
    → ((names : List (List ℕ)) → Same (parsed_from names at_word one) (parsed_from names at_word other))
    → command_of (first ∷ one) ≡ command_of (first ∷ other)
unfolding command_of
same_command first one other same =
    go (find (λ (form : CommandForm). bytes_eq first form.word) forms) refl
  where
    go : (r : Option CommandForm) → find (λ (form : CommandForm). bytes_eq first form.word) forms ≡ r
        → (r >>= λ form. parsed_from form.options at_word one >>= λ parsed. form.command parsed)
        ≡ (r >>= λ form. parsed_from form.options at_word other >>= λ parsed. form.command parsed)
    go None is = refl
    go (Some form) is =
        same_read form.command (parsed_from form.options at_word one) (parsed_from form.options at_word other)
        (each_found Respects first forms form all_respect is)
        (same form.options)

pub order_is_free : OrderIsFree
unfolding command_of
order_is_free [] after name value other another none none_other differ = refl
order_is_free (first ∷ before) after name value other another none none_other differ =
    same_command first (before ++ assigned_word name value ∷ assigned_word other another ∷ after)
    (before ++ assigned_word other another ∷ assigned_word name value ∷ after)
    (λ names. all_either names before after name value other another none none_other differ at_word)

-- ---- a value as a word of its own

-- the kind of the word `--name`
opened_is : (names : List (List ℕ)) (name : List ℕ) → HasNoEquals name → name ≢ []
    → word_of names (codes "--" ++ name) ≡ (if is_among name names then opened name else unknown)
opened_is names [] none some = absurd (some refl)
opened_is names (byte ∷ name) none some = go (is_among (byte ∷ name) names) refl
  where
    go : (b : Bool) → is_among (byte ∷ name) names ≡ b
        → option_of names (byte ∷ name) ≡ (if b then opened (byte ∷ name) else unknown)
    go true is = rw (name_alone (byte ∷ name) none, is, none) refl
    go false is = rw (name_alone (byte ∷ name) none, is) refl

abbrev is_end : Word → Bool
is_end end = true
is_end _ = false

-- a word other than `--` doesn't have the kind `end`
not_end : (names : List (List ℕ)) (word : List ℕ) → bytes_eq word (codes "--") ≡ false
    → is_end (word_of names word) ≡ false
not_end names word other =
    rw other (go (is_dashed word) (starts_with nat_eq word (codes "--"))
    (is_among (before_first is_equals (drop 2 word)) names) (list_any is_equals (drop 2 word)) _
    _ _)
  where
    go : (a b d e : Bool) (name value text : List ℕ)
        → is_end (if not a then plain else if b then
        (if not d then unknown else if e then assigned name value else opened text) else
        unknown) ≡ false
    go false b d e name value text = refl
    go true false d e name value text = refl
    go true true false e name value text = refl
    go true true true true name value text = refl
    go true true true false name value text = refl

-- two lists of words parse to the same result, both before a word and before the value of an option
record IsEqual (names one other : List (List ℕ)) : Type 0 where
  word : parsed_from names at_word one ≡ parsed_from names at_word other
  value : (name : List ℕ) → parsed_from names (at_value name) one ≡ parsed_from names (at_value name) other

-- two lists that parse to the same result still do after the same word other than `--` is put
-- before both
word_equal : (names : List (List ℕ)) (word : List ℕ) (one other : List (List ℕ))
    → bytes_eq word (codes "--") ≡ false → IsEqual names one other
    → IsEqual names (word ∷ one) (word ∷ other)
word_equal names word one other differs same = record {
  word = go (word_of names word) (not_end names word differs);
  value = λ name. ap (λ r. if is_dashed word then None else r >>= with_option name word) same.word;
}
  where
    go : (w : Word) → is_end w ≡ false
        → by_word w word (λ word_state. parsed_from names word_state one)
        ≡ by_word w word (λ word_state. parsed_from names word_state other)
    go (assigned name value) is = ap (λ r. r >>= with_option name value) same.word
    go (opened name) is = same.value name
    go end is = absurd (true≢false is)
    go plain is = ap (λ r. r >>= with_positional word) same.word
    go unknown is = refl

value_here : (names after : List (List ℕ)) (name value : List ℕ) (b : Bool)
    → is_dashed value ≡ false
    → word_of names (assigned_word name value) ≡ assigned_among b name value
    → word_of names (codes "--" ++ name) ≡ (if b then opened name else unknown)
    → parsed_from names at_word (assigned_word name value ∷ after)
    ≡ parsed_from names at_word ((codes "--" ++ name) ∷ value ∷ after)
value_here names after name value true bare is is_opened = rw (is, is_opened, bare) refl
value_here names after name value false bare is is_opened = rw (is, is_opened) refl

dashed_name : (name : List ℕ) → is_dashed (codes "--" ++ name) ≡ true
dashed_name name = refl

value_after_all : (names before after : List (List ℕ)) (name value : List ℕ) → HasNoEquals name
    → name ≢ [] → is_dashed value ≡ false → is_among (codes "--") before ≡ false
    → IsEqual names (before ++ assigned_word name value ∷ after)
    (before ++ (codes "--" ++ name) ∷ value ∷ after)
value_after_all names [] after name value none some bare free = record {
  word = value_here names after name value (is_among name names) bare
      (assigned_is names name value none) (opened_is names name none some);
  value = λ waiting. refl;
}
value_after_all names (word ∷ before) after name value none some bare free =
    let both = or_false (bytes_eq word (codes "--")) (is_among (codes "--") before) free in
    word_equal names word _ _ both.0
    (value_after_all names before after name value none some bare both.1)

pub value_may_follow : ValueMayFollow
unfolding command_of
value_may_follow [] after name value none some bare free = refl
value_may_follow (first ∷ before) after name value none some bare free =
    let both = or_false (bytes_eq first (codes "--")) (is_among (codes "--") before) free in
    same_command first (before ++ assigned_word name value ∷ after)
    (before ++ (codes "--" ++ name) ∷ value ∷ after)
    (λ names. same_if _ _ (value_after_all names before after name value none some bare both.1).word)
