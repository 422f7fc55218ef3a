use Rattle.std.proofs.Common.{◌≡◌, ℕ, ◌++◌, ◌∷◌, ◌&&◌, List, [], Bool, true, false, Option, Some}
use Rattle.std.proofs.Common.{None, map, refl, sym, ap, ◌∙◌, subst, inl, inr, ◌≢◌, String}
use Rattle.std.proofs.Common.{string_bytes}
use Rattle.std.proofs.lemmas.Str.{is_utf8-from_IsUtf8, IsUtf8-string_bytes}
use Rattle.clap.specs.Kinds.{Kinds, HasKind}
use Rattle.clap.specs.Words.{kind_of, HasMatchesOf, rows_of, found_of, matches_of}
use Rattle.clap.specs.declared.error.Error.{Error}
use Rattle.clap.specs.declared.parser.matches.ArgMatches.{ArgMatches}
use Rattle.clap.specs.declared.error.kind.ErrorKind.TheVariants as kind
use Rattle.std.specs.List.{list_all, list_any}
use Rattle.clap.proofs.FaultLemmas.{leaf_fault}
use Rattle.clap.specs.Walk.{nothing_held, is_early_multiple}
use Rattle.clap.specs.Simple.{App, built, is_simple, is_buildable, is_ready, is_ready_leaf}
use Rattle.clap.specs.Faults.{fault_of, built_fault, is_free_app, is_simple_and_free}
use Rattle.run_spec.specs.Words.{at_word, is_among, parsed_from, option_value}
use Rattle.psi_words.specs.Clap.{plain_app, plain_shape, option_rule, positional_rule}
use Rattle.psi_words.specs.Clap.{positional_id, is_option_row, option_in, words_in, AreValued}
use Rattle.psi_words.proofs.Parts.{parts, judged, AreTexts, Part, parsed, plain, gathered}
use Rattle.psi_words.proofs.Agreement.{parsed_parts, AreKnown, free_name, accepted_words, refused_words}
use Rattle.std.specs.Prelude.{filter, is_some, slice_get}
use Rattle.psi_words.proofs.Finding.{same_text}
use Rattle.std.specs.Str.{bytes_eq}
use Rattle.clap.specs.Words.{first_of, Row}
use Rattle.clap.specs.Walk.{rows_after}
use Rattle.clap.specs.Simple.{names_of}
use Rattle.std.proofs.Common.{true≢false}
use Rattle.psi_words.proofs.Rows.{all_rows}
use Rattle.psi_words.proofs.Rules.{built_rules, filled_all, simple_all}
use Rattle.psi_words.proofs.Walking.{top, is_nil, row}
use Rattle.psi_words.proofs.ReadingSteps.{all_read}

built_is : (names : List (List ℕ)) → built (plain_app names) ≡ record { top = top names; subs = [] }
built_is names =
    ap (λ rules. record {
      top = record (plain_shape rules)
          { is_built = true; disable_help_subcommand = true };
      subs = [];
    }) (filled_all names)

-- the parts are accepted exactly if `clap`'s definition gives no fault
pub fault_is : (names words : List (List ℕ)) → is_among positional_id names ≡ false → AreTexts words
    → is_nil (fault_of (plain_app names) words) ≡ judged [] (parts names None words)
fault_is names words free texts =
    let leaf : fault_of (plain_app names) words
    ≡ built_fault (record { top = top names; subs = [] }) nothing_held words = ap
    (λ a. built_fault a nothing_held words) (built_is names) in
    ap is_nil (leaf ∙ leaf_fault (record { top = top names; subs = [] }) nothing_held words refl)
    ∙ (all_read names words free texts).0 [] None false tt

rules_simple : (names : List (List ℕ))
    → list_all (λ a. a.is_simple) (map option_rule names ++ positional_rule ∷ []) ≡ true
rules_simple [] = refl
rules_simple (n ∷ ns) = rules_simple ns

rules_free : (names : List (List ℕ)) → list_all (λ a. a.is_free) (built_rules names) ≡ true
rules_free [] = refl
rules_free (n ∷ ns) = rules_free ns

none_early : (k : ℕ) (names : List (List ℕ))
    → list_any (is_early_multiple k) (built_rules names) ≡ false
none_early k [] = refl
none_early k (n ∷ ns) = none_early k ns

simple_of : (names : List (List ℕ)) → is_simple (plain_app names) ≡ true
simple_of names =
    ap (λ (b : App). is_buildable (plain_app names)
    && (is_ready b.top && list_all is_ready_leaf b.subs)) (built_is names)
    ∙ rw (rules_simple names, simple_all names, none_early _ names) refl

pub simple_is : (names : List (List ℕ)) → is_simple_and_free (plain_app names) ≡ true
simple_is names =
    ap (λ (b : App). (is_buildable (plain_app names)
    && (is_ready b.top && list_all is_ready_leaf b.subs)) && is_free_app b) (built_is names)
    ∙ rw (rules_simple names, simple_all names, none_early _ names, rules_free names) refl

pub are_texts : {Z : Type 0} (words : List (String Z)) → AreTexts (map string_bytes words)
are_texts [] = tt
are_texts (w ∷ ws) = (is_utf8-from_IsUtf8 (string_bytes w) (IsUtf8-string_bytes w), are_texts ws)

simple_app : (app : App) (names : List (List ℕ)) → app ≡ plain_app names
    → is_simple_and_free app ≡ true
simple_app app names is = ap is_simple_and_free is ∙ simple_is names

pub accepted_by : (app : App) (names words : List (List ℕ)) → app ≡ plain_app names
    → is_among positional_id names ≡ false → AreTexts words
    → (is_simple_and_free app ≡ true → fault_of app words ≡ [])
    → judged [] (parts names None words) ≡ true
accepted_by app names words is free texts passes =
    sym (fault_is names words free texts)
    ∙ ap is_nil (ap (λ a. fault_of a words) (sym is) ∙ passes (simple_app app names is))

pub matches_by : (app : App) (names words : List (List ℕ)) (m : ArgMatches) → app ≡ plain_app names
    → HasMatchesOf app words m → rows_of (found_of m) ≡ matches_of (plain_app names) words
matches_by app names words m is has =
    (has (ap is_simple is ∙ simple_of names)).0 ∙ ap (λ a. matches_of a words) is

not_nil : (kinds : Kinds) (e : Error) → HasKind kinds e → kind_of e ≢ kind.OutOfMemory
    → is_nil kinds ≡ false
not_nil [] e (inl memory) other = absurd (other memory)
not_nil [] e (inr none) other = absurd none
not_nil (k ∷ ks) e has other = refl

pub refused_by : (app : App) (names words : List (List ℕ)) (e : Error) → app ≡ plain_app names
    → is_among positional_id names ≡ false → AreTexts words
    → (is_simple_and_free app ≡ true → HasKind (fault_of app words) e)
    → kind_of e ≢ kind.OutOfMemory → judged [] (parts names None words) ≡ false
refused_by app names words e is free texts fails other =
    sym (fault_is names words free texts)
    ∙ not_nil (fault_of (plain_app names) words) e
    (subst (λ a. HasKind (fault_of a words) e) is (fails (simple_app app names is))) other

-- ---- the meaning of the rows

matches_as : (names words : List (List ℕ))
    → matches_of (plain_app names) words ≡ rows_after (built_rules names) [] words
matches_as names words =
    ap (λ (b : App). rows_after b.top.rules (names_of b) words) (built_is names)

rows_valued : (ps : List Part) → AreValued (map row ps)
rows_valued [] = refl
rows_valued (p ∷ ps) = rows_valued ps

options_said : (names : List (List ℕ)) (ps : List Part) → is_among positional_id names ≡ false
    → AreKnown names ps → map option_in (filter is_option_row (map row ps)) ≡ (parsed_parts ps).options
options_said names [] free known = refl
options_said names (parsed name value ∷ ps) free known =
    rw (free_name names name free known.0)
    (ap (λ options. (name, value) ∷ options) (options_said names ps free known.1))
options_said names (plain word ∷ ps) free known = options_said names ps free known

positional_said : (names : List (List ℕ)) (ps : List Part) → is_among positional_id names ≡ false
    → AreKnown names ps → first_of positional_id (map row ps) ≡ (parsed_parts ps).positional
positional_said names [] free known = refl
positional_said names (parsed name value ∷ ps) free known =
    rw (free_name names name free known.0) (positional_said names ps free known.1)
positional_said names (plain word ∷ ps) free known = refl

rows_said : (names : List (List ℕ)) (ps : List Part) → is_among positional_id names ≡ false
    → AreKnown names ps → words_in (map row ps) ≡ parsed_parts ps
rows_said names ps free known =
    rw (options_said names ps free known, positional_said names ps free known) refl

-- the rows that `clap` found are the rows of the parts
rows_found : (app : App) (names words : List (List ℕ)) (m : ArgMatches) → app ≡ plain_app names
    → is_among positional_id names ≡ false → judged [] (parts names None words) ≡ true
    → HasMatchesOf app words m
    → rows_of (found_of m) ≡ map row (gathered [] (parts names None words))
rows_found app names words m is free fit has =
    matches_by app names words m is has
    ∙ (matches_as names words ∙ (all_rows names words free).0 [] None false tt fit)

-- the rows that `clap` found have the meaning of the words
pub found_said : (app : App) (names words : List (List ℕ)) (m : ArgMatches) → app ≡ plain_app names
    → is_among positional_id names ≡ false → judged [] (parts names None words) ≡ true
    → HasMatchesOf app words m
    → (parsed_from names at_word words ≡ Some (words_in (rows_of (found_of m))))
    × AreValued (rows_of (found_of m))
found_said app names words m is free fit has = go (parts names None words) refl
  where
    go : (r : Option (List Part)) → parts names None words ≡ r
        → (parsed_from names at_word words ≡ Some (words_in (rows_of (found_of m))))
        × AreValued (rows_of (found_of m))
    go None none = absurd (true≢false (sym fit ∙ ap (judged []) none))
    go (Some ps) are =
        let rows : rows_of (found_of m) ≡ map row ps =
        rows_found app names words m is free fit has ∙ ap (λ r. map row (gathered [] r)) are in
        let say = accepted_words names words ps free are fit in
        let same = sym (rows_said names ps free say.0) ∙ ap words_in (sym rows) in
        (say.1 ∙ ap Some same, subst AreValued (sym rows) (rows_valued ps))

-- if `clap` rejects the words, they have no meaning
pub refused_said : (app : App) (names words : List (List ℕ)) (e : Error) → app ≡ plain_app names
    → is_among positional_id names ≡ false → AreTexts words
    → (is_simple_and_free app ≡ true → HasKind (fault_of app words) e)
    → kind_of e ≢ kind.OutOfMemory
    → parsed_from names at_word words ≡ None
refused_said app names words e is free texts fails other =
    refused_words names words free (refused_by app names words e is free texts fails other)

-- ---- the result of a lookup

both_true : (a b : Bool) → a && b ≡ true → (a ≡ true) × (b ≡ true)
both_true true b is = (refl, is)
both_true false b is = absurd (true≢false (sym is))

row_valued : (name : List ℕ) (r : Row) (rows : List Row) (here option : Bool) (v : Option (List ℕ))
    → bytes_eq name positional_id ≡ false
    → bytes_eq r.id name ≡ here → bytes_eq r.id positional_id ≡ option → slice_get r.values 0 ≡ v
    → is_some v ≡ true
    → first_of name rows ≡ option_value name (words_in rows)
    → first_of name (r ∷ rows) ≡ option_value name (words_in (r ∷ rows))
row_valued name r rows true true v other here option is some rest =
    absurd (true≢false (sym option
    ∙ (ap (λ t. bytes_eq t positional_id) (same_text r.id name here) ∙ other)))
row_valued name r rows true false None other here option is some rest =
    absurd (true≢false (sym some))
row_valued name r rows true false (Some v) other here option is some rest =
    rw (option, here, is) refl
row_valued name r rows false true v other here option is some rest = rw (option, here) rest
row_valued name r rows false false v other here option is some rest = rw (option, here) rest

-- a lookup by name finds the value of the option
pub first_valued : (name : List ℕ) (rows : List Row) → bytes_eq name positional_id ≡ false
    → AreValued rows → first_of name rows ≡ option_value name (words_in rows)
first_valued name [] other valued = refl
first_valued name (r ∷ rows) other valued =
    let both =
    both_true (is_some (slice_get r.values 0))
    (list_all (λ (row : Row). is_some (slice_get row.values 0)) rows) valued in
    row_valued name r rows (bytes_eq r.id name) (bytes_eq r.id positional_id) (slice_get r.values 0)
    other refl refl refl both.0 (first_valued name rows other both.1)
