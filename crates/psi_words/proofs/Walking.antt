use Rattle.std.proofs.Common.{◌≡◌, ℕ, ◌++◌, ◌∷◌, ◌&&◌, ◌||◌, List, [], Bool, true, false, not}
use Rattle.std.proofs.Common.{Option, Some, None, map, refl, sym, ap, ◌∙◌, true≢false}
use Rattle.std.proofs.lemmas.List.{append-nil, map-append}
use Rattle.clap.specs.declared.error.kind.ErrorKind.TheVariants as kind
use Rattle.std.specs.Str.{bytes_eq}
use Rattle.std.specs.List.{list_any, fold}
use Rattle.clap.specs.Walk.{at_row, more_values, with_values, without, Rule, Row, Held, Walk}
use Rattle.clap.specs.Walk.{Waiting, has_row, used, settled, finished, walked, arg_by_id}
use Rattle.clap.specs.Walk.{with_default}
use Rattle.clap.specs.Simple.{Shape}
use Rattle.clap.specs.Kinds.{Kinds, or_else}
use Rattle.clap.specs.Faults.{settle_fault, use_fault, defaults_fault, check_fault, walk_fault}
use Rattle.clap.specs.Faults.{turn_fault}
use Rattle.clap.specs.Takes.{is_given}
use Rattle.clap.specs.Values.{reading_of}
use Rattle.clap.specs.declared.builder.value_parser.ValueParser.TheVariants as vp
use Rattle.clap.specs.declared.parser.matches.ValueSource.TheVariants.{CommandLine}
use Rattle.run_spec.specs.Words.{is_among}
use Rattle.psi_words.specs.Clap.{positional_id, plain_shape}
use Rattle.psi_words.proofs.Parts.{Part, parsed, plain, id_of, text_of, has_part, judged, then_part}
use Rattle.psi_words.proofs.Rules.{built_option, built_positional, built_rules}
use Rattle.psi_words.proofs.Finding.{by_id, positional_by_id}
use Rattle.std.specs.Prelude.{⊤, option_map, if◌then◌else◌}

-- the row of a part
abbrev pub row : Part → Row
row p = record {
  id = id_of p;
  values = text_of p ∷ [];
  count = None;
  source = Some CommandLine;
  reading = reading_of vp.String;
}

-- the rule of a part
abbrev pub rule_for : Part → Rule
rule_for (parsed name value) = built_option name
rule_for (plain word) = built_positional

pub row_has : (id : List ℕ) (ps : List Part) → has_row id (map row ps) ≡ has_part id ps
row_has id [] = refl
row_has id (p ∷ ps) = ap (λ b. bytes_eq (id_of p) id || b) (row_has id ps)

pub either_false : (a b : Bool) → a || b ≡ false → (a ≡ false) × (b ≡ false)
either_false false b e = (refl, e)
either_false true b e = (e, absurd (true≢false e))

-- changing the row of an id that no part has appends the rows `missing`
row_kept : (id : List ℕ) (change : Row → List Row) (missing : List Row) (ps : List Part)
    → has_part id ps ≡ false → at_row id change missing (map row ps) ≡ map row ps ++ missing
row_kept id change missing [] new = refl
row_kept id change missing (p ∷ ps) new =
    let both = either_false (bytes_eq (id_of p) id) (has_part id ps) new in
    rw (both.0) (ap (λ rs. row p ∷ rs) (row_kept id change missing ps both.1))

row_added : (p : Part) (ps : List Part) → has_part (id_of p) ps ≡ false
    → with_values (id_of p) (reading_of vp.String) CommandLine (text_of p ∷ [])
    (without (id_of p) (map row ps)) ≡ map row (ps ++ p ∷ [])
row_added p ps new =
    let gone : without (id_of p) (map row ps) ≡ map row ps =
    row_kept (id_of p) (λ _. []) [] ps new ∙ append-nil (map row ps) in
    rw gone (row_kept (id_of p) (more_values CommandLine (text_of p ∷ [])) (row p ∷ []) ps new
    ∙ sym (map-append row ps (p ∷ [])))

pub new_row : (p : Part) (ps : List Part) → has_part (id_of p) ps ≡ false
    → used (rule_for p) (text_of p ∷ []) (map row ps) ≡ map row (ps ++ p ∷ [])
new_row (parsed name value) ps new = row_added (parsed name value) ps new
new_row (plain word) ps new = row_added (plain word) ps new

-- a repeated part is rejected
pub use_again : (p : Part) (ps : List Part) → has_part (id_of p) ps ≡ true
    → use_fault false (rule_for p) (text_of p ∷ []) (map row ps) ≡ kind.ArgumentConflict ∷ []
use_again (parsed name value) ps old = rw (row_has name ps, old) refl
use_again (plain word) ps old = rw (row_has positional_id ps, old) refl

pub use_new : (p : Part) (ps : List Part) → has_part (id_of p) ps ≡ false
    → use_fault false (rule_for p) (text_of p ∷ []) (map row ps) ≡ []
use_new (parsed name value) ps new = rw (row_has name ps, new) refl
use_new (plain word) ps new = rw (row_has positional_id ps, new) refl

-- ---- the stored rows

abbrev pub held_for : List Part → Option Part → Held
held_for acc last =
    record {
      rows = map row acc;
      pending = option_map (λ p. (id_of p, text_of p ∷ [])) last;
      skip =
          0;
    }

abbrev pub joined : List Part → Option Part → List Part
joined acc None = acc
joined acc (Some p) = acc ++ p ∷ []

abbrev pub then_last : Option Part → Option (List Part) → Option (List Part)
then_last None r = r
then_last (Some p) r = then_part p r

abbrev pub has_last : List Part → Option Part → Bool
has_last acc None = false
has_last acc (Some p) = has_part (id_of p) acc

abbrev pub Known : List (List ℕ) → Option Part → Type 0
Known names None = ⊤
Known names (Some (parsed n v)) = is_among n names ≡ true
Known names (Some (plain w)) = ⊤

pub rule_is : (names : List (List ℕ)) (p : Part) → Known names (Some p)
    → is_among positional_id names ≡ false
    → arg_by_id (built_rules names) (id_of p) ≡ Some (rule_for p)
rule_is names (parsed n v) known free = by_id n names known
rule_is names (plain w) known free = positional_by_id names free

pub settle_old : (names : List (List ℕ)) (acc : List Part) (last : Option Part) → Known names last
    → is_among positional_id names ≡ false → has_last acc last ≡ true
    → settle_fault (built_rules names) false (held_for acc last) ≡ kind.ArgumentConflict ∷ []
settle_old names acc None known free old = absurd (true≢false (sym old))
settle_old names acc (Some p) known free old = rw (rule_is names p known free) (use_again p acc old)

pub settle_new : (names : List (List ℕ)) (acc : List Part) (last : Option Part) → Known names last
    → is_among positional_id names ≡ false → has_last acc last ≡ false
    → settle_fault (built_rules names) false (held_for acc last) ≡ []
settle_new names acc None known free new = refl
settle_new names acc (Some p) known free new = rw (rule_is names p known free) (use_new p acc new)

pub settled_new : (names : List (List ℕ)) (acc : List Part) (last : Option Part) → Known names last
    → is_among positional_id names ≡ false → has_last acc last ≡ false
    → settled (built_rules names) (held_for acc last) ≡ held_for (joined acc last) None
settled_new names acc None known free new = refl
settled_new names acc (Some p) known free new =
    rw (rule_is names p known free)
    (ap (λ rs. record { rows = rs; pending = None; skip = 0 }) (new_row p acc new))

pub judged_old : (acc : List Part) (last : Option Part) (r : Option (List Part))
    → has_last acc last ≡ true → judged acc (then_last last r) ≡ false
judged_old acc None r old = absurd (true≢false (sym old))
judged_old acc (Some p) None old = refl
judged_old acc (Some p) (Some ps) old = rw old refl

pub judged_new : (acc : List Part) (last : Option Part) (r : Option (List Part))
    → has_last acc last ≡ false → judged acc (then_last last r) ≡ judged (joined acc last) r
judged_new acc None r new = refl
judged_new acc (Some p) None new = refl
judged_new acc (Some p) (Some ps) new = rw new refl

-- ---- the end

abbrev pub top : List (List ℕ) → Shape
top names =
    record (plain_shape (built_rules names)) { is_built = true; disable_help_subcommand = true }

abbrev pub end_of : List (List ℕ) → Kinds → Held → Kinds
end_of names k h =
    or_else k (or_else (defaults_fault h.rows (built_rules names))
    (check_fault (top names) (fold with_default h.rows (built_rules names)) false))

abbrev pub end_fault : List (List ℕ) → Held → Kinds
end_fault names h =
    or_else (settle_fault (built_rules names) false h)
    (or_else (defaults_fault (settled (built_rules names) h).rows (built_rules names))
    (check_fault (top names) (finished (built_rules names) h) false))

if_same : {X : Type 0} (b : Bool) (x : X) → (if b then x else x) ≡ x
if_same true x = refl
if_same false x = refl

no_default : (b : Bool) (k : Kinds) → (if b || true then [] else k) ≡ []
no_default true k = refl
no_default false k = refl

no_defaults : (rows : List Row) (names : List (List ℕ))
    → defaults_fault rows (built_rules names) ≡ []
unfolding defaults_fault
no_defaults rows [] = rw (no_default (has_row positional_id rows)) refl
no_defaults rows (n ∷ ns) =
    rw (no_default (has_row n rows), if_same (has_row n rows) rows) (no_defaults rows ns)

pub same_rows : (rows : List Row) (names : List (List ℕ))
    → fold with_default rows (built_rules names) ≡ rows
same_rows rows [] = if_same (has_row positional_id rows) rows
same_rows rows (n ∷ ns) =
    ap (λ rs. fold with_default rs (built_rules ns)) (if_same (has_row n rows) rows)
    ∙ same_rows rows ns

-- no argument is required
wanted : (rows : List Row) (names : List (List ℕ))
    → list_any (λ a. a.required && not (is_given a.id rows)) (built_rules names) ≡ false
wanted rows [] = refl
wanted rows (n ∷ ns) = wanted rows ns

abbrev pub is_nil : Kinds → Bool
is_nil [] = true
is_nil (k ∷ ks) = false

pub nil_else : (a b : Kinds) → is_nil (or_else a b) ≡ is_nil a && is_nil b
nil_else [] b = refl
nil_else (k ∷ ks) b = refl

end_settled : (names : List (List ℕ)) (acc : List Part)
    → is_nil (end_fault names (held_for acc None)) ≡ true
end_settled names acc =
    rw (no_defaults (map row acc) names, same_rows (map row acc) names, wanted (map row acc) names)
    refl

pub end_is : (names : List (List ℕ)) (acc : List Part) (last : Option Part) (b : Bool)
    → Known names last → is_among positional_id names ≡ false → has_last acc last ≡ b
    → is_nil (end_fault names (held_for acc last)) ≡ judged acc (then_last last (Some []))
end_is names acc last true known free old =
    rw (settle_old names acc last known free old, judged_old acc last (Some []) old) refl
end_is names acc last false known free new =
    ap (λ k. is_nil (end_of names k (settled (built_rules names) (held_for acc last))))
    (settle_new names acc last known free new)
    ∙ (ap (λ h. is_nil (end_of names [] h)) (settled_new names acc last known free new)
    ∙ (end_settled names (joined acc last) ∙ sym (judged_new acc last (Some []) new)))

-- ---- a word

-- the state of the walk at the current word
abbrev pub at_word : Held → Waiting → Bool → ℕ → Walk
at_word h waiting trailing position =
    record {
      held = h;
      waiting = waiting;
      position = position;
      is_trailing = trailing;
      stopped =
          None;
    }

abbrev pub is_plain : Option Part → Bool
is_plain None = false
is_plain (Some (parsed n v)) = false
is_plain (Some (plain w)) = true

-- the index of the next positional argument
abbrev pub place : List Part → Option Part → ℕ
place acc last = if has_part positional_id acc || is_plain last then 2 else 1

-- the result of the walk over all words
abbrev pub total : List (List ℕ) → Walk → List (List ℕ) → Kinds
total names w words =
    or_else (walk_fault (top names) [] w words)
    (end_fault names (fold (walked (built_rules names) []) w words).held)

else_else : (a b d : Kinds) → or_else (or_else a b) d ≡ or_else a (or_else b d)
else_else [] b d = refl
else_else (k ∷ ks) b d = refl

pub total_step : (names : List (List ℕ)) (w : Walk) (word : List ℕ) (rest : List (List ℕ))
    → is_nil (total names w (word ∷ rest)) ≡ is_nil (turn_fault (top names) [] w word)
    && is_nil (total names (walked (built_rules names) [] w word) rest)
unfolding walk_fault
total_step names w word rest =
    ap is_nil (else_else (turn_fault (top names) [] w word)
    (walk_fault (top names) [] (walked (built_rules names) [] w word) rest)
    (end_fault names (fold (walked (built_rules names) []) w (word ∷ rest)).held))
    ∙ nil_else (turn_fault (top names) [] w word) _
