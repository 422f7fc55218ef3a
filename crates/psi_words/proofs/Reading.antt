use Rattle.std.proofs.Common.{◌≡◌, ℕ, ◌++◌, ◌∷◌, ◌&&◌, ◌||◌, List, [], Bool, true, false}
use Rattle.std.proofs.Common.{Option, Some, None, map, refl, sym, ap, ◌∙◌, true≢false}
use Rattle.std.proofs.Common.{if◌then◌else◌}
use Rattle.std.specs.Str.{bytes_eq}
use Rattle.clap.specs.Lexer.{long_of}
use Rattle.clap.specs.Walk.{Held, Walk, idle, option, settled, walked, used}
use Rattle.clap.specs.Kinds.{or_else}
use Rattle.clap.specs.Faults.{settle_fault, turn_fault, use_fault}
use Rattle.run_spec.specs.Words.{is_among}
use Rattle.psi_words.specs.Clap.{positional_id}
use Rattle.psi_words.proofs.Parts.{Part, parsed, plain, id_of, has_part, judged, parts, then_part}
use Rattle.psi_words.proofs.Finding.{same_text}
use Rattle.psi_words.proofs.Rules.{built_option, built_rules}
use Rattle.psi_words.proofs.Walking.{row, held_for, joined, then_last, has_last, Known, top}
use Rattle.psi_words.proofs.Walking.{is_nil, at_word, is_plain, place, total, total_step}
use Rattle.psi_words.proofs.Walking.{settle_old, settle_new, settled_new, judged_old, judged_new}
use Rattle.psi_words.proofs.Walking.{use_again, use_new, new_row}
use Rattle.psi_words.proofs.Turning.{positional_walked}
use Rattle.psi_words.proofs.Turning.{assigned_turn, assigned_walked, open_turn}
use Rattle.psi_words.proofs.Turning.{open_walked, open_held}

-- ---- the index of the positional argument

pub has_after : (id : List ℕ) (xs : List Part) (p : Part)
    → has_part id (xs ++ p ∷ []) ≡ has_part id xs || (bytes_eq (id_of p) id || false)
has_after id [] p = refl
has_after id (x ∷ xs) p = go (bytes_eq (id_of x) id) _ _ (has_after id xs p)
  where
    go : (b u v : Bool) → u ≡ v || (bytes_eq (id_of p) id || false)
        → b || u ≡ (b || v) || (bytes_eq (id_of p) id || false)
    go true u v e = refl
    go false u v e = e

pub not_positional : (names : List (List ℕ)) (n : List ℕ) (b : Bool) → bytes_eq n positional_id ≡ b
    → is_among n names ≡ true → is_among positional_id names ≡ false → b ≡ false
not_positional names n false is among free = refl
not_positional names n true is among free =
    absurd (true≢false (sym among ∙ ap (λ m. is_among m names) (same_text n positional_id is)
    ∙ free))

pub or_nothing : (b : Bool) → b || false ≡ b
or_nothing true = refl
or_nothing false = refl

pub or_true : (b : Bool) → b || true ≡ true
or_true true = refl
or_true false = refl

-- the positional argument was given
abbrev pub has_positional : List Part → Option Part → Bool
has_positional acc last = has_part positional_id acc || is_plain last

pub positional_joined : (names : List (List ℕ)) (acc : List Part) (last : Option Part)
    → Known names last → is_among positional_id names ≡ false
    → has_part positional_id (joined acc last) ≡ has_positional acc last
positional_joined names acc None known free = sym (or_nothing (has_part positional_id acc))
positional_joined names acc (Some (parsed n v)) known free =
    has_after positional_id acc (parsed n v)
    ∙ ap (λ b. has_part positional_id acc || (b || false))
    (not_positional names n (bytes_eq n positional_id) refl known free)
positional_joined names acc (Some (plain w)) known free = has_after positional_id acc (plain w)

-- ---- the result for the words

abbrev pub Reads : List (List ℕ) → List (List ℕ) → Type 0
Reads names words = (acc : List Part) (last : Option Part) (t : Bool) → Known names last
    → is_nil (total names (at_word (held_for acc last) idle t (place acc last)) words)
    ≡ judged acc (then_last last (if t then Some (map plain words) else parts names None words))

abbrev pub Opens : List (List ℕ) → List (List ℕ) → Type 0
Opens names words =
    (acc : List Part) (n : List ℕ) (position : ℕ) → position ≡ place acc None
    → is_among n names ≡ true
    → is_nil (total names (at_word (open_held acc n) (option n) false position) words)
    ≡ judged acc (parts names (Some n) words)

pub judged_none : (acc : List Part) (last : Option Part) → judged acc (then_last last None) ≡ false
judged_none acc None = refl
judged_none acc (Some p) = refl

pub second_plain : (acc : List Part) (word : List ℕ) (r : Option (List Part))
    → has_part positional_id acc ≡ true → judged acc (then_part (plain word) r) ≡ false
second_plain acc word None has = refl
second_plain acc word (Some ps) has = rw has refl

first_false : (a b : Bool) → a ≡ false → a && b ≡ false
first_false a b e = ap (λ x. x && b) e

-- a word that is a positional argument
pub plain_reads : (names : List (List ℕ)) (word : List ℕ) (rest : List (List ℕ)) (t : Bool)
    (r : Option (List Part)) → is_among positional_id names ≡ false
    → ((h : Held) → turn_fault (top names) [] (at_word h idle t 1) word
    ≡ settle_fault (built_rules names) false h)
    → ((h : Held) → is_nil (turn_fault (top names) [] (at_word h idle t 2) word) ≡ false)
    → ((h : Held) → walked (built_rules names) [] (at_word h idle t 1) word
    ≡ positional_walked names h t word)
    → ((acc : List Part) → is_nil (total names (at_word (held_for acc (Some (plain word))) idle t 2)
    rest) ≡ judged acc (then_part (plain word) r))
    → (acc : List Part) (last : Option Part) (old has : Bool) → Known names last
    → has_last acc last ≡ old → has_positional acc last ≡ has
    → is_nil (total names (at_word (held_for acc last) idle t (if has then 2 else 1)) (word ∷ rest))
    ≡ judged acc (then_last last (then_part (plain word) r))
plain_reads names word rest t r free turn stray goes on acc last true true known is_old is_has =
    total_step names _ word rest ∙ (first_false _ _ (stray (held_for acc last))
    ∙ sym (judged_old acc last _ is_old))
plain_reads names word rest t r free turn stray goes on acc last false true known is_old is_has =
    total_step names _ word rest ∙ (first_false _ _ (stray (held_for acc last))
    ∙ sym (judged_new acc last _ is_old
    ∙ second_plain (joined acc last) word r
    (positional_joined names acc last known free ∙ is_has)))
plain_reads names word rest t r free turn stray goes on acc last true false known is_old is_has =
    total_step names _ word rest ∙ (first_false _ _
    (ap is_nil (turn (held_for acc last) ∙ settle_old names acc last known free is_old))
    ∙ sym (judged_old acc last _ is_old))
plain_reads names word rest t r free turn stray goes on acc last false false known is_old is_has =
    let here : is_nil (turn_fault (top names) [] (at_word (held_for acc last) idle t 1) word)
    ≡ true = ap is_nil (turn (held_for acc last) ∙ settle_new names acc last known free is_old)
    in
    let there : walked (built_rules names) [] (at_word (held_for acc last) idle t 1) word
    ≡ at_word (held_for (joined acc last) (Some (plain word))) idle t 2 =
    goes (held_for acc last) ∙ ap (λ (h : Held). at_word
    (record h { pending = Some (positional_id, word ∷ []) }) idle t 2)
    (settled_new names acc last known free is_old) in
    total_step names _ word rest ∙ (ap
    (λ b. b && is_nil (total names (walked (built_rules names) []
    (at_word (held_for acc last) idle t 1) word) rest)) here
    ∙ (ap (λ w. is_nil (total names w rest)) there
    ∙ (on (joined acc last) ∙ sym (judged_new acc last _ is_old))))

-- an option with its value in the same word
pub assigned_reads : (names : List (List ℕ)) (word n v : List ℕ) (rest : List (List ℕ))
    (r : Option (List Part)) (position : ℕ) → is_among positional_id names ≡ false
    → bytes_eq word (45 ∷ 45 ∷ []) ≡ false → long_of word ≡ Some (n, Some v)
    → is_among n names ≡ true
    → ((acc : List Part) → position ≡ place acc None
    → is_nil (total names (at_word (held_for acc None) idle false position) rest)
    ≡ judged acc r)
    → (acc : List Part) (last : Option Part) (old again : Bool) → Known names last
    → has_last acc last ≡ old → has_part n (joined acc last) ≡ again
    → position ≡ (if has_positional acc last then 2 else 1)
    → is_nil (total names (at_word (held_for acc last) idle false position) (word ∷ rest))
    ≡ judged acc (then_last last (then_part (parsed n v) r))
assigned_reads names word n v rest r position free other is among on acc last true again known is_old
    is_again at =
    total_step names _ word rest ∙ (first_false _ _
    (ap is_nil (assigned_turn names (held_for acc last) idle position word n v other is among
    ∙ ap (λ k. or_else (or_else k (use_fault false (built_option n) (v ∷ [])
    (settled (built_rules names) (held_for acc last)).rows)) [])
    (settle_old names acc last known free is_old))) ∙ sym (judged_old acc last _ is_old))
assigned_reads names word n v rest r position free other is among on acc last false true known is_old
    is_again at =
    let turn : turn_fault (top names) [] (at_word (held_for acc last) idle false position) word
    ≡ or_else (or_else [] (use_fault false (built_option n) (v ∷ [])
    (map row (joined acc last)))) [] =
    assigned_turn names (held_for acc last) idle position word n v other is among
    ∙ (ap (λ k. or_else (or_else k (use_fault false (built_option n) (v ∷ [])
    (settled (built_rules names) (held_for acc last)).rows)) [])
    (settle_new names acc last known free is_old)
    ∙ ap (λ (h : Held). or_else (or_else [] (use_fault false (built_option n) (v ∷ []) h.rows)) [])
    (settled_new names acc last known free is_old)) in
    total_step names _ word rest ∙ (first_false _ _
    (ap is_nil (turn ∙ ap (λ k. or_else (or_else [] k) [])
    (use_again (parsed n v) (joined acc last) is_again)))
    ∙ sym (judged_new acc last _ is_old
    ∙ judged_old (joined acc last) (Some (parsed n v)) r is_again))
assigned_reads names word n v rest r position free other is among on acc last false false known is_old
    is_again at =
    let rows_are : settled (built_rules names) (held_for acc last)
    ≡ held_for (joined acc last) None = settled_new names acc last known free is_old in
    let turn : turn_fault (top names) [] (at_word (held_for acc last) idle false position) word
    ≡ [] =
    assigned_turn names (held_for acc last) idle position word n v other is among
    ∙ (ap (λ k. or_else (or_else k (use_fault false (built_option n) (v ∷ [])
    (settled (built_rules names) (held_for acc last)).rows)) [])
    (settle_new names acc last known free is_old)
    ∙ (ap (λ (h : Held). or_else (or_else [] (use_fault false (built_option n) (v ∷ []) h.rows)) [])
    rows_are
    ∙ ap (λ k. or_else (or_else [] k) []) (use_new (parsed n v) (joined acc last) is_again))) in
    let goes : walked (built_rules names) [] (at_word (held_for acc last) idle false position) word
    ≡ at_word (held_for (joined acc last ++ parsed n v ∷ []) None) idle false position =
    assigned_walked names (held_for acc last) position word n v other is among
    ∙ (ap (λ (h : Held). at_word (record
    { rows = used (built_option n) (v ∷ []) h.rows; pending = None; skip = 0 }) idle false
    position) rows_are
    ∙ ap (λ rows. at_word (record { rows = rows; pending = None; skip = 0 }) idle false position)
    (new_row (parsed n v) (joined acc last) is_again)) in
    let place_same : position ≡ place (joined acc last ++ parsed n v ∷ []) None =
    at ∙ ap (λ b. if b then 2 else 1)
    (sym (positional_joined names acc last known free)
    ∙ sym (positional_joined names (joined acc last) (Some (parsed n v)) among free
    ∙ or_nothing _) ∙ sym (or_nothing _)) in
    total_step names _ word rest ∙ (ap
    (λ b. b && is_nil (total names (walked (built_rules names) []
    (at_word (held_for acc last) idle false position) word) rest)) (ap is_nil turn)
    ∙ (ap (λ w. is_nil (total names w rest)) goes
    ∙ (on (joined acc last ++ parsed n v ∷ []) place_same
    ∙ sym (judged_new acc last _ is_old
    ∙ judged_new (joined acc last) (Some (parsed n v)) r is_again))))

-- an option whose value is the next word
pub open_reads : (names : List (List ℕ)) (word n : List ℕ) (rest : List (List ℕ))
    (r : Option (List Part)) (position : ℕ) → is_among positional_id names ≡ false
    → bytes_eq word (45 ∷ 45 ∷ []) ≡ false → long_of word ≡ Some (n, None) → is_among n names ≡ true
    → ((acc : List Part) → position ≡ place acc None
    → is_nil (total names (at_word (open_held acc n) (option n) false position) rest)
    ≡ judged acc r)
    → (acc : List Part) (last : Option Part) (old : Bool) → Known names last
    → has_last acc last ≡ old → position ≡ (if has_positional acc last then 2 else 1)
    → is_nil (total names (at_word (held_for acc last) idle false position) (word ∷ rest))
    ≡ judged acc (then_last last r)
open_reads names word n rest r position free other is among on acc last true known is_old at =
    total_step names _ word rest ∙ (first_false _ _
    (ap is_nil (open_turn names (held_for acc last) idle position word n other is among
    ∙ ap (λ k. or_else k []) (settle_old names acc last known free is_old)))
    ∙ sym (judged_old acc last _ is_old))
open_reads names word n rest r position free other is among on acc last false known is_old at =
    let turn : turn_fault (top names) [] (at_word (held_for acc last) idle false position) word
    ≡ [] =
    open_turn names (held_for acc last) idle position word n other is among
    ∙ ap (λ k. or_else k []) (settle_new names acc last known free is_old) in
    let goes : walked (built_rules names) [] (at_word (held_for acc last) idle false position) word
    ≡ at_word (open_held (joined acc last) n) (option n) false position =
    open_walked names (held_for acc last) position word n other is among
    ∙ ap (λ (h : Held). at_word (record h { pending = Some (n, []) }) (option n) false position)
    (settled_new names acc last known free is_old) in
    let place_same : position ≡ place (joined acc last) None =
    at ∙ ap (λ b. if b then 2 else 1)
    (sym (positional_joined names acc last known free) ∙ sym (or_nothing _)) in
    total_step names _ word rest ∙ (ap
    (λ b. b && is_nil (total names (walked (built_rules names) []
    (at_word (held_for acc last) idle false position) word) rest)) (ap is_nil turn)
    ∙ (ap (λ w. is_nil (total names w rest)) goes
    ∙ (on (joined acc last) place_same ∙ sym (judged_new acc last r is_old))))

-- a rejected word
pub refused_reads : (names : List (List ℕ)) (w : Walk) (word : List ℕ) (rest : List (List ℕ))
    → is_nil (turn_fault (top names) [] w word) ≡ false
    → is_nil (total names w (word ∷ rest)) ≡ false
refused_reads names w word rest fails = total_step names w word rest ∙ first_false _ _ fails
