use Rattle.std.proofs.Common.{◌≡◌, ℕ, ◌++◌, ◌∷◌, List, [], Bool, true, false, Option, Some, None}
use Rattle.std.proofs.Common.{map, refl, sym, ap, ◌∙◌, true≢false, subst, if◌then◌else◌}
use Rattle.std.specs.Str.{bytes_eq}
use Rattle.std.specs.List.{fold}
use Rattle.clap.specs.Lexer.{long_of}
use Rattle.clap.specs.Walk.{Row, Held, Walk, idle, option, settled, walked, used}
use Rattle.run_spec.specs.Words.{is_among, is_dashed}
use Rattle.psi_words.specs.Clap.{positional_id}
use Rattle.psi_words.proofs.Parts.{Part, parsed, plain, has_part, judged, parts, then_part}
use Rattle.psi_words.proofs.Parts.{then_long, gathered}
use Rattle.psi_words.proofs.Finding.{same_text}
use Rattle.psi_words.proofs.Rules.{built_option, built_rules}
use Rattle.psi_words.proofs.Walking.{row, held_for, joined, then_last, has_last, Known, at_word}
use Rattle.psi_words.proofs.Walking.{place, settled_new, judged_old, judged_new, new_row}
use Rattle.psi_words.proofs.Turning.{trailing_walked, bare_walked, positional_walked, dashes_walked}
use Rattle.psi_words.proofs.Turning.{assigned_walked, open_walked, open_held, open_bare_walked}
use Rattle.std.proofs.lemmas.List.{append_assoc, append-nil}
use Rattle.clap.specs.Walk.{finished}
use Rattle.psi_words.proofs.Walking.{same_rows}
use Rattle.psi_words.proofs.Reading.{second_plain, positional_joined, or_nothing}
use Rattle.psi_words.proofs.ReadingSteps.{place_plain}
use Rattle.psi_words.proofs.Reading.{judged_none}
use Rattle.psi_words.proofs.ReadingSteps.{parts_bare, parts_dashes, parts_long, parts_open}
use Rattle.psi_words.proofs.Reading.{has_positional}
use Rattle.psi_words.proofs.ReadingSteps.{parts_open_dashed}

-- the rows after the last word
abbrev pub rows_end : List (List ℕ) → Walk → List (List ℕ) → List Row
rows_end names w words =
    finished (built_rules names) (fold (walked (built_rules names) []) w words).held

abbrev pub Rows : List (List ℕ) → List (List ℕ) → Type 0
Rows names words = (acc : List Part) (last : Option Part) (t : Bool) → Known names last
    → judged acc (then_last last (if t then Some (map plain words) else parts names None words))
    ≡ true
    → rows_end names (at_word (held_for acc last) idle t (place acc last)) words
    ≡ map row (gathered acc (then_last last
    (if t then Some (map plain words) else parts names None words)))

abbrev pub OpenRows : List (List ℕ) → List (List ℕ) → Type 0
OpenRows names words =
    (acc : List Part) (n : List ℕ) (position : ℕ) → position ≡ place acc None
    → is_among n names ≡ true
    → judged acc (parts names (Some n) words) ≡ true
    → rows_end names (at_word (open_held acc n) (option n) false position) words
    ≡ map row (gathered acc (parts names (Some n) words))

gathered_joined : (acc : List Part) (last : Option Part) (r : Option (List Part))
    → judged acc (then_last last r) ≡ true
    → gathered acc (then_last last r) ≡ gathered (joined acc last) r
gathered_joined acc None r fit = refl
gathered_joined acc (Some p) None fit = absurd (true≢false (sym fit))
gathered_joined acc (Some p) (Some ps) fit = sym (append_assoc acc (p ∷ []) ps)

never : {X : Type 0} (b : Bool) → b ≡ true → b ≡ false → X
never b yes_is no_is = absurd (true≢false (sym yes_is ∙ no_is))

rows_plain : (names : List (List ℕ)) (word : List ℕ) (rest : List (List ℕ)) (t : Bool)
    (r : Option (List Part)) → is_among positional_id names ≡ false
    → ((h : Held) → walked (built_rules names) [] (at_word h idle t 1) word
    ≡ positional_walked names h t word)
    → ((acc : List Part) → judged acc (then_part (plain word) r) ≡ true
    → rows_end names (at_word (held_for acc (Some (plain word))) idle t 2) rest
    ≡ map row (gathered acc (then_part (plain word) r)))
    → (acc : List Part) (last : Option Part) (old has : Bool) → Known names last
    → has_last acc last ≡ old → has_positional acc last ≡ has
    → judged acc (then_last last (then_part (plain word) r)) ≡ true
    → rows_end names (at_word (held_for acc last) idle t (if has then 2 else 1)) (word ∷ rest)
    ≡ map row (gathered acc (then_last last (then_part (plain word) r)))
rows_plain names word rest t r free goes on acc last true has known is_old is_has fit =
    never _ fit (judged_old acc last _ is_old)
rows_plain names word rest t r free goes on acc last false true known is_old is_has fit =
    never _ fit (judged_new acc last _ is_old
    ∙ second_plain (joined acc last) word r
    (positional_joined names acc last known free ∙ is_has))
rows_plain names word rest t r free goes on acc last false false known is_old is_has fit =
    let there : walked (built_rules names) [] (at_word (held_for acc last) idle t 1) word
    ≡ at_word (held_for (joined acc last) (Some (plain word))) idle t 2 =
    goes (held_for acc last) ∙ ap (λ (h : Held). at_word
    (record h { pending = Some (positional_id, word ∷ []) }) idle t 2)
    (settled_new names acc last known free is_old) in
    ap (λ w. rows_end names w rest) there
    ∙ (on (joined acc last) (sym (judged_new acc last _ is_old) ∙ fit)
    ∙ ap (map row) (sym (gathered_joined acc last _ fit)))

option_rows : (names : List (List ℕ)) (word n v : List ℕ) (rest : List (List ℕ))
    (r : Option (List Part)) (position : ℕ) → is_among positional_id names ≡ false
    → bytes_eq word (45 ∷ 45 ∷ []) ≡ false → long_of word ≡ Some (n, Some v)
    → is_among n names ≡ true
    → ((acc : List Part) → position ≡ place acc None → judged acc r ≡ true
    → rows_end names (at_word (held_for acc None) idle false position) rest
    ≡ map row (gathered acc r))
    → (acc : List Part) (last : Option Part) (old again : Bool) → Known names last
    → has_last acc last ≡ old → has_part n (joined acc last) ≡ again
    → position ≡ (if has_positional acc last then 2 else 1)
    → judged acc (then_last last (then_part (parsed n v) r)) ≡ true
    → rows_end names (at_word (held_for acc last) idle false position) (word ∷ rest)
    ≡ map row (gathered acc (then_last last (then_part (parsed n v) r)))
option_rows names word n v rest r position free other is among on acc last true again known is_old
    is_again at fit = never _ fit (judged_old acc last _ is_old)
option_rows names word n v rest r position free other is among on acc last false true known is_old
    is_again at fit = never _ fit (judged_new acc last _ is_old
    ∙ judged_old (joined acc last) (Some (parsed n v)) r is_again)
option_rows names word n v rest r position free other is among on acc last false false known is_old
    is_again at fit =
    let rows_are : settled (built_rules names) (held_for acc last)
    ≡ held_for (joined acc last) None = settled_new names acc last known free is_old in
    let goes : walked (built_rules names) [] (at_word (held_for acc last) idle false position) word
    ≡ at_word (held_for (joined acc last ++ parsed n v ∷ []) None) idle false position =
    assigned_walked names (held_for acc last) position word n v other is among
    ∙ (ap (λ (h : Held). at_word (record
    { rows = used (built_option n) (v ∷ []) h.rows; pending = None; skip = 0 }) idle false
    position) rows_are
    ∙ ap (λ rows. at_word (record { rows = rows; pending = None; skip = 0 }) idle false position)
    (new_row (parsed n v) (joined acc last) is_again)) in
    let place_same : position ≡ place (joined acc last ++ parsed n v ∷ []) None =
    at ∙ ap (λ b. if b then 2 else 1)
    (sym (positional_joined names acc last known free)
    ∙ sym (positional_joined names (joined acc last) (Some (parsed n v)) among free
    ∙ or_nothing _) ∙ sym (or_nothing _)) in
    let inner : judged (joined acc last) (then_part (parsed n v) r) ≡ true =
    sym (judged_new acc last _ is_old) ∙ fit in
    ap (λ w. rows_end names w rest) goes
    ∙ (on (joined acc last ++ parsed n v ∷ []) place_same
    (sym (judged_new (joined acc last) (Some (parsed n v)) r is_again) ∙ inner)
    ∙ ap (map row) (sym (gathered_joined (joined acc last) (Some (parsed n v)) r inner)
    ∙ sym (gathered_joined acc last _ fit)))

rows_open : (names : List (List ℕ)) (word n : List ℕ) (rest : List (List ℕ))
    (r : Option (List Part)) (position : ℕ) → is_among positional_id names ≡ false
    → bytes_eq word (45 ∷ 45 ∷ []) ≡ false → long_of word ≡ Some (n, None) → is_among n names ≡ true
    → ((acc : List Part) → position ≡ place acc None → judged acc r ≡ true
    → rows_end names (at_word (open_held acc n) (option n) false position) rest
    ≡ map row (gathered acc r))
    → (acc : List Part) (last : Option Part) (old : Bool) → Known names last
    → has_last acc last ≡ old → position ≡ (if has_positional acc last then 2 else 1)
    → judged acc (then_last last r) ≡ true
    → rows_end names (at_word (held_for acc last) idle false position) (word ∷ rest)
    ≡ map row (gathered acc (then_last last r))
rows_open names word n rest r position free other is among on acc last true known is_old at fit =
    never _ fit (judged_old acc last _ is_old)
rows_open names word n rest r position free other is among on acc last false known is_old at fit =
    let goes : walked (built_rules names) [] (at_word (held_for acc last) idle false position) word
    ≡ at_word (open_held (joined acc last) n) (option n) false position =
    open_walked names (held_for acc last) position word n other is among
    ∙ ap (λ (h : Held). at_word (record h { pending = Some (n, []) }) (option n) false position)
    (settled_new names acc last known free is_old) in
    let place_same : position ≡ place (joined acc last) None =
    at ∙ ap (λ b. if b then 2 else 1)
    (sym (positional_joined names acc last known free) ∙ sym (or_nothing _)) in
    ap (λ w. rows_end names w rest) goes
    ∙ (on (joined acc last) place_same (sym (judged_new acc last r is_old) ∙ fit)
    ∙ ap (map row) (sym (gathered_joined acc last r fit)))

abbrev Rowed : List (List ℕ) → List (List ℕ) → List Part → Option Part → Option (List Part) → Type 0
Rowed names words acc last r =
    judged acc (then_last last r) ≡ true
    → rows_end names (at_word (held_for acc last) idle false (place acc last)) words
    ≡ map row (gathered acc (then_last last r))

long_rows : (names : List (List ℕ)) (word : List ℕ) (rest : List (List ℕ))
    (l : Option (List ℕ × Option (List ℕ))) → is_among positional_id names ≡ false
    → bytes_eq word (45 ∷ 45 ∷ []) ≡ false → long_of word ≡ l
    → Rows names rest → OpenRows names rest → (acc : List Part) (last : Option Part)
    → Known names last
    → Rowed names (word ∷ rest) acc last (then_long names l (λ waiting. parts names waiting rest))
long_rows names word rest None free other is reads opens acc last known =
    λ fit. never _ fit (judged_none acc last)
long_rows names word rest (Some (n, v)) free other is reads opens acc last known =
    go (is_among n names) v refl is
  where
    go : (b : Bool) (u : Option (List ℕ)) → is_among n names ≡ b → long_of word ≡ Some (n, u)
        → Rowed names (word ∷ rest) acc last
        (then_long names (Some (n, u)) (λ waiting. parts names waiting rest))
    go false None among at =
        subst (λ b. Rowed names (word ∷ rest) acc last
        (if b then parts names (Some n) rest else None)) (sym among)
        (λ fit. never _ fit (judged_none acc last))
    go false (Some x) among at =
        subst (λ b. Rowed names (word ∷ rest) acc last
        (if b then then_part (parsed n x) (parts names None rest) else None)) (sym among)
        (λ fit. never _ fit (judged_none acc last))
    go true None among at =
        subst (λ b. Rowed names (word ∷ rest) acc last
        (if b then parts names (Some n) rest else None)) (sym among)
        (rows_open names word n rest (parts names (Some n) rest) (place acc last) free other at
        among (λ more at_place fit. opens more n (place acc last) at_place among fit) acc last
        (has_last acc last) known refl refl)
    go true (Some x) among at =
        subst (λ b. Rowed names (word ∷ rest) acc last
        (if b then then_part (parsed n x) (parts names None rest) else None)) (sym among)
        (option_rows names word n x rest (parts names None rest) (place acc last) free other at among
        (λ more at_place fit. ap (λ k. rows_end names
        (at_word (held_for more None) idle false k) rest) at_place
        ∙ reads more None false tt fit) acc last (has_last acc last)
        (has_part n (joined acc last)) known refl refl refl)

word_rows : (names : List (List ℕ)) (word : List ℕ) (rest : List (List ℕ)) (dashed other : Bool)
    → is_among positional_id names ≡ false → is_dashed word ≡ dashed
    → bytes_eq word (45 ∷ 45 ∷ []) ≡ other
    → Rows names rest → OpenRows names rest → (acc : List Part) (last : Option Part)
    → Known names last
    → Rowed names (word ∷ rest) acc last (parts names None (word ∷ rest))
word_rows names word rest false other free is_bare is_other reads opens acc last known =
    subst (Rowed names (word ∷ rest) acc last) (sym (parts_bare names word rest is_bare))
    (rows_plain names word rest false (parts names None rest) free
    (λ h. bare_walked names h word is_bare)
    (λ more fit. ap (λ k. rows_end names (at_word (held_for more (Some (plain word))) idle false k)
    rest) (sym (place_plain more word)) ∙ reads more (Some (plain word)) false tt fit)
    acc last (has_last acc last) (has_positional acc last) known refl refl)
word_rows names word rest true true free is_dashed is_other reads opens acc last known =
    let is : word ≡ 45 ∷ 45 ∷ [] = same_text word (45 ∷ 45 ∷ []) is_other in
    let goes : walked (built_rules names) []
    (at_word (held_for acc last) idle false (place acc last)) word
    ≡ at_word (held_for acc last) idle true (place acc last) = ap
    (walked (built_rules names) [] (at_word (held_for acc last) idle false (place acc last))) is
    ∙ dashes_walked names (held_for acc last) idle (place acc last) in
    subst (Rowed names (word ∷ rest) acc last)
    (sym (parts_dashes names word rest is_dashed is_other))
    (λ fit. ap (λ w. rows_end names w rest) goes ∙ reads acc last true known fit)
word_rows names word rest true false free is_dashed is_other reads opens acc last known =
    subst (Rowed names (word ∷ rest) acc last)
    (sym (parts_long names word rest (long_of word) is_dashed is_other refl))
    (long_rows names word rest (long_of word) free is_other refl reads opens acc last known)

word_open_rows : (names : List (List ℕ)) (word : List ℕ) (rest : List (List ℕ)) (dashed : Bool)
    → is_dashed word ≡ dashed → Rows names rest → OpenRows names (word ∷ rest)
word_open_rows names word rest true is_dashed reads acc n position at among fit =
    never _ fit (ap (judged acc) (parts_open_dashed names n word rest is_dashed))
word_open_rows names word rest false is_bare reads acc n position at among fit =
    let own = parts_open names n word rest is_bare in
    ap (λ w. rows_end names w rest) (open_bare_walked names acc n position word is_bare among)
    ∙ (ap (λ k. rows_end names (at_word (held_for acc (Some (parsed n word))) idle false k) rest) at
    ∙ (reads acc (Some (parsed n word)) false among (sym (ap (judged acc) own) ∙ fit)
    ∙ ap (λ r. map row (gathered acc r)) (sym own)))

end_rows : (names : List (List ℕ)) (acc : List Part) (last : Option Part) (old : Bool)
    → Known names last → is_among positional_id names ≡ false → has_last acc last ≡ old
    → judged acc (then_last last (Some [])) ≡ true
    → finished (built_rules names) (held_for acc last)
    ≡ map row (gathered acc (then_last last (Some [])))
end_rows names acc last true known free is_old fit = never _ fit (judged_old acc last _ is_old)
end_rows names acc last false known free is_old fit =
    same_rows (settled (built_rules names) (held_for acc last)).rows names
    ∙ (ap (λ (h : Held). h.rows) (settled_new names acc last known free is_old)
    ∙ ap (map row) (sym (append-nil (joined acc last))
    ∙ sym (gathered_joined acc last (Some []) fit)))

pub all_rows : (names words : List (List ℕ)) → is_among positional_id names ≡ false
    → Rows names words × OpenRows names words
all_rows names [] free = (none, λ acc n position at among fit. never _ fit refl)
  where
    none : Rows names []
    none acc last true known fit = end_rows names acc last (has_last acc last) known free refl fit
    none acc last false known fit = end_rows names acc last (has_last acc last) known free refl fit
all_rows names (word ∷ rest) free =
    let more = all_rows names rest free in
    (all more.0 more.1, word_open_rows names word rest (is_dashed word) refl more.0)
  where
    all : Rows names rest → OpenRows names rest → Rows names (word ∷ rest)
    all reads opens acc last false known =
        word_rows names word rest (is_dashed word) (bytes_eq word (45 ∷ 45 ∷ [])) free refl refl
        reads opens acc last known
    all reads opens acc last true known =
        rows_plain names word rest true (Some (map plain rest)) free
        (λ h. trailing_walked names h word)
        (λ more fit. ap (λ k. rows_end names
        (at_word (held_for more (Some (plain word))) idle true k) rest)
        (sym (place_plain more word)) ∙ reads more (Some (plain word)) true tt fit)
        acc last (has_last acc last) (has_positional acc last) known refl refl
