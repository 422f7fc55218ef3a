-- Proofs about parsing words one by one.
use Rattle.std.proofs.Common.{◌≡◌, ℕ, ◌∷◌, ◌==◌, ◌&&◌, ◌||◌, List, [], Bool, true, false}
use Rattle.std.proofs.Common.{Option, Some, None, map, refl, sym, ap, ◌∙◌, arith, true≢false, subst}
use Rattle.std.proofs.Common.{is_some, if◌then◌else◌}
use Rattle.std.specs.Str.{bytes_eq, is_utf8}
use Rattle.clap.specs.Lexer.{long_of}
use Rattle.clap.specs.Walk.{Row, Walk, Waiting, idle, option, walked}
use Rattle.clap.specs.Faults.{walk_fault, turn_fault}
use Rattle.run_spec.specs.Words.{is_among, is_dashed}
use Rattle.psi_words.specs.Clap.{positional_id}
use Rattle.psi_words.proofs.Parts.{Part, parsed, plain, has_part, judged, parts, then_part}
use Rattle.psi_words.proofs.Parts.{then_long, AreTexts}
use Rattle.psi_words.proofs.Finding.{same_text}
use Rattle.psi_words.proofs.Rules.{built_rules}
use Rattle.psi_words.proofs.Walking.{held_for, joined, then_last, has_last, Known, top}
use Rattle.psi_words.proofs.Walking.{end_fault, is_nil, at_word, place, total, total_step}
use Rattle.psi_words.proofs.Walking.{end_is}
use Rattle.psi_words.proofs.Turning.{trailing_turn, trailing_stray, trailing_walked, bare_turn}
use Rattle.psi_words.proofs.Turning.{bare_stray, bare_walked, dashes_turn}
use Rattle.psi_words.proofs.Turning.{dashes_walked, none_turn, assigned_turn, open_turn}
use Rattle.psi_words.proofs.Turning.{short_turn, open_held, open_bare_turn}
use Rattle.psi_words.proofs.Turning.{open_bare_walked, open_settles, false_first}
use Rattle.psi_words.proofs.Reading.{or_true, has_positional, Reads, Opens, judged_none, plain_reads, assigned_reads, open_reads, refused_reads}

-- ---- one more word

equal_45 : (x : ℕ) → (x == 45) ≡ true → x ≡ 45
equal_45 x e = grind arith

short_rest : (x y : ℕ) (rest : List ℕ) (b : Bool) → (y == 45) ≡ b → x ≡ 45
    → bytes_eq (x ∷ y ∷ rest) (45 ∷ 45 ∷ []) ≡ false → long_of (x ∷ y ∷ rest) ≡ None → b ≡ false
short_rest x y rest false is at other none = refl
short_rest x y [] true is at other none = absurd (true≢false (sym (rw (at, is) refl) ∙ other))
short_rest x y (z ∷ zs) true is at other none =
    let some : is_some (long_of (x ∷ y ∷ z ∷ zs)) ≡ true =
    rw (at, is) refl in absurd (true≢false (sym some ∙ ap is_some none))

-- a word that begins with a hyphen, but is neither `--` nor a long option
short_word : (names : List (List ℕ)) (word : List ℕ) (rows : List Row)
    (pending : Option (List ℕ × List (List ℕ))) (waiting : Waiting) (position : ℕ)
    → is_dashed word ≡ true → bytes_eq word (45 ∷ 45 ∷ []) ≡ false → long_of word ≡ None
    → is_utf8 word ≡ true
    → is_nil (turn_fault (top names) []
    (at_word (record { rows = rows; pending = pending; skip = 0 }) waiting false position) word)
    ≡ false
short_word names [] rows pending waiting position dashed other none utf8 =
    absurd (true≢false (sym dashed))
short_word names (x ∷ []) rows pending waiting position dashed other none utf8 =
    absurd (true≢false (sym dashed))
short_word names (x ∷ y ∷ rest) rows pending waiting position dashed other none utf8 =
    let at : x ≡ 45 = equal_45 x dashed in
    let second : (y == 45) ≡ false = short_rest x y rest (y == 45) refl at other none in
    rw at (short_turn names rows pending waiting position y rest second
    (subst (λ k. is_utf8 (k ∷ y ∷ rest) ≡ true) at utf8))

pub parts_bare : (names : List (List ℕ)) (word : List ℕ) (rest : List (List ℕ))
    → is_dashed word ≡ false → parts names None (word ∷ rest)
    ≡ then_part (plain word) (parts names None rest)
parts_bare names word rest bare = rw bare refl

pub parts_dashes : (names : List (List ℕ)) (word : List ℕ) (rest : List (List ℕ))
    → is_dashed word ≡ true → bytes_eq word (45 ∷ 45 ∷ []) ≡ true
    → parts names None (word ∷ rest) ≡ Some (map plain rest)
parts_dashes names word rest dashed is = rw (dashed, is) refl

pub parts_long : (names : List (List ℕ)) (word : List ℕ) (rest : List (List ℕ))
    (l : Option (List ℕ × Option (List ℕ))) → is_dashed word ≡ true
    → bytes_eq word (45 ∷ 45 ∷ []) ≡ false → long_of word ≡ l
    → parts names None (word ∷ rest) ≡ then_long names l (λ waiting. parts names waiting rest)
parts_long names word rest l dashed other is = rw (dashed, other, is) refl

pub place_plain : (acc : List Part) (word : List ℕ) → place acc (Some (plain word)) ≡ 2
place_plain acc word = ap (λ b. if b then 2 else 1) (or_true (has_part positional_id acc))

abbrev Judged : List (List ℕ) → List (List ℕ) → List Part → Option Part → Option (List Part)
    → Type 0
Judged names words acc last r =
    is_nil (total names (at_word (held_for acc last) idle false (place acc last)) words)
    ≡ judged acc (then_last last r)

long_reads : (names : List (List ℕ)) (word : List ℕ) (rest : List (List ℕ))
    (l : Option (List ℕ × Option (List ℕ))) → is_among positional_id names ≡ false
    → is_utf8 word ≡ true → is_dashed word ≡ true → bytes_eq word (45 ∷ 45 ∷ []) ≡ false
    → long_of word ≡ l
    → Reads names rest → Opens names rest → (acc : List Part) (last : Option Part)
    → Known names last
    → Judged names (word ∷ rest) acc last (then_long names l (λ waiting. parts names waiting rest))
long_reads names word rest None free utf8 dashed other is reads opens acc last known =
    refused_reads names _ word rest
    (short_word names word _ _ idle (place acc last) dashed other is utf8)
    ∙ sym (judged_none acc last)
long_reads names word rest (Some (n, v)) free utf8 dashed other is reads opens acc last known =
    go (is_among n names) v refl is
  where
    go : (b : Bool) (u : Option (List ℕ)) → is_among n names ≡ b → long_of word ≡ Some (n, u)
        → Judged names (word ∷ rest) acc last
        (then_long names (Some (n, u)) (λ waiting. parts names waiting rest))
    go false None among at =
        refused_reads names _ word rest
        (none_turn names _ idle (place acc last) word n None other at among)
        ∙ sym (judged_none acc last)
        ∙ ap (λ b. judged acc (then_last last (if b then parts names (Some n) rest else None)))
        (sym among)
    go false (Some x) among at =
        refused_reads names _ word rest
        (none_turn names _ idle (place acc last) word n (Some x) other at among)
        ∙ sym (judged_none acc last)
        ∙ ap (λ b. judged acc (then_last last
        (if b then then_part (parsed n x) (parts names None rest) else None))) (sym among)
    go true None among at =
        open_reads names word n rest (parts names (Some n) rest) (place acc last) free other at
        among (λ more at_place. opens more n (place acc last) at_place among) acc last
        (has_last acc last) known refl refl
        ∙ ap (λ b. judged acc (then_last last (if b then parts names (Some n) rest else None)))
        (sym among)
    go true (Some x) among at =
        assigned_reads names word n x rest (parts names None rest) (place acc last) free other at among
        (λ more at_place. ap (λ k. is_nil
        (total names (at_word (held_for more None) idle false k) rest)) at_place
        ∙ reads more None false tt) acc last (has_last acc last) (has_part n (joined acc last))
        known refl refl refl ∙ ap (λ b. judged acc
        (then_last last (if b then then_part (parsed n x) (parts names None rest) else None)))
        (sym among)

word_reads : (names : List (List ℕ)) (word : List ℕ) (rest : List (List ℕ)) (dashed other : Bool)
    → is_among positional_id names ≡ false → is_utf8 word ≡ true → is_dashed word ≡ dashed
    → bytes_eq word (45 ∷ 45 ∷ []) ≡ other
    → Reads names rest → Opens names rest → (acc : List Part) (last : Option Part)
    → Known names last
    → Judged names (word ∷ rest) acc last (parts names None (word ∷ rest))
word_reads names word rest false other free utf8 is_bare is_other reads opens acc last known =
    plain_reads names word rest false (parts names None rest) free
    (λ h. bare_turn names h word is_bare) (λ h. bare_stray names h word is_bare)
    (λ h. bare_walked names h word is_bare)
    (λ more. ap (λ k. is_nil (total names (at_word (held_for more (Some (plain word))) idle false k)
    rest)) (sym (place_plain more word)) ∙ reads more (Some (plain word)) false tt)
    acc last (has_last acc last) (has_positional acc last) known refl refl
    ∙ ap (λ r. judged acc (then_last last r)) (sym (parts_bare names word rest is_bare))
word_reads names word rest true true free utf8 is_dashed is_other reads opens acc last known =
    let is : word ≡ 45 ∷ 45 ∷ [] = same_text word (45 ∷ 45 ∷ []) is_other in
    let turn : turn_fault (top names) [] (at_word (held_for acc last) idle false (place acc last))
    word ≡ [] = ap (turn_fault (top names) []
    (at_word (held_for acc last) idle false (place acc last))) is
    ∙ dashes_turn names (held_for acc last) idle (place acc last) in
    let goes : walked (built_rules names) []
    (at_word (held_for acc last) idle false (place acc last)) word
    ≡ at_word (held_for acc last) idle true (place acc last) = ap
    (walked (built_rules names) [] (at_word (held_for acc last) idle false (place acc last))) is
    ∙ dashes_walked names (held_for acc last) idle (place acc last) in
    total_step names _ word rest ∙ (ap
    (λ b. b && is_nil (total names (walked (built_rules names) []
    (at_word (held_for acc last) idle false (place acc last)) word) rest)) (ap is_nil turn)
    ∙ (ap (λ w. is_nil (total names w rest)) goes
    ∙ (reads acc last true known
    ∙ ap (λ r. judged acc (then_last last r))
    (sym (parts_dashes names word rest is_dashed is_other)))))
word_reads names word rest true false free utf8 is_dashed is_other reads opens acc last known =
    long_reads names word rest (long_of word) free utf8 is_dashed is_other refl reads opens acc last
    known
    ∙ ap (λ r. judged acc (then_last last r))
    (sym (parts_long names word rest (long_of word) is_dashed is_other refl))

-- ---- one more word after an option that waits for its value

total_end : (names : List (List ℕ)) (w : Walk) → total names w [] ≡ end_fault names w.held
unfolding walk_fault
total_end names w = refl

open_end : (names : List (List ℕ)) (acc : List Part) (n : List ℕ) → is_among n names ≡ true
    → is_nil (end_fault names (open_held acc n)) ≡ false
open_end names acc n among = false_first _ _ (open_settles names acc n among)

stuck : (names : List (List ℕ)) (acc : List Part) (n : List ℕ) (words : List (List ℕ)) (has : Bool)
    → is_among n names ≡ true
    → is_nil (total names (at_word (open_held acc n) (option n) true (if has then 2 else 1)) words)
    ≡ false
stuck names acc n [] has among = ap is_nil (total_end names _) ∙ open_end names acc n among
stuck names acc n (word ∷ rest) true among =
    refused_reads names _ word rest (trailing_stray names (open_held acc n) (option n) word)
stuck names acc n (word ∷ rest) false among =
    refused_reads names _ word rest
    (ap is_nil (trailing_turn names (open_held acc n) (option n) word)
    ∙ open_settles names acc n among)

open_long : (names : List (List ℕ)) (word : List ℕ) (l : Option (List ℕ × Option (List ℕ)))
    (acc : List Part) (n : List ℕ) (position : ℕ) → is_among n names ≡ true → is_utf8 word ≡ true
    → is_dashed word ≡ true → bytes_eq word (45 ∷ 45 ∷ []) ≡ false → long_of word ≡ l
    → is_nil (turn_fault (top names) [] (at_word (open_held acc n) (option n) false position) word)
    ≡ false
open_long names word None acc n position among utf8 dashed other is =
    short_word names word _ _ (option n) position dashed other is utf8
open_long names word (Some (m, v)) acc n position among utf8 dashed other is =
    go (is_among m names) v refl is
  where
    go : (b : Bool) (u : Option (List ℕ)) → is_among m names ≡ b → long_of word ≡ Some (m, u)
        → is_nil (turn_fault (top names) [] (at_word (open_held acc n) (option n) false position)
        word) ≡ false
    go false u absent at =
        none_turn names (open_held acc n) (option n) position word m u other at absent
    go true None found at =
        ap is_nil (open_turn names (open_held acc n) (option n) position word m other at found)
        ∙ false_first _ _ (open_settles names acc n among)
    go true (Some x) found at =
        ap is_nil (assigned_turn names (open_held acc n) (option n) position word m x other at found)
        ∙ false_first _ _ (false_first _ _ (open_settles names acc n among))

pub parts_open : (names : List (List ℕ)) (n word : List ℕ) (rest : List (List ℕ))
    → is_dashed word ≡ false → parts names (Some n) (word ∷ rest)
    ≡ then_part (parsed n word) (parts names None rest)
parts_open names n word rest bare = rw bare refl

pub parts_open_dashed : (names : List (List ℕ)) (n word : List ℕ) (rest : List (List ℕ))
    → is_dashed word ≡ true → parts names (Some n) (word ∷ rest) ≡ None
parts_open_dashed names n word rest dashed = rw dashed refl

word_opens : (names : List (List ℕ)) (word : List ℕ) (rest : List (List ℕ)) (dashed other : Bool)
    → is_utf8 word ≡ true → is_dashed word ≡ dashed → bytes_eq word (45 ∷ 45 ∷ []) ≡ other
    → Reads names rest → Opens names (word ∷ rest)
word_opens names word rest false other utf8 is_bare is_other reads acc n position at among =
    total_step names _ word rest
    ∙ (ap (λ b. b && is_nil (total names
    (walked (built_rules names) [] (at_word (open_held acc n) (option n) false position) word)
    rest)) (ap is_nil (open_bare_turn names (open_held acc n) n position word is_bare))
    ∙ (ap (λ w. is_nil (total names w rest))
    (open_bare_walked names acc n position word is_bare among)
    ∙ (ap (λ k. is_nil (total names (at_word (held_for acc (Some (parsed n word))) idle false k)
    rest)) at
    ∙ (reads acc (Some (parsed n word)) false among
    ∙ ap (judged acc) (sym (parts_open names n word rest is_bare))))))
word_opens names word rest true true utf8 is_dashed is_other reads acc n position at among =
    let is : word ≡ 45 ∷ 45 ∷ [] = same_text word (45 ∷ 45 ∷ []) is_other in
    let goes : walked (built_rules names) [] (at_word (open_held acc n) (option n) false position)
    word ≡ at_word (open_held acc n) (option n) true position = ap
    (walked (built_rules names) [] (at_word (open_held acc n) (option n) false position)) is
    ∙ dashes_walked names (open_held acc n) (option n) position in
    let turn : turn_fault (top names) [] (at_word (open_held acc n) (option n) false position) word
    ≡ [] = ap (turn_fault (top names) [] (at_word (open_held acc n) (option n) false position))
    is ∙ dashes_turn names (open_held acc n) (option n) position in
    total_step names _ word rest
    ∙ (ap (λ b. b && is_nil (total names
    (walked (built_rules names) [] (at_word (open_held acc n) (option n) false position) word)
    rest)) (ap is_nil turn)
    ∙ (ap (λ w. is_nil (total names w rest)) goes
    ∙ (ap (λ k. is_nil (total names (at_word (open_held acc n) (option n) true k) rest)) at
    ∙ (stuck names acc n rest (has_part positional_id acc || false) among
    ∙ ap (judged acc) (sym (parts_open_dashed names n word rest is_dashed))))))
word_opens names word rest true false utf8 is_dashed is_other reads acc n position at among =
    refused_reads names _ word rest
    (open_long names word (long_of word) acc n position among utf8 is_dashed is_other refl)
    ∙ ap (judged acc) (sym (parts_open_dashed names n word rest is_dashed))

-- ---- all words

pub all_read : (names words : List (List ℕ)) → is_among positional_id names ≡ false → AreTexts words
    → Reads names words × Opens names words
all_read names [] free texts =
    (none, λ acc n position at among. ap is_nil (total_end names _) ∙ open_end names acc n among)
  where
    none : Reads names []
    none acc last true known =
        ap is_nil (total_end names _) ∙ end_is names acc last (has_last acc last) known free refl
    none acc last false known =
        ap is_nil (total_end names _) ∙ end_is names acc last (has_last acc last) known free refl
all_read names (word ∷ rest) free texts =
    let more = all_read names rest free texts.1 in (
      all more.0 more.1,
      word_opens names word rest (is_dashed word) (bytes_eq word (45 ∷ 45 ∷ []))
          texts.0 refl refl more.0,
    )
  where
    all : Reads names rest → Opens names rest → Reads names (word ∷ rest)
    all reads opens acc last false known =
        word_reads names word rest (is_dashed word) (bytes_eq word (45 ∷ 45 ∷ [])) free texts.0 refl
        refl reads opens acc last known
    all reads opens acc last true known =
        plain_reads names word rest true (Some (map plain rest)) free
        (λ h. trailing_turn names h idle word) (λ h. trailing_stray names h idle word)
        (λ h. trailing_walked names h word)
        (λ more. ap (λ k. is_nil (total names
        (at_word (held_for more (Some (plain word))) idle true k) rest))
        (sym (place_plain more word)) ∙ reads more (Some (plain word)) true tt)
        acc last (has_last acc last) (has_positional acc last) known refl refl
