use Rattle.std.proofs.Common.{◌≡◌, ℕ, ◌∷◌, ◌==◌, ◌&&◌, suc, List, [], Bool, true, false, Option}
use Rattle.std.proofs.Common.{Some, None, map, length, refl, sym, ap, ◌∙◌, true≢false}
use Rattle.std.specs.Str.{bytes_eq, is_utf8, chars}
use Rattle.std.specs.Prelude.{slice_get}
use Rattle.clap.specs.Lexer.{long_of, short_of}
use Rattle.clap.specs.Walk.{is_pending, used, Row, Held, Walk, Waiting, idle, option, positional}
use Rattle.clap.specs.Walk.{settled, walked}
use Rattle.clap.specs.Kinds.{Kinds, or_else}
use Rattle.clap.specs.Faults.{positional_fault, use_fault, settle_fault, turn_fault, flags_fault}
use Rattle.run_spec.specs.Words.{is_among, is_dashed}
use Rattle.psi_words.specs.Clap.{positional_id}
use Rattle.psi_words.proofs.Parts.{Part, parsed}
use Rattle.psi_words.proofs.Finding.{text_itself, by_long, by_id}
use Rattle.psi_words.proofs.Rules.{built_option, built_positional, built_rules, by_short}
use Rattle.psi_words.proofs.Rules.{by_index_1, by_index_2}
use Rattle.psi_words.proofs.Walking.{row, held_for, top, is_nil, at_word, nil_else}

-- ---- the form of a word

pub bare_long : (word : List ℕ) → is_dashed word ≡ false → long_of word ≡ None
bare_long [] bare = refl
bare_long (x ∷ []) bare = go (x == 45) refl
  where
    go : (b : Bool) → (x == 45) ≡ b → long_of (x ∷ []) ≡ None
    go true is = rw is refl
    go false is = rw is refl
bare_long (x ∷ y ∷ rest) bare = rw bare refl

pub bare_short : (word : List ℕ) → is_dashed word ≡ false → short_of word ≡ None
bare_short [] bare = refl
bare_short (x ∷ []) bare = go (x == 45) refl
  where
    go : (b : Bool) → (x == 45) ≡ b → short_of (x ∷ []) ≡ None
    go true is = rw is refl
    go false is = rw is refl
bare_short (x ∷ y ∷ rest) bare = rw bare refl

pub bare_other : (word : List ℕ) → is_dashed word ≡ false → bytes_eq word (45 ∷ 45 ∷ []) ≡ false
bare_other [] bare = refl
bare_other (x ∷ []) bare = go (x == 45) refl
  where
    go : (b : Bool) → (x == 45) ≡ b → bytes_eq (x ∷ []) (45 ∷ 45 ∷ []) ≡ false
    go true is = rw is refl
    go false is = rw is refl
bare_other (x ∷ y ∷ rest) bare = rw bare refl

-- ---- a positional argument

pub and_false : (b : Bool) → b && false ≡ false
and_false true = refl
and_false false = refl

pub positional_turn : (names : List (List ℕ)) (h : Held)
    → positional_fault (built_rules names) false built_positional h
    ≡ settle_fault (built_rules names) false h
positional_turn names h = rw (and_false (is_pending built_positional h.pending)) refl

pub trailing_turn : (names : List (List ℕ)) (h : Held) (waiting : Waiting) (word : List ℕ)
    → turn_fault (top names) [] (at_word h waiting true 1) word
    ≡ settle_fault (built_rules names) false h
trailing_turn names h waiting word = rw (by_index_1 names) (positional_turn names h)

pub trailing_stray : (names : List (List ℕ)) (h : Held) (waiting : Waiting) (word : List ℕ)
    → is_nil (turn_fault (top names) [] (at_word h waiting true 2) word) ≡ false
trailing_stray names h waiting word = rw (by_index_2 names) refl

pub bare_turn : (names : List (List ℕ)) (h : Held) (word : List ℕ) → is_dashed word ≡ false
    → turn_fault (top names) [] (at_word h idle false 1) word
    ≡ settle_fault (built_rules names) false h
bare_turn names h word bare =
    rw (bare_other word bare, bare_long word bare, bare_short word bare, by_index_1 names)
    (positional_turn names h)

pub bare_stray : (names : List (List ℕ)) (h : Held) (word : List ℕ) → is_dashed word ≡ false
    → is_nil (turn_fault (top names) [] (at_word h idle false 2) word) ≡ false
bare_stray names h word bare =
    rw (bare_other word bare, bare_long word bare, bare_short word bare, by_index_2 names) refl

-- the state of the walk after a positional argument
abbrev pub positional_walked : (names : List (List ℕ)) (h : Held) (t : Bool) (word : List ℕ) → Walk
positional_walked names h t word =
    at_word (record (settled (built_rules names) h) { pending = Some (positional_id, word ∷ []) })
    idle t 2

pub trailing_walked : (names : List (List ℕ)) (h : Held) (word : List ℕ)
    → walked (built_rules names) [] (at_word h idle true 1) word
    ≡ positional_walked names h true word
unfolding walked
trailing_walked names h word =
    rw (by_index_1 names, and_false (is_pending built_positional h.pending)) refl

pub bare_walked : (names : List (List ℕ)) (h : Held) (word : List ℕ) → is_dashed word ≡ false
    → walked (built_rules names) [] (at_word h idle false 1) word
    ≡ positional_walked names h false word
unfolding walked
bare_walked names h word bare =
    rw (
      bare_other word bare,
      bare_long word bare,
      bare_short word bare,
      by_index_1 names,
      and_false
          (is_pending built_positional h.pending),
    ) refl

-- ---- `--`

pub dashes_turn : (names : List (List ℕ)) (h : Held) (waiting : Waiting) (position : ℕ)
    → turn_fault (top names) [] (at_word h waiting false position) (45 ∷ 45 ∷ []) ≡ []
dashes_turn names h idle position = refl
dashes_turn names h (option id) position = refl
dashes_turn names h positional position = refl

pub dashes_walked : (names : List (List ℕ)) (h : Held) (waiting : Waiting) (position : ℕ)
    → walked (built_rules names) [] (at_word h waiting false position) (45 ∷ 45 ∷ [])
    ≡ at_word h waiting true position
unfolding walked
dashes_walked names h idle position = refl
dashes_walked names h (option id) position = refl
dashes_walked names h positional position = refl

-- ---- an option

pub none_turn : (names : List (List ℕ)) (h : Held) (waiting : Waiting) (position : ℕ)
    (word n : List ℕ) (v : Option (List ℕ)) → bytes_eq word (45 ∷ 45 ∷ []) ≡ false
    → long_of word ≡ Some (n, v) → is_among n names ≡ false
    → is_nil (turn_fault (top names) [] (at_word h waiting false position) word) ≡ false
none_turn names h idle position word n v other is none = rw (other, is, by_long n names, none) refl
none_turn names h (option id) position word n v other is none =
    rw (other, is, by_long n names, none) refl
none_turn names h positional position word n v other is none =
    rw (other, is, by_long n names, none) refl

pub assigned_turn : (names : List (List ℕ)) (h : Held) (waiting : Waiting) (position : ℕ)
    (word n v : List ℕ) → bytes_eq word (45 ∷ 45 ∷ []) ≡ false → long_of word ≡ Some (n, Some v)
    → is_among n names ≡ true
    → turn_fault (top names) [] (at_word h waiting false position) word
    ≡ or_else (or_else (settle_fault (built_rules names) false h)
    (use_fault false (built_option n) (v ∷ []) (settled (built_rules names) h).rows)) []
assigned_turn names h idle position word n v other is among =
    rw (other, is, by_long n names, among) refl
assigned_turn names h (option id) position word n v other is among =
    rw (other, is, by_long n names, among) refl
assigned_turn names h positional position word n v other is among =
    rw (other, is, by_long n names, among) refl

pub assigned_walked : (names : List (List ℕ)) (h : Held) (position : ℕ) (word n v : List ℕ)
    → bytes_eq word (45 ∷ 45 ∷ []) ≡ false → long_of word ≡ Some (n, Some v)
    → is_among n names ≡ true
    → walked (built_rules names) [] (at_word h idle false position) word
    ≡ at_word (record h {
      rows = used (built_option n) (v ∷ [])
          (settled (built_rules names) h).rows;
      pending = None;
    }) idle false position
unfolding walked
assigned_walked names h position word n v other is among = rw (other, is, by_long n names, among) refl

pub open_turn : (names : List (List ℕ)) (h : Held) (waiting : Waiting) (position : ℕ)
    (word n : List ℕ) → bytes_eq word (45 ∷ 45 ∷ []) ≡ false → long_of word ≡ Some (n, None)
    → is_among n names ≡ true
    → turn_fault (top names) [] (at_word h waiting false position) word
    ≡ or_else (settle_fault (built_rules names) false h) []
open_turn names h idle position word n other is among = rw (other, is, by_long n names, among) refl
open_turn names h (option id) position word n other is among =
    rw (other, is, by_long n names, among) refl
open_turn names h positional position word n other is among =
    rw (other, is, by_long n names, among) refl

pub open_walked : (names : List (List ℕ)) (h : Held) (position : ℕ) (word n : List ℕ)
    → bytes_eq word (45 ∷ 45 ∷ []) ≡ false → long_of word ≡ Some (n, None) → is_among n names ≡ true
    → walked (built_rules names) [] (at_word h idle false position) word
    ≡ at_word (record (settled (built_rules names) h) { pending = Some (n, []) }) (option n)
    false position
unfolding walked
open_walked names h position word n other is among = rw (other, is, by_long n names, among) refl

-- ---- a bundle of flags, which the command doesn't have

pub flags_turn : (names : List (List ℕ)) (h : Held) (y : ℕ) (rest : List ℕ) (x : ℕ)
    → slice_get (chars (y ∷ rest)) 0 ≡ Some x
    → is_nil (flags_fault (built_rules names) false (suc (length rest)) (y ∷ rest) 0 h) ≡ false
unfolding flags_fault
flags_turn names h y rest x first = rw (first, by_short names x) refl

-- the word after a hyphen has a first character
pub first_char : (y : ℕ) (rest : List ℕ) → is_utf8 (45 ∷ y ∷ rest) ≡ true
    → (x : ℕ) × (slice_get (chars (y ∷ rest)) 0 ≡ Some x)
unfolding is_utf8 chars lib.Utf8.encode
first_char y rest utf8 = go (chars (y ∷ rest)) refl
  where
    go : (cs : List ℕ) → chars (y ∷ rest) ≡ cs → (x : ℕ) × (slice_get (chars (y ∷ rest)) 0 ≡ Some x)
    go [] is = absurd (true≢false (sym utf8 ∙ rw is refl))
    go (c ∷ cs) is = (c, ap (λ ds. slice_get ds 0) is)

abbrev pub held_with : List Row → Option (List ℕ × List (List ℕ)) → Held
held_with rows pending = record { rows = rows; pending = pending; skip = 0 }

pub false_first : (a b : Kinds) → is_nil a ≡ false → is_nil (or_else a b) ≡ false
false_first a b fails = nil_else a b ∙ ap (λ x. x && is_nil b) fails

short_other : (y : ℕ) (rest : List ℕ) → (y == 45) ≡ false
    → bytes_eq (45 ∷ y ∷ rest) (45 ∷ 45 ∷ []) ≡ false
short_other y rest other = rw other refl

short_long : (y : ℕ) (rest : List ℕ) → (y == 45) ≡ false → long_of (45 ∷ y ∷ rest) ≡ None
short_long y rest other = rw other refl

short_is : (y : ℕ) (rest : List ℕ) → (y == 45) ≡ false → short_of (45 ∷ y ∷ rest) ≡ Some (y ∷ rest)
short_is y rest other = rw other refl

pub short_turn : (names : List (List ℕ)) (rows : List Row)
    (pending : Option (List ℕ × List (List ℕ))) (waiting : Waiting) (position : ℕ) (y : ℕ)
    (rest : List ℕ) → (y == 45) ≡ false → is_utf8 (45 ∷ y ∷ rest) ≡ true
    → is_nil (turn_fault (top names) [] (at_word (held_with rows pending) waiting false position)
    (45 ∷ y ∷ rest)) ≡ false
short_turn names rows pending idle position y rest other utf8 =
    let x = first_char y rest utf8 in
    rw (short_other y rest other, short_long y rest other, short_is y rest other)
    (false_first _ _ (flags_turn names (held_with rows pending) y rest x.0 x.1))
short_turn names rows pending (option id) position y rest other utf8 =
    let x = first_char y rest utf8 in
    rw (short_other y rest other, short_long y rest other, short_is y rest other)
    (false_first _ _ (flags_turn names (held_with rows pending) y rest x.0 x.1))
short_turn names rows pending positional position y rest other utf8 =
    let x = first_char y rest utf8 in
    rw (short_other y rest other, short_long y rest other, short_is y rest other)
    (false_first _ _ (flags_turn names (held_with rows pending) y rest x.0 x.1))

-- ---- an option that waits for its value

abbrev pub open_held : List Part → List ℕ → Held
open_held acc n = record { rows = map row acc; pending = Some (n, []); skip = 0 }

pub open_bare_turn : (names : List (List ℕ)) (h : Held) (n : List ℕ) (position : ℕ) (word : List ℕ)
    → is_dashed word ≡ false → turn_fault (top names) [] (at_word h (option n) false position) word
    ≡ []
open_bare_turn names h n position word bare =
    rw (bare_other word bare, bare_long word bare, bare_short word bare) refl

pub open_bare_walked : (names : List (List ℕ)) (acc : List Part) (n : List ℕ) (position : ℕ)
    (word : List ℕ) → is_dashed word ≡ false → is_among n names ≡ true
    → walked (built_rules names) [] (at_word (open_held acc n) (option n) false position) word
    ≡ at_word (held_for acc (Some (parsed n word))) idle false position
unfolding walked
open_bare_walked names acc n position word bare among =
    rw (
      bare_other word bare,
      bare_long word bare,
      bare_short word bare,
      by_id n names among,
      text_itself n,
    ) refl

pub open_settles : (names : List (List ℕ)) (acc : List Part) (n : List ℕ) → is_among n names ≡ true
    → is_nil (settle_fault (built_rules names) false (open_held acc n)) ≡ false
open_settles names acc n among = rw (by_id n names among) refl
