-- Proofs about a line and its parts, which are separated by spaces.
use Rattle.std.proofs.Common.{◌≡◌, ◌≢◌, ℕ, zero, suc, ◌+◌, ◌<◌, ◌≤◌, List, [], ◌∷◌, ◌++◌, length, refl, sym, ap, ◌∙◌, arith, true, false, Bool, length-append}
use Rattle.std.specs.Prelude.{◌==◌, nat_lt, if◌then◌else◌}
use Rattle.std.specs.List.{list_all}
use Rattle.std.proofs.lemmas.Bool.{eqb-true}
use Rattle.psi_base.specs.Path.{parts_at, onto_first}
use Rattle.psi_base.proofs.PartLaws.{HasNone, HasFirst, first_part, parts_at-line, parts_at-all}
use Rattle.psi_spec.specs.Grammar.{joined}

joined-onto : (byte : ℕ) (parts : List (List ℕ)) → HasFirst parts → joined (onto_first byte parts) ≡ byte ∷ joined parts
joined-onto byte [] has = absurd (cc (has.2))
joined-onto byte (part ∷ []) has = refl
joined-onto byte (part ∷ next ∷ parts) has = refl

joined-empty : (parts : List (List ℕ)) → HasFirst parts → joined ([] ∷ parts) ≡ 32 ∷ joined parts
joined-empty [] has = absurd (cc (has.2))
joined-empty (part ∷ parts) has = refl

joined_if : (test : Bool) (byte : ℕ) (parts : List (List ℕ)) → HasFirst parts → (test ≡ true → byte ≡ 32) → joined (if test then [] ∷ parts else onto_first byte parts) ≡ byte ∷ joined parts
joined_if true byte parts has is = joined-empty parts has ∙ ap (λ b. b ∷ joined parts) (sym (is refl))
joined_if false byte parts has is = joined-onto byte parts has

-- joining the parts of a line gives the line
pub joined-parts : (line : List ℕ) → joined (parts_at 32 line) ≡ line
unfolding parts_at
joined-parts [] = refl
joined-parts (byte ∷ line) =
    joined_if (byte == 32) byte (parts_at 32 line) (first_part 32 line) (eqb-true byte 32) ∙ ap (λ bs. byte ∷ bs) (joined-parts line)

-- every byte is above 32, the space
abbrev pub IsPrinted : List ℕ → Type 0
IsPrinted bytes = list_all (λ byte. nat_lt 32 byte) bytes ≡ true

printed_head : (byte : ℕ) (bytes : List ℕ) → IsPrinted (byte ∷ bytes) → (32 < byte) × IsPrinted bytes
printed_head byte bytes are = (grind (arith, are), grind (arith, are))

pub printed_none : (at : ℕ) (bytes : List ℕ) → at ≤ 32 → IsPrinted bytes → HasNone at bytes (length bytes)
printed_none at [] low are k below = absurd (omega arith)
printed_none at (byte ∷ bytes) low are zero below = λ same. let high = printed_head byte bytes are in omega (arith, high.0, same)
printed_none at (byte ∷ bytes) low are (suc k) below = printed_none at bytes low (printed_head byte bytes are).1 k (omega arith)

-- every byte of each word is above 32, the space
abbrev pub AreWords : List (List ℕ) → Type 0
AreWords [] = Unit {0}
AreWords (text ∷ words) = IsPrinted text × AreWords words

-- splitting joined words gives the words
pub parts-joined : (text : List ℕ) (words : List (List ℕ)) → AreWords (text ∷ words) → parts_at 32 (joined (text ∷ words)) ≡ text ∷ words
parts-joined text [] are = parts_at-all 32 text (printed_none 32 text (omega arith) are.0)
parts-joined text (next ∷ words) are =
    parts_at-line 32 text (joined (next ∷ words)) (printed_none 32 text (omega arith) are.0) ∙ ap (λ ws. text ∷ ws) (parts-joined next words are.1)

none_append : (at : ℕ) (xs ys : List ℕ) → HasNone at xs (length xs) → HasNone at ys (length ys) → HasNone at (xs ++ ys) (length (xs ++ ys))
none_append at [] ys first second k below = second k below
none_append at (x ∷ xs) ys first second zero below = first zero (omega arith)
none_append at (x ∷ xs) ys first second (suc k) below = none_append at xs ys (λ i less. first (suc i) (omega arith)) second k (omega arith)

none_cons : (at byte : ℕ) (bytes : List ℕ) → byte ≢ at → HasNone at bytes (length bytes) → HasNone at (byte ∷ bytes) (length (byte ∷ bytes))
none_cons at byte bytes other none zero below = other
none_cons at byte bytes other none (suc k) below = none k (omega arith)

-- words joined by spaces have no newline
pub joined-no_newline : (words : List (List ℕ)) → AreWords words → HasNone 10 (joined words) (length (joined words))
joined-no_newline [] are = λ k below. absurd (omega arith)
joined-no_newline (text ∷ []) are = printed_none 10 text (omega arith) are.0
joined-no_newline (text ∷ next ∷ words) are =
    none_append 10 text (32 ∷ joined (next ∷ words)) (printed_none 10 text (omega arith) are.0)
    (none_cons 10 32 (joined (next ∷ words)) (λ same. omega (arith, same)) (joined-no_newline (next ∷ words) are.1))

-- the number of bytes in words with a space before each
abbrev pub suffix : List (List ℕ) → ℕ
suffix [] = 0
suffix (text ∷ words) = 1 + length text + suffix words

pub length-joined : (text : List ℕ) (words : List (List ℕ)) → length (joined (text ∷ words)) ≡ length text + suffix words
length-joined text [] = omega arith
length-joined text (next ∷ words) = omega (arith, length-append text (32 ∷ joined (next ∷ words)), length-joined next words)
