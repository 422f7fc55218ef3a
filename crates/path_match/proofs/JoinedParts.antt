-- Proofs about texts that are joined from parts with a separator byte, and about the parts between
-- the separators.
use Rattle.std.proofs.Common.{◌≡◌, ℕ, zero, suc, List, [], ◌∷◌, ◌++◌, length, refl, sym, ap, ◌∙◌, arith, Bool, true, false}
use Rattle.std.specs.Prelude.{◌==◌, ◌&&◌, if◌then◌else◌, map}
use Rattle.std.specs.List.{join_with_byte, list_all}
use Rattle.std.proofs.lemmas.Bool.{and_parts, and_from, eqb-true}
use Rattle.psi_base.specs.Path.{onto_first, parts_at}
use Rattle.psi_base.proofs.PartLaws.{HasFirst, HasNone, first_part, parts_at-all, parts_at-line}

-- ---- tests that all elements pass

pub list_all-map : {X Y : Type 0} (test : Y → Bool) (f : X → Y) (xs : List X) → list_all test (map f xs) ≡ list_all (λ x. test (f x)) xs
list_all-map test f [] = refl
list_all-map test f (x ∷ xs) = ap (λ b. test (f x) && b) (list_all-map test f xs)

pub list_all-weaker : {X : Type 0} (test other : X → Bool) (xs : List X) → ((x : X) → test x ≡ true → other x ≡ true) → list_all test xs ≡ true → list_all other xs ≡ true
list_all-weaker test other [] weaker pass = refl
list_all-weaker test other (x ∷ xs) weaker pass =
    let both = and_parts (test x) (list_all test xs) pass in
    and_from (other x) (list_all other xs) (weaker x both.0) (list_all-weaker test other xs weaker both.1)

-- ---- parts that are joined

-- if all bytes pass a test that the separator fails, they don't contain the separator
pub none_of : (at : ℕ) (test : ℕ → Bool) (bytes : List ℕ) → test at ≡ false → list_all test bytes ≡ true → HasNone at bytes (length bytes)
none_of at test [] fails pass k below = absurd (omega arith)
none_of at test (byte ∷ bytes) fails pass zero below = λ same. let passes = (and_parts (test byte) (list_all test bytes) pass).0 in let is : test byte ≡ test at = ap test same in absurd cc
none_of at test (byte ∷ bytes) fails pass (suc k) below = none_of at test bytes fails (and_parts (test byte) (list_all test bytes) pass).1 k (omega arith)

-- splitting the joined text of such parts gives the parts
pub parts-joined_by : (at : ℕ) (test : ℕ → Bool) (part : List ℕ) (parts : List (List ℕ)) → test at ≡ false → list_all (list_all test) (part ∷ parts) ≡ true →
    parts_at at (join_with_byte at (part ∷ parts)) ≡ part ∷ parts
parts-joined_by at test part [] fails pass = parts_at-all at part (none_of at test part fails (and_parts (list_all test part) true pass).0)
parts-joined_by at test part (next ∷ parts) fails pass =
    let both = and_parts (list_all test part) (list_all (list_all test) (next ∷ parts)) pass in
    parts_at-line at part (join_with_byte at (next ∷ parts)) (none_of at test part fails both.0) ∙ ap (λ ps. part ∷ ps) (parts-joined_by at test next parts fails both.1)

list_all-append : (test : ℕ → Bool) (xs ys : List ℕ) → list_all test xs ≡ true → list_all test ys ≡ true → list_all test (xs ++ ys) ≡ true
list_all-append test [] ys first second = second
list_all-append test (x ∷ xs) ys first second =
    let both = and_parts (test x) (list_all test xs) first in
    and_from (test x) (list_all test (xs ++ ys)) both.0 (list_all-append test xs ys both.1 second)

-- a joined text passes a test that the separator and all bytes of the parts pass
pub list_all-join : (at : ℕ) (test : ℕ → Bool) (parts : List (List ℕ)) → test at ≡ true → list_all (list_all test) parts ≡ true → list_all test (join_with_byte at parts) ≡ true
list_all-join at test [] passes pass = refl
list_all-join at test (part ∷ []) passes pass = (and_parts (list_all test part) true pass).0
list_all-join at test (part ∷ next ∷ parts) passes pass =
    let both = and_parts (list_all test part) (list_all (list_all test) (next ∷ parts)) pass in
    list_all-append test part (at ∷ join_with_byte at (next ∷ parts)) both.0 (and_from (test at) (list_all test (join_with_byte at (next ∷ parts))) passes (list_all-join at test (next ∷ parts) passes both.1))

-- ---- joining the parts of a text

joined-onto : (at byte : ℕ) (parts : List (List ℕ)) → HasFirst parts → join_with_byte at (onto_first byte parts) ≡ byte ∷ join_with_byte at parts
joined-onto at byte [] has = absurd (cc (has.2))
joined-onto at byte (part ∷ []) has = refl
joined-onto at byte (part ∷ next ∷ parts) has = refl

joined-empty : (at : ℕ) (parts : List (List ℕ)) → HasFirst parts → join_with_byte at ([] ∷ parts) ≡ at ∷ join_with_byte at parts
joined-empty at [] has = absurd (cc (has.2))
joined-empty at (part ∷ parts) has = refl

joined_if : (test : Bool) (at byte : ℕ) (parts : List (List ℕ)) → HasFirst parts → (test ≡ true → byte ≡ at) → join_with_byte at (if test then [] ∷ parts else onto_first byte parts) ≡ byte ∷ join_with_byte at parts
joined_if true at byte parts has is = joined-empty at parts has ∙ ap (λ b. b ∷ join_with_byte at parts) (sym (is refl))
joined_if false at byte parts has is = joined-onto at byte parts has

pub joined_by-parts : (at : ℕ) (bytes : List ℕ) → join_with_byte at (parts_at at bytes) ≡ bytes
unfolding parts_at
joined_by-parts at [] = refl
joined_by-parts at (byte ∷ bytes) =
    joined_if (byte == at) at byte (parts_at at bytes) (first_part at bytes) (eqb-true byte at) ∙ ap (λ bs. byte ∷ bs) (joined_by-parts at bytes)
