-- Laws about two lists whose elements are related pairwise.
use Rattle.std.proofs.Common.{◌≡◌, ℕ, zero, suc, ◌+◌, ◌<◌, List, [], ◌∷◌, length, drop, get_or, refl, sym, ◌∙◌, subst, Bool, true, false, arith}
use Rattle.std.specs.Prelude.{◌&&◌, ◌||◌, All}
use Rattle.std.specs.List.{AllZip, list_all, list_any}

-- `here` is the element of the second list that is related to the first list's element at index
-- `i`. The elements after `here` belong to the later elements.
pub record IsZipped {A B : Type 0} (R : A → B → Type 0) (xs : List A) (ys : List B) (i : ℕ) : Type 0 where
  pub here : B
  pub rest : drop i ys ≡ here ∷ drop (i + 1) ys
  pub related : (d : A) → R (get_or xs i d) here

pub zipped_at : {A B : Type 0} (R : A → B → Type 0) (xs : List A) (ys : List B) (i : ℕ) → AllZip R xs ys → i < length xs → IsZipped R xs ys i
zipped_at R [] ys i zips below = absurd (omega (arith, below))
zipped_at R (x ∷ xs) [] i zips below = absurd zips
zipped_at R (x ∷ xs) (y ∷ ys) zero zips below = record { here = y; rest = refl; related = λ d. zips.0 }
zipped_at R (x ∷ xs) (y ∷ ys) (suc i) zips below =
    let later = zipped_at R xs ys i zips.1 (omega (arith, below)) in
    let e : suc i + 1 ≡ suc (i + 1) = omega arith in
    record { here = later.here; rest = rw e later.rest; related = later.related }

-- The second list has no element after the end of the first list.
pub zipped_end : {A B : Type 0} (R : A → B → Type 0) (xs : List A) (ys : List B) → AllZip R xs ys → drop (length xs) ys ≡ []
zipped_end R [] [] zips = refl
zipped_end R [] (y ∷ ys) zips = absurd zips
zipped_end R (x ∷ xs) [] zips = absurd zips
zipped_end R (x ∷ xs) (y ∷ ys) zips = zipped_end R xs ys zips.1

-- If replacing each element of the first list preserves its relation, the lists remain related.
pub zipped_map : {A B : Type 0} (Q R : A → B → Type 0) (xs zs : List A) (ys : List B) →
    length zs ≡ length xs →
    ((k : ℕ) (d : A) (y : B) → k < length xs → Q (get_or xs k d) y → R (get_or zs k d) y) →
    AllZip Q xs ys → AllZip R zs ys
zipped_map Q R [] [] [] long each zips = zips
zipped_map Q R [] [] (y ∷ ys) long each zips = absurd zips
zipped_map Q R [] (z ∷ zs) ys long each zips = absurd (omega (arith, long))
zipped_map Q R (x ∷ xs) [] ys long each zips = absurd (omega (arith, long))
zipped_map Q R (x ∷ xs) (z ∷ zs) [] long each zips = absurd zips
zipped_map Q R (x ∷ xs) (z ∷ zs) (y ∷ ys) long each zips = (
  each 0 x y (omega arith) zips.0,
  zipped_map Q R xs zs ys (omega (arith, long)) (λ k d y below q. each (suc k) d y (omega (arith, below)) q) zips.1,
)

and_true : (b : Bool) → (b && true) ≡ b
and_true true = refl
and_true false = refl

or_false : (b : Bool) → (b || false) ≡ b
or_false true = refl
or_false false = refl

-- Extends a conjunction of tests by one more test.
pub all_more : {A B : Type 0} (R : A → B → Type 0) (test : B → Bool) (xs : List A) (ys : List B) (i : ℕ) (d : A) (hold answer whole : Bool) →
    AllZip R xs ys → i < length xs → ((y : B) → R (get_or xs i d) y → answer ≡ test y) →
    (hold && list_all test (drop i ys)) ≡ whole → ((hold && answer) && list_all test (drop (i + 1) ys)) ≡ whole
all_more R test xs ys i d false answer whole zips below says is = is
all_more R test xs ys i d true answer whole zips below says is =
    let z = zipped_at R xs ys i zips below in
    rw (says z.here (z.related d)) (subst (λ rest. list_all test rest ≡ whole) z.rest is)

pub all_end : {A B : Type 0} (R : A → B → Type 0) (test : B → Bool) (xs : List A) (ys : List B) (i : ℕ) (hold whole : Bool) →
    AllZip R xs ys → i ≡ length xs → (hold && list_all test (drop i ys)) ≡ whole → hold ≡ whole
all_end R test xs ys i hold whole zips ends is =
    let none : drop i ys ≡ [] = rw ends (zipped_end R xs ys zips) in
    let bare : (hold && true) ≡ whole = subst (λ rest. (hold && list_all test rest) ≡ whole) none is in
    sym (and_true hold) ∙ bare

-- Extends a disjunction of tests by one more test.
pub any_more : {A B : Type 0} (R : A → B → Type 0) (test : B → Bool) (xs : List A) (ys : List B) (i : ℕ) (d : A) (found answer whole : Bool) →
    AllZip R xs ys → i < length xs → ((y : B) → R (get_or xs i d) y → answer ≡ test y) →
    (found || list_any test (drop i ys)) ≡ whole → ((found || answer) || list_any test (drop (i + 1) ys)) ≡ whole
any_more R test xs ys i d true answer whole zips below says is = is
any_more R test xs ys i d false answer whole zips below says is =
    let z = zipped_at R xs ys i zips below in
    rw (says z.here (z.related d)) (subst (λ rest. list_any test rest ≡ whole) z.rest is)

pub any_end : {A B : Type 0} (R : A → B → Type 0) (test : B → Bool) (xs : List A) (ys : List B) (i : ℕ) (found whole : Bool) →
    AllZip R xs ys → i ≡ length xs → (found || list_any test (drop i ys)) ≡ whole → found ≡ whole
any_end R test xs ys i found whole zips ends is =
    let none : drop i ys ≡ [] = rw ends (zipped_end R xs ys zips) in
    let bare : (found || false) ≡ whole = subst (λ rest. (found || list_any test rest) ≡ whole) none is in
    sym (or_false found) ∙ bare

-- If the relation implies a property, the property holds for every element of the first list.
pub zipped_all : {A B : Type 0} (R : A → B → Type 0) (P : A → Type 0) (xs : List A) (ys : List B) → AllZip R xs ys → ((x : A) (y : B) → R x y → P x) → All P xs
zipped_all R P xs ys zips each k d below =
    let z = zipped_at R xs ys k zips below in
    each (get_or xs k d) z.here (z.related d)
