-- Proves that a list is accepted if and only if each item is accepted, and is rejected with the
-- fault of its first rejected item.
use Rattle.std.proofs.Common.{◌≡◌, ℕ, zero, suc, ◌+◌, ◌<◌, List, [], ◌∷◌, length, refl, sym, ap, subst, ◌∙◌, arith}
use Rattle.std.specs.Prelude.{Some, Result, Ok, Err}
use Rattle.std.specs.List.{slice_get}
use Rattle.std.specs.Result.{IsOk}
use Rattle.serde_json.specs.Data.{Data}
use Rattle.ruleset_json.specs.declared.fault.RulesFault.{RulesFault}
use Rattle.psi_base.specs.ResultSteps.{◌>>=◌}
use Rattle.ruleset_json.specs.Rules.{each}
use Rattle.ruleset_json.specs.Laws.{AreRead, IsFirstFault, ReadsEach, RefusesFirst}

err_same : {A : Type 0} (a b : RulesFault) → (let r : Result A RulesFault = Err a in r) ≡ Err b → a ≡ b
err_same a b is = cc

ok_is : {A : Type 0} (r : Result A RulesFault) (x : A) → r ≡ Ok x → IsOk r
ok_is r x is = rw is refl

ok_of : {A : Type 0} (r : Result A RulesFault) → IsOk r → (x : A) × (r ≡ Ok x)
ok_of (Ok x) is = (x, refl)
ok_of (Err e) is = absurd cc

some_same : {A : Type 0} (a b : A) → Some a ≡ Some b → a ≡ b
some_same a b is = cc

before_later : {A : Type 0} (f : ℕ → Data → Result A RulesFault) (i : ℕ) (d : Data) (ds : List Data) (x : A) (at : ℕ) → f i d ≡ Ok x
    → ((k : ℕ) (e : Data) → k < at → slice_get ds k ≡ Some e → IsOk (f (i + 1 + k) e))
    → (k : ℕ) (e : Data) → k < suc at → slice_get (d ∷ ds) k ≡ Some e → IsOk (f (i + k) e)
before_later f i d ds x at was before zero e below is =
    let same : d ≡ e = some_same d e is in
    let here : i + 0 ≡ i = omega arith in
    ok_is (f (i + 0) e) x (ap (λ n. f n e) here ∙ ap (f i) (sym same) ∙ was)
before_later f i d ds x at was before (suc k) e below is =
    let later : i + 1 + k ≡ i + suc k = omega arith in
    let P : ℕ → Type 0 = λ n. IsOk (f n e) in
    subst P later (before k e (omega arith) is)

-- A list with a first item is rejected either because of this item or because of the remaining
-- items.
refused_cons : {A : Type 0} (f : ℕ → Data → Result A RulesFault) (i : ℕ) (d : Data) (ds : List Data) (e : RulesFault) (first : Result A RulesFault) (rest : Result (List A) RulesFault) → f i d ≡ first
    → ((why : RulesFault) → rest ≡ Err why → IsFirstFault f (i + 1) ds why)
    → (first >>= (λ x. rest >>= (λ xs. Ok (x ∷ xs)))) ≡ Err e
    → IsFirstFault f i (d ∷ ds) e
refused_cons {A} f i d ds e (Err why) rest was next is =
    let here : i + 0 ≡ i = omega arith in
    let same : why ≡ e = err_same why e is in
    let fault : RulesFault → Result A RulesFault = λ w. Err w in
    record {
      at = 0;
      item = d;
      stands = refl;
      refused = ap (λ n. f n d) here ∙ was ∙ ap fault same;
      before = λ k earlier below. absurd (omega arith);
    }
refused_cons {A} f i d ds e (Ok x) (Err why) was next is =
    let first = next why refl in
    let same : why ≡ e = err_same why e is in
    let later : i + suc first.at ≡ i + 1 + first.at = omega arith in
    let fault : RulesFault → Result A RulesFault = λ w. Err w in
    record {
      at = suc first.at;
      item = first.item;
      stands = first.stands;
      refused = ap (λ n. f n first.item) later ∙ first.refused ∙ ap fault same;
      before = before_later f i d ds x first.at was first.before;
    }
refused_cons f i d ds e (Ok x) (Ok xs) was next is = absurd cc

each_refused : {A : Type 0} (f : ℕ → Data → Result A RulesFault) (i : ℕ) (ds : List Data) (e : RulesFault) → each f i ds ≡ Err e → IsFirstFault f i ds e
each_refused f i [] e is = absurd cc
each_refused f i (d ∷ ds) e is = refused_cons f i d ds e (f i d) (each f (i + 1) ds) refl (each_refused f (i + 1) ds) is

refused_at : {A : Type 0} (f : ℕ → Data → Result A RulesFault) (i : ℕ) (ds : List Data) (e : RulesFault) (at : ℕ) (item : Data) → slice_get ds at ≡ Some item → f (i + at) item ≡ Err e
    → ((k : ℕ) (earlier : Data) → k < at → slice_get ds k ≡ Some earlier → IsOk (f (i + k) earlier)) → each f i ds ≡ Err e
refused_at f i [] e at item stands refused before = absurd cc
refused_at f i (d ∷ ds) e zero item stands refused before =
    let here : i ≡ i + 0 = omega arith in
    let same : d ≡ item = some_same d item stands in
    let is : f i d ≡ Err e = ap (f i) same ∙ ap (λ n. f n item) here ∙ refused in
    rw is refl
refused_at f i (d ∷ ds) e (suc at) item stands refused before =
    let here : i ≡ i + 0 = omega arith in
    let read = ok_of (f (i + 0) d) (before 0 d (omega arith) refl) in
    let is : f i d ≡ Ok read.0 = ap (λ n. f n d) here ∙ read.1 in
    let later : i + 1 + at ≡ i + suc at = omega arith in
    let rest : each f (i + 1) ds ≡ Err e = refused_at f (i + 1) ds e at item stands (ap (λ n. f n item) later ∙ refused)
    (λ k earlier below there. let P : ℕ → Type 0 = λ n. IsOk (f n earlier) in let along : i + suc k ≡ i + 1 + k = omega arith in subst P along (before (suc k) earlier (omega arith) there)) in
    rw (is, rest) refl

pub refuses_first : {A : Type 0} → RefusesFirst A
refuses_first f i ds e = (each_refused f i ds e, λ first. refused_at f i ds e first.at first.item first.stands first.refused first.before)

-- ---- lists that are accepted

ok_same : {A : Type 0} (a b : A) → (let r : Result A RulesFault = Ok a in r) ≡ Ok b → a ≡ b
ok_same a b is = cc

read_cons : {A : Type 0} (f : ℕ → Data → Result A RulesFault) (i : ℕ) (d : Data) (ds : List Data) (found : List A) (first : Result A RulesFault) (rest : Result (List A) RulesFault) → f i d ≡ first
    → ((xs : List A) → rest ≡ Ok xs → AreRead f (i + 1) ds xs)
    → (first >>= (λ x. rest >>= (λ xs. Ok (x ∷ xs)))) ≡ Ok found
    → AreRead f i (d ∷ ds) found
read_cons f i d ds found (Err why) rest was next is = absurd cc
read_cons f i d ds found (Ok x) (Err why) was next is = absurd cc
read_cons {A} f i d ds found (Ok x) (Ok xs) was next is =
    let suffix = next xs refl in
    let same : x ∷ xs ≡ found = ok_same (x ∷ xs) found is in
    let P : List A → Type 0 = λ ys. AreRead f i (d ∷ ds) ys in
    subst P same (record {
      equally_many = ap suc suffix.equally_many;
      each = each_later f i d ds x xs was suffix.each;
    })
  where
    each_later : {A : Type 0} (f : ℕ → Data → Result A RulesFault) (i : ℕ) (d : Data) (ds : List Data) (x : A) (xs : List A) → f i d ≡ Ok x
        → ((k : ℕ) (item : Data) (y : A) → slice_get ds k ≡ Some item → slice_get xs k ≡ Some y → f (i + 1 + k) item ≡ Ok y)
        → (k : ℕ) (item : Data) (y : A) → slice_get (d ∷ ds) k ≡ Some item → slice_get (x ∷ xs) k ≡ Some y → f (i + k) item ≡ Ok y
    each_later f i d ds x xs was rest zero item y stands there =
        let here : i + 0 ≡ i = omega arith in
        let same : d ≡ item = some_same d item stands in
        let value : x ≡ y = some_same x y there in
        ap (λ n. f n item) here ∙ ap (f i) (sym same) ∙ was ∙ ap Ok value
    each_later f i d ds x xs was rest (suc k) item y stands there =
        let later : i + suc k ≡ i + 1 + k = omega arith in
        ap (λ n. f n item) later ∙ rest k item y stands there

each_read : {A : Type 0} (f : ℕ → Data → Result A RulesFault) (i : ℕ) (ds : List Data) (found : List A) → each f i ds ≡ Ok found → AreRead f i ds found
each_read {A} f i [] found is =
    let same : [] ≡ found = ok_same [] found is in
    let P : List A → Type 0 = λ ys. AreRead f i [] ys in
    subst P same (record { equally_many = refl; each = λ k item x stands there. absurd cc })
each_read f i (d ∷ ds) found is = read_cons f i d ds found (f i d) (each f (i + 1) ds) refl (each_read f (i + 1) ds) is

all_read : {A : Type 0} (f : ℕ → Data → Result A RulesFault) (i : ℕ) (ds : List Data) (found : List A) → length found ≡ length ds
    → ((k : ℕ) (item : Data) (x : A) → slice_get ds k ≡ Some item → slice_get found k ≡ Some x → f (i + k) item ≡ Ok x) → each f i ds ≡ Ok found
all_read f i [] [] many reads = refl
all_read f i [] (x ∷ xs) many reads = absurd cc
all_read f i (d ∷ ds) [] many reads = absurd cc
all_read f i (d ∷ ds) (x ∷ xs) many reads =
    let here : i ≡ i + 0 = omega arith in
    let is : f i d ≡ Ok x = ap (λ n. f n d) here ∙ reads 0 d x refl refl in
    let fewer : length xs ≡ length ds = omega (arith, many) in
    let rest : each f (i + 1) ds ≡ Ok xs = all_read f (i + 1) ds xs fewer
    (λ k item y stands there. let along : i + 1 + k ≡ i + suc k = omega arith in ap (λ n. f n item) along ∙ reads (suc k) item y stands there) in
    rw (is, rest) refl

pub reads_each : {A : Type 0} → ReadsEach A
reads_each f i ds found = (each_read f i ds found, λ are. all_read f i ds found are.equally_many are.each)
