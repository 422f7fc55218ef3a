-- Proofs that a watcher is prepared processor by processor, and observers in order.
use Rattle.std.proofs.Common.{◌≡◌, ◌⊎◌, inl, inr, ⊎_elim, ℕ, zero, suc, ◌+◌, ◌<◌, ◌≤◌, max, List, [], ◌∷◌, ◌++◌, length, get_or, set, refl, sym, ap, ◌∙◌, subst, arith, eqb, Option, Some}
use Rattle.std.proofs.lemmas.List.{get_or-set_other, get_or-set_same, length-set}
use Rattle.plan_laws.specs.Plan.{IsClock, PlanView}
use Rattle.proc_plan.specs.Plans.{PlansView, plan_at}
use Rattle.clock_row.specs.declared.reader.Sample.{Sample}
use Rattle.clock_row.specs.declared.view.ReaderView.{ReaderView}
use Rattle.clock_row.specs.Ends.{ReaderEnd}
use Rattle.observer_log.specs.Watch.{WatcherView, named_by, no_reader, reader_at}
use Rattle.observe_core.specs.Observing.{last_at, no_sample}
use Rattle.observe_core.specs.Driving.{AreLasts, HasMet, ArePreparedChanges}
use Rattle.observe_core.proofs.LookLaws.{field_kept}

-- no processor is prepared yet
pub prepared_none : (made : ℕ → ℕ) (watcher : WatcherView) → ArePreparedChanges made 0 watcher watcher
prepared_none made watcher = record {
  observer_is = refl;
  plans_are = refl;
  own_is = refl;
  readers_are = refl;
  rows = λ cpu. refl;
  names = λ cpu. refl;
  seen = λ cpu below. absurd (omega (arith, below));
  before = λ cpu below. absurd (omega (arith, below));
  later = λ cpu past. refl;
}

pub either_next : (cpu k : ℕ) → cpu < k + 1 → (cpu < k) ⊎ (cpu ≡ k)
either_next cpu k below = grind (arith, below)

-- a reader that was shown the number of changes has seen exactly these
seen_met : (made : ℕ) (old new : ReaderView) → old.seen ≤ made → new.seen ≡ max old.seen made → new.seen ≡ made
seen_met made old new before is = is ∙ grind (arith, before)

-- the watcher is prepared on one more processor
pub prepared_more : (made : ℕ → ℕ) (k : ℕ) (first old new : WatcherView) → ArePreparedChanges made k first old → HasMet k (made k) old new → k < length first.readers → ArePreparedChanges made (k + 1) first new
prepared_more made k first old new all one inside =
    let many : length old.readers ≡ length first.readers = all.readers_are in
    let within : k < length old.readers = omega (arith, many, inside) in
    let are : new.readers ≡ set old.readers k one.reader = ap (λ (w : WatcherView). w.readers) one.are in
    let plan : one.reader.knows.plan ≡ (reader_at old.readers k).knows.plan = ap (λ (r : ReaderView). r.plan) one.knows in
    let here : (reader_at new.readers k).knows.seen ≡ made k =
    ap (λ (l : List ReaderEnd). (reader_at l k).knows.seen) are ∙ ap (λ (r : ReaderEnd). r.knows.seen) (get_or-set_same old.readers k one.reader no_reader within)
    ∙ seen_met (made k) (reader_at old.readers k).knows one.reader.knows one.before (ap (λ (r : ReaderView). r.seen) one.knows) in
    let was : reader_at old.readers k ≡ reader_at first.readers k = all.later k (omega arith) in
    record {
      observer_is = ap (λ (w : WatcherView). w.observer) one.are ∙ all.observer_is;
      plans_are = ap (λ (w : WatcherView). w.plans) one.are ∙ all.plans_are;
      own_is = ap (λ (w : WatcherView). w.own) one.are ∙ all.own_is;
      readers_are = ap length are ∙ length-set old.readers k one.reader ∙ all.readers_are;
      rows = λ q. ap (λ (l : List ReaderEnd). (reader_at l q).row) are ∙ field_kept (λ (r : ReaderEnd). r.row) old.readers k one.reader within one.row q (eqb q k) refl ∙ all.rows q;
      names = λ q. ap (λ (l : List ReaderEnd). named_by l q) are ∙ field_kept (λ (r : ReaderEnd). r.knows.plan) old.readers k one.reader within plan q (eqb q k) refl ∙ all.names q;
      seen = λ q below. ⊎_elim
          (λ (less : q < k). ap (λ (l : List ReaderEnd). (reader_at l q).knows.seen) are ∙ ap (λ (r : ReaderEnd). r.knows.seen) (get_or-set_other old.readers k q one.reader no_reader (λ e. omega (arith, e, less))) ∙ all.seen q less)
          (λ (same : q ≡ k). subst (λ (n : ℕ). (reader_at new.readers n).knows.seen ≡ made n) (sym same) here)
          (either_next q k below);
      before = λ q below. ⊎_elim
          (λ (less : q < k). all.before q less)
          (λ (same : q ≡ k). subst (λ (n : ℕ). (reader_at first.readers n).knows.seen ≤ made n) (sym same) (subst (λ (r : ReaderEnd). r.knows.seen ≤ made k) was one.before))
          (either_next q k below);
      later = λ q past. ap (λ (l : List ReaderEnd). reader_at l q) are ∙ get_or-set_other old.readers k q one.reader no_reader (λ e. omega (arith, e, past)) ∙ all.later q (omega (arith, past));
    }

-- ---- last samples

pub lasts_none : (plans : PlansView) (slot : ℕ) (made : ℕ → ℕ) (lasts : List Sample) → AreLasts plans slot made 0 lasts
lasts_none plans slot made lasts = record {
  counts = λ cpu below. absurd (omega (arith, below));
  clocks = λ cpu below. absurd (omega (arith, below));
}

pub lasts_more : (plans : PlansView) (slot : ℕ) (made : ℕ → ℕ) (k : ℕ) (lasts : List Sample) (last : Sample) → AreLasts plans slot made k lasts → k < length lasts → last.count ≡ made k → IsClock last.clock (plan_at plans k) slot last.count
    → AreLasts plans slot made (k + 1) (set lasts k last)
lasts_more plans slot made k lasts last all inside count clock =
    let here : last ≡ last_at (set lasts k last) k = sym (get_or-set_same lasts k last no_sample inside) in
    let other : (q : ℕ) → q < k → last_at lasts q ≡ last_at (set lasts k last) q = λ q less. sym (get_or-set_other lasts k q last no_sample (λ e. omega (arith, e, less))) in
    record {
      counts = λ q below. ⊎_elim
          (λ (less : q < k). subst (λ (s : Sample). s.count ≡ made q) (other q less) (all.counts q less))
          (λ (same : q ≡ k). subst (λ (n : ℕ). (last_at (set lasts k last) n).count ≡ made n) (sym same) (subst (λ (s : Sample). s.count ≡ made k) here count))
          (either_next q k below);
      clocks = λ q below. ⊎_elim
          (λ (less : q < k). subst (λ (s : Sample). IsClock s.clock (plan_at plans q) slot s.count) (other q less) (all.clocks q less))
          (λ (same : q ≡ k). subst (λ (n : ℕ). IsClock (last_at (set lasts k last) n).clock (plan_at plans n) slot (last_at (set lasts k last) n).count) (sym same) (subst (λ (s : Sample). IsClock s.clock (plan_at plans k) slot s.count) here clock))
          (either_next q k below);
    }

-- ---- lists, element by element

-- the relation `R` holds up to and including a place, if it held before that place and only that
-- element changed
pub each_next : {X : Type 0} → (R : ℕ → X → X → Type 0) (start now : List X) (place : ℕ) (x : X) → place < length now → ((k : ℕ) (d : X) → k < place → R k (get_or start k d) (get_or now k d)) → ((d : X) → R place (get_or start place d) x)
    → (k : ℕ) (d : X) → k < place + 1 → R k (get_or start k d) (get_or (set now place x) k d)
each_next R start now place x inside before here k d below =
    ⊎_elim
    (λ (less : k < place). subst (R k (get_or start k d)) (sym (get_or-set_other now place k x d (λ same. omega (arith, same, less)))) (before k d less))
    (λ (same : k ≡ place). subst (λ (n : ℕ). R n (get_or start n d) (get_or (set now place x) n d)) (sym same) (subst (R place (get_or start place d)) (sym (get_or-set_same now place x d inside)) (here d)))
    (either_next k place below)

pub left_next : {X : Type 0} → (start now : List X) (place : ℕ) (x : X) → ((k : ℕ) (d : X) → place ≤ k → get_or now k d ≡ get_or start k d) → (k : ℕ) (d : X) → place + 1 ≤ k → get_or (set now place x) k d ≡ get_or start k d
left_next start now place x left k d suffix = get_or-set_other now place k x d (λ same. omega (arith, same, suffix)) ∙ left k d (omega (arith, suffix))

-- appending an element leaves the earlier elements unchanged
push_at : {X : Type 0} → (xs : List X) (x : X) (k : ℕ) (d : X) → k < length xs → get_or (xs ++ x ∷ []) k d ≡ get_or xs k d
push_at [] x k d below = absurd (omega (arith, below))
push_at (y ∷ xs) x zero d below = refl
push_at (y ∷ xs) x (suc k) d below = push_at xs x k d (omega (arith, below))

push_last : {X : Type 0} → (xs : List X) (x : X) (d : X) → get_or (xs ++ x ∷ []) (length xs) d ≡ x
push_last [] x d = refl
push_last (y ∷ xs) x d = push_last xs x d

pub each_pushed : {X : Type 0} → (P : ℕ → X → Type 0) (xs : List X) (x : X) (count : ℕ) → length xs ≡ count → ((k : ℕ) (d : X) → k < count → P k (get_or xs k d)) → P count x → (k : ℕ) (d : X) → k < count + 1 → P k (get_or (xs ++ x ∷ []) k d)
each_pushed P xs x count many before last k d below =
    ⊎_elim
    (λ (less : k < count). subst (P k) (sym (push_at xs x k d (omega (arith, less, many)))) (before k d less))
    (λ (same : k ≡ count).
    let place : k ≡ length xs = same ∙ sym many in
    subst (P k) (sym (ap (λ (n : ℕ). get_or (xs ++ x ∷ []) n d) place ∙ push_last xs x d)) (subst (λ (n : ℕ). P n x) (sym same) last))
    (either_next k count below)
