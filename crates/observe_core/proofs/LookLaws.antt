-- Proofs about samples of all processors, taken in order.
use Rattle.std.proofs.Common.{◌≡◌, ⊎_elim, ◌⊎◌, inl, inr, ℕ, zero, suc, ◌+◌, ◌<◌, ◌≤◌, Bool, true, false, List, [], ◌∷◌, ◌++◌, length, get_or, set, sym, refl, ap, ◌∙◌, subst, arith, eqb, Some}
use Rattle.std.specs.Prelude.{slice_get}
use Rattle.std.proofs.lemmas.Bool.{eqb-false, eqb-true}
use Rattle.std.proofs.lemmas.List.{append-nil, append_assoc, get_or_default, get_or-set_other, get_or-set_same, length-set, length_push}
use Rattle.plan_laws.specs.Plan.{PlanView}
use Rattle.proc_plan.specs.Plans.{PlansView}
use Rattle.clock_row.specs.Ends.{ReaderEnd}
use Rattle.clock_row.specs.declared.reader.Sample.{Sample}
use Rattle.observer_log.specs.declared.entry.Entry.{Entry}
use Rattle.observer_log.specs.Watch.{HasLooked, HasSampled, IsTakenBy, WatcherView, named_by, no_reader, reader_at}
use Rattle.observe_core.specs.Observing.{AreTaken, HaveLooked, last_at, no_sample}

-- an entry of a list with `x` appended is an entry of the list, or `x`
at_push : (xs : List Entry) (x : Entry) (k : ℕ) (y : Entry) → slice_get (xs ++ x ∷ []) k ≡ Some y → (slice_get xs k ≡ Some y) ⊎ ((k ≡ length xs) × (x ≡ y))
at_push [] x zero y e = inr (refl, (let same : x ≡ y = cc in same))
at_push [] x (suc k) y e = absurd (cc)
at_push (z ∷ xs) x zero y e = inl e
at_push (z ∷ xs) x (suc k) y e = ⊎_elim (λ a. inl a) (λ (a : (k ≡ length xs) × (x ≡ y)). inr (ap suc a.0, a.1)) (at_push xs x k y e)

-- the index of an existing entry is below the length
pub at_below : (xs : List Entry) (k : ℕ) (y : Entry) → slice_get xs k ≡ Some y → k < length xs
at_below [] k y e = absurd (cc)
at_below (x ∷ xs) zero y e = omega arith
at_below (x ∷ xs) (suc k) y e = let below = at_below xs k y e in omega (arith, below)

taken_push : (observer : ℕ) (plans : PlansView) (slot : ℕ) (lasts : List Sample) (k : ℕ) (taken : List Entry) (e : Entry) → AreTaken observer plans slot lasts k taken → IsTakenBy observer plans k slot (last_at lasts k).count e
    → AreTaken observer plans slot lasts (k + 1) (taken ++ e ∷ [])
taken_push observer plans slot lasts k taken e all one = record {
  many = length_push taken e ∙ ap (λ (n : ℕ). n + 1) all.many;
  each = λ cpu entry at. ⊎_elim (λ was. all.each cpu entry was)
      (λ (new : (cpu ≡ length taken) × (e ≡ entry)). subst (λ (z : ℕ × Entry). IsTakenBy observer plans z.0 slot (last_at lasts z.0).count z.1) (λ i. (sym (new.0 ∙ all.many) i, new.1 i)) one)
      (at_push taken e cpu entry at);
}

-- a field that a new reader leaves unchanged is unchanged for all readers
pub field_kept : {X : Type 0} (field : ReaderEnd → X) (readers : List ReaderEnd) (k : ℕ) (r : ReaderEnd) → k < length readers → field r ≡ field (reader_at readers k) → (q : ℕ) (b : Bool) → eqb q k ≡ b → field (reader_at (set readers k r) q) ≡ field (reader_at readers q)
field_kept field readers k r inside same q true e =
    let here : q ≡ k = eqb-true q k e in
    subst (λ (n : ℕ). field (reader_at (set readers k r) n) ≡ field (reader_at readers n)) (sym here) (ap field (get_or-set_same readers k r _ inside) ∙ same)
field_kept field readers k r inside same q false e = ap field (get_or-set_other readers k q r _ (eqb-false q k e))

-- the readers have seen as many changes as their entries' counts, after one more entry
seen_push : (readers : List ReaderEnd) (new : List ReaderEnd) (k : ℕ) (r : ReaderEnd) (taken : List Entry) (e : Entry) → k < length readers → length taken ≡ k → new ≡ set readers k r → r.knows.seen ≡ e.count
    → ((cpu : ℕ) (entry : Entry) → slice_get taken cpu ≡ Some entry → (reader_at readers cpu).knows.seen ≡ entry.count)
    → (cpu : ℕ) (entry : Entry) → slice_get (taken ++ e ∷ []) cpu ≡ Some entry → (reader_at new cpu).knows.seen ≡ entry.count
seen_push readers new k r taken e inside many are seen before cpu entry at =
    ⊎_elim (λ was. let below = at_below taken cpu entry was in
    ap (λ (l : List ReaderEnd). (reader_at l cpu).knows.seen) are ∙ ap (λ (z : ReaderEnd). z.knows.seen) (get_or-set_other readers k cpu r no_reader (λ e. omega (arith, below, many, e))) ∙ before cpu entry was)
    (λ (last : (cpu ≡ length taken) × (e ≡ entry)).
    let here : k ≡ cpu = sym (last.0 ∙ many) in
    subst (λ (n : ℕ). (reader_at new n).knows.seen ≡ entry.count) here
    (ap (λ (l : List ReaderEnd). (reader_at l k).knows.seen) are ∙ ap (λ (z : ReaderEnd). z.knows.seen) (get_or-set_same readers k r no_reader inside) ∙ seen ∙ ap (λ (z : Entry). z.count) last.1))
    (at_push taken e cpu entry at)

-- the relation `HaveLooked` after one more sample
pub looked_more : (slot : ℕ) (lasts : List Sample) (k count : ℕ) (first old new : WatcherView) → HaveLooked slot lasts k first old → HasLooked k slot count old new → count ≡ (last_at lasts k).count → k < length first.readers → HaveLooked slot lasts (k + 1) first new
looked_more slot lasts k count first old new all one last inside =
    let within : k < length old.readers = let e : length old.readers ≡ length first.readers = all.readers_are in omega (arith, e, inside) in
    let taken : IsTakenBy first.observer first.plans k slot (last_at lasts k).count one.entry = subst (λ (z : ℕ × (PlansView × ℕ)). IsTakenBy z.0 z.1.0 k slot z.1.1 one.entry) (λ i. (all.observer_is i, (all.plans_are i, last i))) one.entry_is in record {
      observer_is = one.observer_is ∙ all.observer_is;
      plans_are = one.plans_are ∙ all.plans_are;
      taken = all.taken ++ one.entry ∷ [];
      own_is = one.own_is ∙ (ap (λ l. l ++ one.entry ∷ []) all.own_is ∙ append_assoc first.own all.taken (one.entry ∷ []));
      taken_are = taken_push first.observer first.plans slot lasts k all.taken one.entry all.taken_are taken;
      readers_are = ap length one.sampled.are ∙ (length-set old.readers k one.sampled.reader ∙ all.readers_are);
      rows = λ q. ap (λ l. (reader_at l q).row) one.sampled.are ∙ (field_kept (λ (r : ReaderEnd). r.row) old.readers k one.sampled.reader within one.sampled.row q (eqb q k) refl ∙ all.rows q);
      names = λ q. ap (λ l. named_by l q) one.sampled.are ∙ (field_kept (λ (r : ReaderEnd). r.knows.plan) old.readers k one.sampled.reader within one.sampled.plan q (eqb q k) refl ∙ all.names q);
      seen = seen_push old.readers new.readers k one.sampled.reader all.taken one.entry within all.taken_are.many one.sampled.are one.sampled.seen all.seen;
      later = λ q past. ap (λ l. reader_at l q) one.sampled.are ∙ (get_or-set_other old.readers k q one.sampled.reader _ (λ e. omega (arith, e, past)) ∙ all.later q (omega (arith, past)));
    }

-- the relation `HaveLooked` before the first sample
pub looked_none : (slot : ℕ) (lasts : List Sample) (watcher : WatcherView) → HaveLooked slot lasts 0 watcher watcher
looked_none slot lasts watcher = record {
  observer_is = refl;
  plans_are = refl;
  taken = [];
  own_is = sym (append-nil watcher.own);
  taken_are = record {
    many = refl;
    each = λ cpu entry at. absurd (let no : ⊥ = cc at in no);
  };
  readers_are = refl;
  rows = λ cpu. refl;
  names = λ cpu. refl;
  seen = λ cpu entry at. absurd (let no : ⊥ = cc at in no);
  later = λ cpu past. refl;
}

-- the last sample that is found for a processor is its last sample
pub last_found : (lasts : List Sample) (place : ℕ) (last : Sample) → last ≡ get_or lasts place last → place < length lasts → last.count ≡ (last_at lasts place).count
last_found lasts place last there below = ap (λ (s : Sample). s.count) (there ∙ get_or_default lasts place last no_sample below)
