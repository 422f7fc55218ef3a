-- Proofs about an observer's samples of one interval, which follow its earlier samples.
use Rattle.std.proofs.Common.{◌≡◌, ◌⊎◌, inl, inr, ⊎_elim, ℕ, zero, suc, ◌+◌, ◌-◌, ◌<◌, ◌≤◌, Bool, true, false, List, [], ◌∷◌, ◌++◌, length, map, refl, sym, ap, ◌∙◌, subst, arith, rules, Option, None, Some}
use Rattle.std.specs.Prelude.{cond, filter, slice_get}
use Rattle.std.specs.List.{flat_map, range_with_len}
use Rattle.std.proofs.lemmas.Grind.{flat_map-append}
use Rattle.std.proofs.lemmas.List.{append-nil, map-append}
use Rattle.std.proofs.lemmas.List.Elements.{filter-append}
use Rattle.psi_spec.specs.Changes.{RiseWithin}
use Rattle.run_spec.specs.Live.{changes_until}
use Rattle.proc_plan.specs.Plans.{PlansView, plan_at}
use Rattle.clock_row.specs.declared.reader.Sample.{Sample}
use Rattle.observe_spec.specs.Samples.{AreDone, Due, Look, counts_by, due_at, is_of}
use Rattle.observer_log.specs.declared.entry.Entry.{Entry}
use Rattle.observer_log.specs.Entries.{AreBy}
use Rattle.observer_log.specs.Watch.{IsTakenBy, WatcherView, reader_at}
use Rattle.observe_core.specs.Observing.{HaveLooked, last_at}
use Rattle.observe_core.specs.Driving.{AreLasts, AreOn, AreWithin, HasTaken, ArePreparedChanges, Setting, due_in, due_until, look_of, looks_of, slot_in}
use Rattle.observe_core.proofs.LookLaws.{at_below}

-- ---- lists

-- samples that were due, followed by samples that were due after them
done_append : (dues more : List Due) (looks others : List Look) → AreDone dues looks → AreDone more others → AreDone (dues ++ more) (looks ++ others)
done_append [] more [] others first rest = rest
done_append [] more (look ∷ looks) others first rest = absurd first
done_append (due ∷ dues) more [] others first rest = absurd first
done_append (due ∷ dues) more (look ∷ looks) others first rest = (first.0, first.1, first.2, first.3, done_append dues more looks others first.4 rest)

rise_lower : (low mid high : ℕ) (more : List ℕ) → low ≤ mid → RiseWithin mid more high → RiseWithin low more high
rise_lower low mid high [] below rise = omega (arith, below, rise)
rise_lower low mid high (number ∷ numbers) below rise = (let first = rise.0 in omega (arith, below, first), rise.1)

-- rising numbers, followed by numbers that rise from their end
rise_append : (low mid high : ℕ) (numbers more : List ℕ) → RiseWithin low numbers mid → RiseWithin mid more high → RiseWithin low (numbers ++ more) high
rise_append low mid high [] more rise rest = rise_lower low mid high more rise rest
rise_append low mid high (number ∷ numbers) more rise rest = (rise.0, rise_append number mid high numbers more rise.1 rest)

counts_append : (observer cpu : ℕ) (looks more : List Look) → counts_by observer cpu (looks ++ more) ≡ counts_by observer cpu looks ++ counts_by observer cpu more
counts_append observer cpu looks more =
    ap (λ (chosen : List Look). map (λ (look : Look). look.count) chosen) (filter-append (is_of observer cpu) looks more)
    ∙ map-append (λ (look : Look). look.count) (filter (is_of observer cpu) looks) (filter (is_of observer cpu) more)

by_append : (number : ℕ) (own more : List Entry) → AreBy number own → AreBy number more → AreBy number (own ++ more)
by_append number [] more by rest = rest
by_append number (entry ∷ own) more by rest = (by.0, by_append number own more by.1 rest)

on_append : (plans : PlansView) (own more : List Entry) → AreOn plans own → AreOn plans more → AreOn plans (own ++ more)
on_append plans [] more on rest = rest
on_append plans (entry ∷ own) more on rest = (on.0, on_append plans own more on.1 rest)

range_more : (a n : ℕ) → range_with_len a (suc n) ≡ range_with_len a n ++ (a + n) ∷ []
range_more a zero = let same : a ≡ a + 0 = omega arith in ap (λ (x : ℕ). x ∷ []) same
range_more a (suc n) =
    let same : a + 1 + n ≡ a + suc n = omega arith in
    ap (λ xs. a ∷ xs) (range_more (a + 1) n) ∙ ap (λ (x : ℕ). a ∷ (range_with_len (a + 1) n ++ x ∷ [])) same

-- the samples due at one more tick come after the earlier ones
pub due_more : (set : Setting) (i : ℕ) → due_until set (i + 1) ≡ due_until set i ++ due_in set (i + 1)
due_more set i =
    let next : i + 1 ≡ suc i = omega arith in
    let here : 1 + i ≡ i + 1 = omega arith in
    ap (λ (n : ℕ). flat_map (due_in set) (range_with_len 1 n)) next
    ∙ ap (flat_map (due_in set)) (range_more 1 i)
    ∙ flat_map-append (due_in set) (range_with_len 1 i) ((1 + i) ∷ [])
    ∙ ap (λ (dues : List Due). due_until set i ++ dues) (append-nil (due_in set (1 + i)))
    ∙ ap (λ (n : ℕ). due_until set i ++ due_in set n) here

-- there is an entry at each index below the length
there : (entries : List Entry) (k : ℕ) → k < length entries → (entry : Entry) × (slice_get entries k ≡ Some entry)
there [] k below = absurd (omega (arith, below))
there (entry ∷ entries) zero below = (entry, refl)
there (entry ∷ entries) (suc k) below = there entries k (omega (arith, below))

-- ---- one interval

-- the entries are samples of consecutive processors, starting with processor `k`
abbrev AreFrom : ℕ → PlansView → ℕ → List Sample → ℕ → List Entry → Type 0
AreFrom observer plans slot lasts k taken =
    (j : ℕ) (entry : Entry) → slice_get taken j ≡ Some entry → IsTakenBy observer plans (k + j) slot (last_at lasts (k + j)).count entry

from_first : (observer : ℕ) (plans : PlansView) (slot : ℕ) (lasts : List Sample) (k : ℕ) (entry : Entry) (taken : List Entry) → AreFrom observer plans slot lasts k (entry ∷ taken) → IsTakenBy observer plans k slot (last_at lasts k).count entry
from_first observer plans slot lasts k entry taken from =
    let same : k + 0 ≡ k = omega arith in
    subst (λ (n : ℕ). IsTakenBy observer plans n slot (last_at lasts n).count entry) same (from 0 entry refl)

from_rest : (observer : ℕ) (plans : PlansView) (slot : ℕ) (lasts : List Sample) (k : ℕ) (entry : Entry) (taken : List Entry) → AreFrom observer plans slot lasts k (entry ∷ taken) → AreFrom observer plans slot lasts (k + 1) taken
from_rest observer plans slot lasts k entry taken from = λ j other at.
    let same : k + suc j ≡ k + 1 + j = omega arith in
    subst (λ (n : ℕ). IsTakenBy observer plans n slot (last_at lasts n).count other) same (from (suc j) other at)

from_by : (observer : ℕ) (plans : PlansView) (slot : ℕ) (lasts : List Sample) (k : ℕ) (taken : List Entry) → AreFrom observer plans slot lasts k taken → AreBy observer taken
from_by observer plans slot lasts k [] from = tt
from_by observer plans slot lasts k (entry ∷ taken) from =
    ((from_first observer plans slot lasts k entry taken from).observer_is, from_by observer plans slot lasts (k + 1) taken (from_rest observer plans slot lasts k entry taken from))

from_on : (observer : ℕ) (plans : PlansView) (slot : ℕ) (lasts : List Sample) (k : ℕ) (taken : List Entry) → AreFrom observer plans slot lasts k taken → k + length taken ≤ length plans.plans → AreOn plans taken
from_on observer plans slot lasts k [] from within = tt
from_on observer plans slot lasts k (entry ∷ taken) from within =
    let first = from_first observer plans slot lasts k entry taken from in (
      record {
        cpu = let here = first.cpu_is in omega (arith, here, within);
        plan = first.plan_is ∙ ap (plan_at plans) (sym first.cpu_is);
      },
      from_on observer plans slot lasts (k + 1) taken (from_rest observer plans slot lasts k entry taken from) (omega (arith, within)),
    )

-- these entries are the samples that are due
from_done : (observer : ℕ) (plans : PlansView) (slot : ℕ) (lasts : List Sample) (least most : ℕ → ℕ) (k : ℕ) (taken : List Entry) → AreFrom observer plans slot lasts k taken
    → ((cpu : ℕ) → cpu < k + length taken → least cpu ≤ (last_at lasts cpu).count)
    → ((j : ℕ) (entry : Entry) → slice_get taken j ≡ Some entry → entry.count ≤ most (k + j))
    → AreDone (map (λ cpu. record { cpu = cpu; slot = slot; least = least cpu; most = most cpu }) (range_with_len k (length taken))) (looks_of taken)
from_done observer plans slot lasts least most k [] from low high = tt
from_done observer plans slot lasts least most k (entry ∷ taken) from low high =
    let first = from_first observer plans slot lasts k entry taken from in
    let least_here = low k (omega arith) in
    let later = first.later in
    let here : k + 0 ≡ k = omega arith in
    let most_here : entry.count ≤ most k = subst (λ (n : ℕ). entry.count ≤ most n) here (high 0 entry refl) in
    let rest = from_done observer plans slot lasts least most (k + 1) taken (from_rest observer plans slot lasts k entry taken from)
    (λ cpu below. low cpu (omega (arith, below)))
    (λ j other at.
    let next : k + suc j ≡ k + 1 + j = omega arith in
    subst (λ (n : ℕ). other.count ≤ most n) next (high (suc j) other at)) in
    (first.cpu_is, first.slot_is, omega (arith, least_here, later), most_here, rest)

-- a look that `is_of` accepts for a processor is from that processor
of_cpu : (observer cpu : ℕ) (look : Look) → is_of observer cpu look ≡ true → look.cpu ≡ cpu
of_cpu observer cpu look is = grind (arith, is)

-- a look of this observer and processor is accepted by `is_of`
is_chosen : (observer cpu : ℕ) (look : Look) → look.observer ≡ observer → look.cpu ≡ cpu → is_of observer cpu look ≡ true
is_chosen observer cpu look by on = grind (arith, by, on)

-- there is no entry for a processor outside the sampled range
from_none : (observer : ℕ) (plans : PlansView) (slot : ℕ) (lasts : List Sample) (cpu k : ℕ) (taken : List Entry) → AreFrom observer plans slot lasts k taken → (cpu < k) ⊎ (k + length taken ≤ cpu) → counts_by observer cpu (looks_of taken) ≡ []
from_none observer plans slot lasts cpu k [] from out = refl
from_none observer plans slot lasts cpu k (entry ∷ taken) from out =
    go (is_of observer cpu (look_of entry)) refl (from_none observer plans slot lasts cpu (k + 1) taken (from_rest observer plans slot lasts k entry taken from)
    (⊎_elim (λ (before : cpu < k). inl (omega (arith, before))) (λ (suffix : k + length (entry ∷ taken) ≤ cpu). inr (omega (arith, suffix))) out))
  where
    go : (b : Bool) → is_of observer cpu (look_of entry) ≡ b → counts_by observer cpu (looks_of taken) ≡ [] → counts_by observer cpu (looks_of (entry ∷ taken)) ≡ []
    go true is rest =
        let here = of_cpu observer cpu (look_of entry) is in
        let first = (from_first observer plans slot lasts k entry taken from).cpu_is in
        absurd (⊎_elim (λ (before : cpu < k). let no : ⊥ = omega (arith, here, first, before) in no) (λ (suffix : k + length (entry ∷ taken) ≤ cpu). let no : ⊥ = omega (arith, here, first, suffix) in no) out)
    go false is rest =
        ap (λ b. map (λ (look : Look). look.count) (cond b (look_of entry ∷ filter (is_of observer cpu) (looks_of taken)) (filter (is_of observer cpu) (looks_of taken)))) is
        ∙ rest

-- there is exactly one entry for each of the sampled processors
from_one : (observer : ℕ) (plans : PlansView) (slot : ℕ) (lasts : List Sample) (cpu k : ℕ) (taken : List Entry) (found : Entry) → AreFrom observer plans slot lasts k taken → (j : ℕ) → k + j ≡ cpu → slice_get taken j ≡ Some found → counts_by observer cpu (looks_of taken) ≡ found.count ∷ []
from_one observer plans slot lasts cpu k [] found from j place at = absurd (let no : ⊥ = cc at in no)
from_one observer plans slot lasts cpu k (entry ∷ taken) found from zero place at =
    let first = from_first observer plans slot lasts k entry taken from in
    let here : entry.cpu.0 ≡ cpu = let on = first.cpu_is in omega (arith, on, place) in
    let chosen = is_chosen observer cpu (look_of entry) first.observer_is here in
    let same : entry ≡ found = cc at in
    ap (λ b. map (λ (look : Look). look.count) (cond b (look_of entry ∷ filter (is_of observer cpu) (looks_of taken)) (filter (is_of observer cpu) (looks_of taken)))) chosen
    ∙ ap (λ (rest : List ℕ). entry.count ∷ rest) (from_none observer plans slot lasts cpu (k + 1) taken (from_rest observer plans slot lasts k entry taken from) (inl (omega (arith, place))))
    ∙ ap (λ (e : Entry). e.count ∷ []) same
from_one observer plans slot lasts cpu k (entry ∷ taken) found from (suc j) place at =
    go (is_of observer cpu (look_of entry)) refl (from_one observer plans slot lasts cpu (k + 1) taken found (from_rest observer plans slot lasts k entry taken from) j (omega (arith, place)) at)
  where
    go : (b : Bool) → is_of observer cpu (look_of entry) ≡ b → counts_by observer cpu (looks_of taken) ≡ found.count ∷ [] → counts_by observer cpu (looks_of (entry ∷ taken)) ≡ found.count ∷ []
    go true is rest =
        let here = of_cpu observer cpu (look_of entry) is in
        let first = (from_first observer plans slot lasts k entry taken from).cpu_is in
        absurd (let no : ⊥ = omega (arith, here, first, place) in no)
    go false is rest =
        ap (λ b. map (λ (look : Look). look.count) (cond b (look_of entry ∷ filter (is_of observer cpu) (looks_of taken)) (filter (is_of observer cpu) (looks_of taken)))) is
        ∙ rest

-- The samples that a watcher took in an interval, between two of its states: it was prepared for
-- the processors of the setting, and sampled all of them. Then its readers had seen at most the
-- changes made after the interval.
pub record Took (set : Setting) (slot number : ℕ) (made after : ℕ → ℕ) (lasts : List Sample) (old mid new : WatcherView) : Type 0 where
  pub number_is : old.observer ≡ number
  pub plans_are : old.plans ≡ set.plans
  pub many : length lasts ≡ length set.plans.plans
  pub prepared_changes : ArePreparedChanges made (length lasts) old mid
  pub lasts_are : AreLasts set.plans slot made (length lasts) lasts
  pub looked : HaveLooked slot lasts (length lasts) mid new
  pub within : AreWithin after (length lasts) new

-- the entries that the watcher took in the interval
took_from : (set : Setting) (slot number : ℕ) (made after : ℕ → ℕ) (lasts : List Sample) (old mid new : WatcherView) (took : Took set slot number made after lasts old mid new) → AreFrom number set.plans slot lasts 0 took.looked.taken
took_from set slot number made after lasts old mid new took = λ j entry at.
    let same : j ≡ 0 + j = omega arith in
    let plans : mid.plans ≡ set.plans = took.prepared_changes.plans_are ∙ took.plans_are in
    let observer : mid.observer ≡ number = took.prepared_changes.observer_is ∙ took.number_is in
    subst (λ (n : ℕ). IsTakenBy number set.plans n slot (last_at lasts n).count entry) same
    (subst (λ (p : ℕ × PlansView). IsTakenBy p.0 p.1 j slot (last_at lasts j).count entry) (λ x. (observer x, plans x)) (took.looked.taken_are.each j entry at))

-- the counts on a processor continue to rise
rise_more : (set : Setting) (i slot number : ℕ) (made after : ℕ → ℕ) (lasts : List Sample) (old mid new : WatcherView) (took : Took set slot number made after lasts old mid new) (cpu : ℕ)
    → RiseWithin 0 (counts_by number cpu (looks_of old.own)) (reader_at old.readers cpu).knows.seen
    → RiseWithin 0 (counts_by number cpu (looks_of old.own) ++ counts_by number cpu (looks_of took.looked.taken)) (reader_at new.readers cpu).knows.seen
rise_more set i slot number made after lasts old mid new took cpu rise =
    let taken = took.looked.taken in
    let from = took_from set slot number made after lasts old mid new took in
    let many : length taken ≡ length lasts = took.looked.taken_are.many in
    ⊎_elim
    (λ (below : cpu < length lasts).
    let found = there taken cpu (omega (arith, below, many)) in
    let zero_plus : 0 + cpu ≡ cpu = omega arith in
    let one = from_one number set.plans slot lasts cpu 0 taken found.0 from cpu zero_plus found.1 in
    let seen = took.looked.seen cpu found.0 found.1 in
    let before = took.prepared_changes.before cpu below in
    let count = took.lasts_are.counts cpu below in
    let later : (last_at lasts cpu).count ≤ found.0.count = subst (λ (n : ℕ). (last_at lasts n).count ≤ found.0.count) zero_plus (from cpu found.0 found.1).later in
    let low : (reader_at old.readers cpu).knows.seen ≤ found.0.count = omega (arith, before, count, later) in
    subst (λ (more : List ℕ). RiseWithin 0 (counts_by number cpu (looks_of old.own) ++ more) (reader_at new.readers cpu).knows.seen) (sym one)
    (subst (λ (high : ℕ). RiseWithin 0 (counts_by number cpu (looks_of old.own) ++ found.0.count ∷ []) high) (sym seen)
    (rise_append 0 (reader_at old.readers cpu).knows.seen found.0.count (counts_by number cpu (looks_of old.own)) (found.0.count ∷ []) rise (low, omega arith))))
    (λ (past : length lasts ≤ cpu).
    let none = from_none number set.plans slot lasts cpu 0 taken from (inr (omega (arith, past, many))) in
    let same = took.looked.later cpu past ∙ took.prepared_changes.later cpu past in
    subst (λ (more : List ℕ). RiseWithin 0 (counts_by number cpu (looks_of old.own) ++ more) (reader_at new.readers cpu).knows.seen) (sym none)
    (subst (λ (numbers : List ℕ). RiseWithin 0 numbers (reader_at new.readers cpu).knows.seen) (sym (append-nil (counts_by number cpu (looks_of old.own))))
    (subst (λ reader. RiseWithin 0 (counts_by number cpu (looks_of old.own)) reader.knows.seen) (sym same) rise)))
    (let case : (cpu < length lasts) ⊎ (length lasts ≤ cpu) = grind arith in case)

-- the samples that were due at the tick have been taken
done_more : (set : Setting) (i slot number : ℕ) (made after : ℕ → ℕ) (lasts : List Sample) (old mid new : WatcherView) (took : Took set slot number made after lasts old mid new)
    → slot_in set (i + 1) ≡ Some slot → length set.plans.plans ≡ set.trace.cpus → ((cpu : ℕ) → cpu < set.trace.cpus → made cpu ≡ changes_until set.trace set.timing.length cpu i)
    → ((cpu : ℕ) → cpu < set.trace.cpus → after cpu ≡ changes_until set.trace set.timing.length cpu (i + 1))
    → AreDone (due_in set (i + 1)) (looks_of took.looked.taken)
done_more set i slot number made after lasts old mid new took here cpus reached ended =
    let taken = took.looked.taken in
    let from = took_from set slot number made after lasts old mid new took in
    let many : length taken ≡ length lasts = took.looked.taken_are.many in
    let all : length taken ≡ set.trace.cpus = many ∙ took.many ∙ cpus in
    let back : i ≡ i + 1 - 1 = omega arith in
    let due = from_done number set.plans slot lasts (λ cpu. changes_until set.trace set.timing.length cpu (i + 1 - 1))
    (λ cpu. changes_until set.trace set.timing.length cpu (i + 1)) 0 taken from
    (λ cpu below.
    let inside : cpu < set.trace.cpus = omega (arith, below, all) in
    let count = took.lasts_are.counts cpu (omega (arith, below, many)) in
    let made_is = reached cpu inside ∙ ap (changes_until set.trace set.timing.length cpu) back in
    omega (arith, count, made_is))
    (λ j entry at.
    let inside : j < length taken = at_below taken j entry at in
    let seen = took.looked.seen j entry at in
    let within = took.within j (omega (arith, inside, many)) in
    let most_is = ended j (omega (arith, inside, all)) in
    let most : entry.count ≤ changes_until set.trace set.timing.length j (i + 1) = omega (arith, seen, within, most_is) in
    let same : j ≡ 0 + j = omega arith in
    subst (λ (n : ℕ). entry.count ≤ changes_until set.trace set.timing.length n (i + 1)) same most) in
    subst (λ (s : Option ℕ). AreDone (due_at set.trace set.timing.length (i + 1) s) (looks_of taken)) (sym here)
    (subst (λ (n : ℕ). AreDone (map (λ cpu. record { cpu = cpu; slot = slot; least = changes_until set.trace set.timing.length cpu (i + 1 - 1); most = changes_until set.trace set.timing.length cpu (i + 1) }) (range_with_len 0 n)) (looks_of taken)) all due)

-- the samples of an observer after one more tick at which it watched a slot
pub taken_more : (set : Setting) (i slot number : ℕ) (made after : ℕ → ℕ) (lasts : List Sample) (old mid new : WatcherView) → Took set slot number made after lasts old mid new
    → slot_in set (i + 1) ≡ Some slot → length set.plans.plans ≡ set.trace.cpus → ((cpu : ℕ) → cpu < set.trace.cpus → made cpu ≡ changes_until set.trace set.timing.length cpu i)
    → ((cpu : ℕ) → cpu < set.trace.cpus → after cpu ≡ changes_until set.trace set.timing.length cpu (i + 1))
    → HasTaken set i number old.readers old.own → HasTaken set (i + 1) number new.readers new.own
taken_more set i slot number made after lasts old mid new took here cpus reached ended was =
    let taken = took.looked.taken in
    let from = took_from set slot number made after lasts old mid new took in
    let many : length taken ≡ length lasts = took.looked.taken_are.many in
    let own : new.own ≡ old.own ++ taken = took.looked.own_is ∙ ap (λ (l : List Entry). l ++ taken) took.prepared_changes.own_is in
    let looks : looks_of new.own ≡ looks_of old.own ++ looks_of taken = ap looks_of own ∙ map-append look_of old.own taken in
    let room = took.many in
    record {
      by = subst (AreBy number) (sym own) (by_append number old.own taken was.by (from_by number set.plans slot lasts 0 taken from));
      on = subst (AreOn set.plans) (sym own) (on_append set.plans old.own taken was.on (from_on number set.plans slot lasts 0 taken from (omega (arith, many, room))));
      done = subst (AreDone (due_until set (i + 1))) (sym looks) (subst (λ (dues : List Due). AreDone dues (looks_of old.own ++ looks_of taken)) (sym (due_more set i))
          (done_append (due_until set i) (due_in set (i + 1)) (looks_of old.own) (looks_of taken) was.done (done_more set i slot number made after lasts old mid new took here cpus reached ended)));
      rise = λ cpu. subst (λ (numbers : List ℕ). RiseWithin 0 numbers (reader_at new.readers cpu).knows.seen) (sym (ap (counts_by number cpu) looks ∙ counts_append number cpu (looks_of old.own) (looks_of taken)))
          (rise_more set i slot number made after lasts old mid new took cpu (was.rise cpu));
    }

-- a tick at which the path isn't live adds no sample
pub taken_still : (set : Setting) (i number : ℕ) (watcher : WatcherView) → slot_in set (i + 1) ≡ None → HasTaken set i number watcher.readers watcher.own → HasTaken set (i + 1) number watcher.readers watcher.own
taken_still set i number watcher none was =
    let no_more : due_in set (i + 1) ≡ [] = ap (due_at set.trace set.timing.length (i + 1)) none in
    let same : due_until set i ≡ due_until set (i + 1) = sym (due_more set i ∙ ap (λ (dues : List Due). due_until set i ++ dues) no_more ∙ append-nil (due_until set i)) in
    record {
      by = was.by;
      on = was.on;
      done = subst (λ (dues : List Due). AreDone dues (looks_of watcher.own)) same was.done;
      rise = was.rise;
    }

-- before the first tick an observer has taken no sample
pub taken_none : (set : Setting) (number : ℕ) (watcher : WatcherView) → watcher.own ≡ [] → HasTaken set 0 number watcher.readers watcher.own
taken_none set number watcher none =
    subst (HasTaken set 0 number watcher.readers) (sym none) (record {
      by = tt;
      on = tt;
      done = tt;
      rise = λ cpu. omega arith;
    })
