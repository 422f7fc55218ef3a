-- The changes of one processor in a trace, event by event.
use Rattle.std.proofs.Common.{◌≡◌, ℕ, zero, suc, ◌+◌, ◌-◌, ◌≤◌, ◌<◌, List, [], ◌∷◌, ◌++◌, length, map, take, refl, sym, ap, ◌∙◌, arith, subst, Bool, true, false, cond, Option, None, Some, append_assoc, ◌⊎◌, inl, inr, ⊎_elim}
use Rattle.std.specs.Prelude.{filter, slice_get, slice_index_or, if◌then◌else◌}
use Rattle.std.specs.List.{range_with_len}
use Rattle.std.proofs.lemmas.List.{append-nil, length-append, length-map, map-append, take-append-le, take_all, get_or_append_left}
use Rattle.std.proofs.lemmas.List.Elements.{filter-append}
use Rattle.std.proofs.Math.Seq.{get_or-append_seam, take-append_seam}
use Rattle.psi_base.specs.declared.event.Event.{Event}
use Rattle.psi_counts.specs.declared.changes.Change.{Change}
use Rattle.psi_spec.specs.World.{World, after, after_event, after_from, first_world, tasks_after}
use Rattle.psi_spec.specs.Stall.{irq_time_by, moment_of}
use Rattle.psi_counts.specs.Touch.{change_of, change_on, account_of, task_after}
use Rattle.psi_spec.specs.Changes.{before, changes_of, event_of_change, is_change, touched, touches, until_change}
use Rattle.psi_counts.specs.Legal.{changes_from, with_change}
use Rattle.plan_laws.specs.Plan.{change_at, last_change, plan_of, ChangesAreNumbered, ChangesUntil}
use Rattle.psi_spec.proofs.Following.{after_from-append}
use Rattle.psi_spec.proofs.StallLaws.{get_left, get_seam}

-- ---- lists from their ends

-- induction over prefixes: from the empty prefix, and from each prefix to one more element
by_last_from : {A : Type 0} (P : List A → Type 0) → ((xs : List A) (x : A) → P xs → P (xs ++ x ∷ [])) → (prefix rest : List A) → P prefix → P (prefix ++ rest)
by_last_from P step prefix [] is = subst P (sym (append-nil prefix)) is
by_last_from P step prefix (x ∷ rest) is = subst P (append_assoc prefix (x ∷ []) rest) (by_last_from P step (prefix ++ x ∷ []) rest (step prefix x is))

-- Induction over lists from their ends: from the empty list, and from each list to the list with
-- one more element at its end.
pub by_last : {A : Type 0} (P : List A → Type 0) → P [] → ((xs : List A) (x : A) → P xs → P (xs ++ x ∷ [])) → (xs : List A) → P xs
by_last P none step xs = by_last_from P step [] xs none

range_more : (a n : ℕ) → range_with_len a (suc n) ≡ range_with_len a n ++ (a + n) ∷ []
range_more a zero = ap (λ i. i ∷ []) (let same : a ≡ a + 0 = omega arith in same)
range_more a (suc n) =
    let rest = range_more (a + 1) n in
    let same : a + 1 + n ≡ a + suc n = omega arith in
    ap (λ is. a ∷ is) (rest ∙ ap (λ i. range_with_len (a + 1) n ++ i ∷ []) same)

filter_same : (p q : ℕ → Bool) (from n : ℕ) → ((i : ℕ) → from ≤ i → i < from + n → p i ≡ q i) → filter p (range_with_len from n) ≡ filter q (range_with_len from n)
filter_same p q from zero same = refl
filter_same p q from (suc n) same =
    let here : p from ≡ q from = same from (omega arith) (omega arith) in
    let rest = filter_same p q (from + 1) n (λ i low high. same i (omega (arith, low)) (omega (arith, high))) in
    rw (here, rest) refl

map_filtered : {X : Type 0} (f g : ℕ → X) (p : ℕ → Bool) (from n : ℕ) → ((i : ℕ) → from ≤ i → i < from + n → f i ≡ g i) → map f (filter p (range_with_len from n)) ≡ map g (filter p (range_with_len from n))
map_filtered f g p from zero same = refl
map_filtered f g p from (suc n) same =
    let here : f from ≡ g from = same from (omega arith) (omega arith) in
    let rest = map_filtered f g p (from + 1) n (λ i low high. same i (omega (arith, low)) (omega (arith, high))) in
    elim (p from) as (λ b. map f (cond b (from ∷ filter p (range_with_len (from + 1) n)) (filter p (range_with_len (from + 1) n))) ≡ map g (cond b (from ∷ filter p (range_with_len (from + 1) n)) (filter p (range_with_len (from + 1) n)))) [
      | true ↦ cc (here, rest)
      | false ↦ rest
    ]

-- ---- an event more

-- The world after appending an event is the world after the event.
pub after-push : (events : List Event) (event : Event) → after (events ++ event ∷ []) ≡ after_event (after events) event
after-push events event = after_from-append first_world events (event ∷ [])

with_change-append : (o : Option Change) (xs ys : List Change) → with_change o xs ++ ys ≡ with_change o (xs ++ ys)
with_change-append None xs ys = refl
with_change-append (Some change) xs ys = refl

-- Appending an event appends its change, if any.
pub changes_from-push : (cpu : ℕ) (w : World) (events : List Event) (event : Event) → changes_from cpu w (events ++ event ∷ []) ≡ changes_from cpu w events ++ with_change (change_of (after_from w events) event cpu) []
changes_from-push cpu w [] event = refl
changes_from-push cpu w (first ∷ events) event =
    let rest = changes_from-push cpu (after_event w first) events event in
    ap (with_change (change_of w first cpu)) rest ∙ sym (with_change-append (change_of w first cpu) (changes_from cpu (after_event w first) events) (with_change (change_of (after_from (after_event w first) events) event cpu) []))

is_change-prefix : (cpu : ℕ) (events : List Event) (event : Event) (i : ℕ) → 1 ≤ i → i < 1 + length events → is_change cpu (events ++ event ∷ []) i ≡ is_change cpu events i
is_change-prefix cpu events event i low high =
    let prefix : take (i - 1) (events ++ event ∷ []) ≡ take (i - 1) events = take-append-le (i - 1) events (event ∷ []) (omega (arith, low, high)) in
    let here : slice_get (events ++ event ∷ []) (i - 1) ≡ slice_get events (i - 1) = get_left events (event ∷ []) (i - 1) (omega (arith, low, high)) in
    rw (prefix, here) refl

is_change-last : (cpu : ℕ) (events : List Event) (event : Event) → is_change cpu (events ++ event ∷ []) (1 + length events) ≡ touches (after events) (Some event) cpu
is_change-last cpu events event =
    let place : 1 + length events - 1 ≡ length events = omega arith in
    rw (place, take-append_seam events (event ∷ []), get_seam events event) refl

-- Appending an event appends its number if the event touches the processor.
pub changes_of-push : (cpu : ℕ) (events : List Event) (event : Event) → changes_of cpu (events ++ event ∷ []) ≡ changes_of cpu events ++ cond (touches (after events) (Some event) cpu) ((1 + length events) ∷ []) []
unfolding changes_of
changes_of-push cpu events event =
    let len : length (events ++ event ∷ []) ≡ suc (length events) = omega (arith, length-append events (event ∷ [])) in
    let more = range_more 1 (length events) in
    let prefix = filter_same (is_change cpu (events ++ event ∷ [])) (is_change cpu events) 1 (length events) (is_change-prefix cpu events event) in
    let split = filter-append (is_change cpu (events ++ event ∷ [])) (range_with_len 1 (length events)) ((1 + length events) ∷ []) in
    let last : filter (is_change cpu (events ++ event ∷ [])) ((1 + length events) ∷ []) ≡ cond (touches (after events) (Some event) cpu) ((1 + length events) ∷ []) [] = ap (λ b. cond b ((1 + length events) ∷ []) []) (is_change-last cpu events event) in
    ap (λ n. filter (is_change cpu (events ++ event ∷ [])) (range_with_len 1 n)) len
    ∙ ap (filter (is_change cpu (events ++ event ∷ []))) more
    ∙ split
    ∙ ap (λ is. is ++ filter (is_change cpu (events ++ event ∷ [])) ((1 + length events) ∷ [])) prefix
    ∙ ap (λ is. filter (is_change cpu events) (range_with_len 1 (length events)) ++ is) last

-- ---- events that touch a processor, and events that don't

pub record Untouched (w : World) (event : Event) (cpu : ℕ) : Type 0 where
  pub leaves : touches w (Some event) cpu ≡ false
  pub none : change_of w event cpu ≡ None

pub record TouchedBy (w : World) (event : Event) (cpu : ℕ) : Type 0 where
  pub change : Change
  pub turns : touches w (Some event) cpu ≡ true
  pub one : change_of w event cpu ≡ Some change
  pub moment : change.at ≡ event.at
  pub irq : change.irq ≡ irq_time_by cpu event.act
  pub account : change.account ≡ account_of w.groups event.act

touch_cases : (b : Bool) (made : Change) → ((b ≡ false) × ((if b then Some made else None) ≡ None)) ⊎ ((b ≡ true) × ((if b then Some made else None) ≡ Some made))
touch_cases true made = inr (refl, refl)
touch_cases false made = inl (refl, refl)

pub touched_or_not : (w : World) (event : Event) (cpu : ℕ) → Untouched w event cpu ⊎ TouchedBy w event cpu
unfolding change_of
touched_or_not w event cpu =
    let made : Change = change_on w.groups event (before w.tasks event.act) (task_after w.groups w.tasks event.act) (tasks_after w.groups w.tasks event.act) cpu in
    ⊎_elim
    (λ off. inl (record { leaves = off.0; none = off.1 }))
    (λ on. inr (record { change = made; turns = on.0; one = on.1; moment = refl; irq = refl; account = refl }))
    (touch_cases (touched event.act (before w.tasks event.act) cpu) made)

-- an event that doesn't touch the processor adds no change
pub changes_same : (cpu : ℕ) (events : List Event) (event : Event) → Untouched (after events) event cpu → changes_from cpu first_world (events ++ event ∷ []) ≡ changes_from cpu first_world events
changes_same cpu events event off = changes_from-push cpu first_world events event ∙ rw off.none (append-nil (changes_from cpu first_world events))

-- An event that touches the processor appends its change.
pub changes_grow : (cpu : ℕ) (events : List Event) (event : Event) (on : TouchedBy (after events) event cpu) → changes_from cpu first_world (events ++ event ∷ []) ≡ changes_from cpu first_world events ++ on.change ∷ []
changes_grow cpu events event on = changes_from-push cpu first_world events event ∙ rw on.one refl

-- ---- the changes are those that the numbers name

abbrev somes : List Change → List (Option Change)
somes changes = map (λ change. Some change) changes

abbrev moments : List Change → List ℕ
moments changes = map (λ (change : Change). change.at) changes

abbrev times : List Event → List ℕ
times events = map (λ (event : Event). event.at) events

change_at-prefix : (cpu : ℕ) (events : List Event) (event : Event) (i : ℕ) → 1 ≤ i → i < 1 + length events → change_at cpu (events ++ event ∷ []) i ≡ change_at cpu events i
change_at-prefix cpu events event i low high =
    let prefix : take (i - 1) (events ++ event ∷ []) ≡ take (i - 1) events = take-append-le (i - 1) events (event ∷ []) (omega (arith, low, high)) in
    let here : slice_get (events ++ event ∷ []) (i - 1) ≡ slice_get events (i - 1) = get_left events (event ∷ []) (i - 1) (omega (arith, low, high)) in
    rw (prefix, here) refl

change_at-last : (cpu : ℕ) (events : List Event) (event : Event) → change_at cpu (events ++ event ∷ []) (1 + length events) ≡ change_of (after events) event cpu
change_at-last cpu events event =
    let place : 1 + length events - 1 ≡ length events = omega arith in
    rw (place, take-append_seam events (event ∷ []), get_seam events event) refl

moment-prefix : (events : List Event) (event : Event) (i : ℕ) → 1 ≤ i → i < 1 + length events → moment_of (events ++ event ∷ []) 0 i ≡ moment_of events 0 i
moment-prefix events event i low high =
    let len : length (times events) ≡ length events = length-map events (λ (e : Event). e.at) in
    rw (map-append (λ (e : Event). e.at) events (event ∷ [])) (get_or_append_left (times events) (event.at ∷ []) 0 (i - 1) (omega (arith, len, low, high)))

moment-last : (events : List Event) (event : Event) → moment_of (events ++ event ∷ []) 0 (1 + length events) ≡ event.at
moment-last events event =
    let place : 1 + length events - 1 ≡ length (times events) = omega (arith, length-map events (λ (e : Event). e.at)) in
    rw (place, map-append (λ (e : Event). e.at) events (event ∷ [])) (get_or-append_seam (times events) event.at [] 0)

-- Two functions that agree on the numbers of all events agree on the numbers of the changes.
mapped-prefix : {X : Type 0} (cpu : ℕ) (events : List Event) (f g : ℕ → X) → ((i : ℕ) → 1 ≤ i → i < 1 + length events → f i ≡ g i) → map f (changes_of cpu events) ≡ map g (changes_of cpu events)
unfolding changes_of
mapped-prefix cpu events f g same = map_filtered f g (is_change cpu events) 1 (length events) same

-- The contents and the times of the changes are found by the numbers of the events that make the
-- changes.
record AreNumbered (cpu : ℕ) (events : List Event) : Type 0 where
  contents : somes (changes_from cpu first_world events) ≡ map (change_at cpu events) (changes_of cpu events)
  at : moments (changes_from cpu first_world events) ≡ map (moment_of events 0) (changes_of cpu events)

numbered-none : (cpu : ℕ) → AreNumbered cpu []
unfolding changes_of
numbered-none cpu = record { contents = refl; at = refl }

numbered-push : (cpu : ℕ) (events : List Event) (event : Event) → AreNumbered cpu events → AreNumbered cpu (events ++ event ∷ [])
numbered-push cpu events event are =
    let numbers = changes_of-push cpu events event in
    let contents = are.contents ∙ sym (mapped-prefix cpu events (change_at cpu (events ++ event ∷ [])) (change_at cpu events) (change_at-prefix cpu events event)) in
    let at = are.at ∙ sym (mapped-prefix cpu events (moment_of (events ++ event ∷ []) 0) (moment_of events 0) (moment-prefix events event)) in
    ⊎_elim
    (λ off.
    let same_numbers : changes_of cpu (events ++ event ∷ []) ≡ changes_of cpu events = numbers ∙ rw off.leaves (append-nil (changes_of cpu events)) in
    let same_changes : changes_from cpu first_world (events ++ event ∷ []) ≡ changes_from cpu first_world events = changes_same cpu events event off in
    record { contents = rw (same_numbers, same_changes) contents; at = rw (same_numbers, same_changes) at })
    (λ on.
    let more_numbers : changes_of cpu (events ++ event ∷ []) ≡ changes_of cpu events ++ (1 + length events) ∷ [] = numbers ∙ rw on.turns refl in
    let more_changes : changes_from cpu first_world (events ++ event ∷ []) ≡ changes_from cpu first_world events ++ on.change ∷ [] = changes_grow cpu events event on in
    let last = change_at-last cpu events event ∙ on.one in
    let moment = moment-last events event ∙ sym on.moment in
    record {
      contents = rw (more_numbers, more_changes, map-append (λ (c : Change). let o : Option Change = Some c in o) (changes_from cpu first_world events) (on.change ∷ []), map-append (change_at cpu (events ++ event ∷ [])) (changes_of cpu events) ((1 + length events) ∷ []))
          (cc (contents, last));
      at = rw (more_numbers, more_changes, map-append (λ (c : Change). c.at) (changes_from cpu first_world events) (on.change ∷ []), map-append (moment_of (events ++ event ∷ []) 0) (changes_of cpu events) ((1 + length events) ∷ []))
          (cc (at, moment));
    })
    (touched_or_not (after events) event cpu)

numbered : (cpu : ℕ) (events : List Event) → AreNumbered cpu events
numbered cpu events = by_last (AreNumbered cpu) (numbered-none cpu) (numbered-push cpu) events

pub as_many : (cpu : ℕ) (events : List Event) → length (changes_from cpu first_world events) ≡ length (changes_of cpu events)
as_many cpu events =
    sym (length-map (changes_from cpu first_world events) (λ (c : Change). c.at)) ∙ ap length (numbered cpu events).at ∙ length-map (changes_of cpu events) (moment_of events 0)

pub changes_are_numbered : ChangesAreNumbered
changes_are_numbered cpu events = ((numbered cpu events).contents, (numbered cpu events).at, as_many cpu events)

-- ---- the events up to a change

-- A prefix of a list of numbers after a 0 has the elements of the whole list.
pub get-prefix : (xs ys : List ℕ) (k : ℕ) → k ≤ length xs → slice_index_or (0 ∷ (xs ++ ys)) k 0 ≡ slice_index_or (0 ∷ xs) k 0
get-prefix xs ys zero low = refl
get-prefix xs ys (suc k) low = get_or_append_left xs ys 0 k (omega (arith, low))

-- The events up to change `k` are a prefix of the events, and make exactly the first `k` changes.
pub record IsUntil (cpu : ℕ) (events : List Event) (k : ℕ) : Type 0 where
  pub within : event_of_change cpu events k ≤ length events
  pub changes : changes_from cpu first_world (until_change cpu events k) ≡ take k (changes_from cpu first_world events)
  pub last : (after (until_change cpu events k)).last ≡ last_change (plan_of cpu events) k

until-none : (cpu k : ℕ) → k ≤ length (changes_of cpu []) → IsUntil cpu [] k
unfolding changes_of
until-none cpu zero low = record { within = omega arith; changes = refl; last = refl }
until-none cpu (suc k) low = absurd (omega (arith, low))

-- Appending an event doesn't affect the events up to earlier changes.
until-prefix : (cpu : ℕ) (events : List Event) (event : Event) (numbers : List ℕ) (changes : List Change) (k : ℕ) → k ≤ length (changes_of cpu events)
    → changes_of cpu (events ++ event ∷ []) ≡ changes_of cpu events ++ numbers → changes_from cpu first_world (events ++ event ∷ []) ≡ changes_from cpu first_world events ++ changes → IsUntil cpu events k → IsUntil cpu (events ++ event ∷ []) k
until-prefix cpu events event numbers changes k low more_numbers more_changes is =
    let number : event_of_change cpu (events ++ event ∷ []) k ≡ event_of_change cpu events k = ap (λ is. slice_index_or (0 ∷ is) k 0) more_numbers ∙ get-prefix (changes_of cpu events) numbers k low in
    let same : until_change cpu (events ++ event ∷ []) k ≡ until_change cpu events k = ap (λ n. take n (events ++ event ∷ [])) number ∙ take-append-le (event_of_change cpu events k) events (event ∷ []) is.within in
    let few : k ≤ length (changes_from cpu first_world events) = omega (arith, low, as_many cpu events) in
    let prefix : take k (changes_from cpu first_world (events ++ event ∷ [])) ≡ take k (changes_from cpu first_world events) = ap (take k) more_changes ∙ take-append-le k (changes_from cpu first_world events) changes few in
    let moment : last_change (plan_of cpu (events ++ event ∷ [])) k ≡ last_change (plan_of cpu events) k =
    ap (λ is. slice_index_or (0 ∷ is) k 0) (ap moments more_changes ∙ map-append (λ (c : Change). c.at) (changes_from cpu first_world events) changes)
    ∙ get-prefix (moments (changes_from cpu first_world events)) (moments changes) k (omega (arith, few, length-map (changes_from cpu first_world events) (λ (c : Change). c.at))) in
    record {
      within = omega (arith, number, is.within, length-append events (event ∷ []));
      changes = ap (changes_from cpu first_world) same ∙ is.changes ∙ sym prefix;
      last = ap (λ es. (after es).last) same ∙ is.last ∙ sym moment;
    }

-- An appended event that touches the processor is the last of the events up to its change.
until-last : (cpu : ℕ) (events : List Event) (event : Event) (change : Change) → change.at ≡ event.at → (k : ℕ) → k ≡ suc (length (changes_of cpu events))
    → changes_of cpu (events ++ event ∷ []) ≡ changes_of cpu events ++ (1 + length events) ∷ [] → changes_from cpu first_world (events ++ event ∷ []) ≡ changes_from cpu first_world events ++ change ∷ [] → IsUntil cpu (events ++ event ∷ []) k
until-last cpu events event change at k is more_numbers more_changes =
    let len = length-append events (event ∷ []) in
    let number : event_of_change cpu (events ++ event ∷ []) k ≡ 1 + length events =
    ap (λ k. event_of_change cpu (events ++ event ∷ []) k) is ∙ ap (λ is. slice_index_or is (length (changes_of cpu events)) 0) more_numbers ∙ get_or-append_seam (changes_of cpu events) (1 + length events) [] 0 in
    let all : until_change cpu (events ++ event ∷ []) k ≡ events ++ event ∷ [] = ap (λ n. take n (events ++ event ∷ [])) number ∙ take_all (1 + length events) (events ++ event ∷ []) (omega (arith, len)) in
    let each : take k (changes_from cpu first_world (events ++ event ∷ [])) ≡ changes_from cpu first_world (events ++ event ∷ []) =
    take_all k (changes_from cpu first_world (events ++ event ∷ [])) (omega (arith, is, ap length more_changes, length-append (changes_from cpu first_world events) (change ∷ []), as_many cpu events)) in
    let place : length (changes_of cpu events) ≡ length (moments (changes_from cpu first_world events)) = sym (as_many cpu events) ∙ sym (length-map (changes_from cpu first_world events) (λ (c : Change). c.at)) in
    let moment : last_change (plan_of cpu (events ++ event ∷ [])) k ≡ change.at =
    ap (λ k. last_change (plan_of cpu (events ++ event ∷ [])) k) (is ∙ ap suc place)
    ∙ ap (λ is. slice_index_or is (length (moments (changes_from cpu first_world events))) 0) (ap moments more_changes ∙ map-append (λ (c : Change). c.at) (changes_from cpu first_world events) (change ∷ []))
    ∙ get_or-append_seam (moments (changes_from cpu first_world events)) change.at [] 0 in
    record {
      within = omega (arith, number, len);
      changes = ap (changes_from cpu first_world) all ∙ sym each;
      last = ap (λ es. (after es).last) all ∙ ap (λ (w : World). w.last) (after-push events event) ∙ sym at ∙ sym moment;
    }

until-push : (cpu : ℕ) (events : List Event) (event : Event) → ((k : ℕ) → k ≤ length (changes_of cpu events) → IsUntil cpu events k) → (k : ℕ) → k ≤ length (changes_of cpu (events ++ event ∷ [])) → IsUntil cpu (events ++ event ∷ []) k
until-push cpu events event so k low =
    let numbers = changes_of-push cpu events event in
    ⊎_elim
    (λ off.
    let same_numbers : changes_of cpu (events ++ event ∷ []) ≡ changes_of cpu events ++ [] = numbers ∙ rw off.leaves refl in
    let same_changes : changes_from cpu first_world (events ++ event ∷ []) ≡ changes_from cpu first_world events ++ [] = changes_same cpu events event off ∙ sym (append-nil (changes_from cpu first_world events)) in
    let few : k ≤ length (changes_of cpu events) = omega (arith, low, ap length same_numbers, length-append (changes_of cpu events) []) in
    until-prefix cpu events event [] [] k few same_numbers same_changes (so k few))
    (λ on.
    let more_numbers : changes_of cpu (events ++ event ∷ []) ≡ changes_of cpu events ++ (1 + length events) ∷ [] = numbers ∙ rw on.turns refl in
    let more_changes : changes_from cpu first_world (events ++ event ∷ []) ≡ changes_from cpu first_world events ++ on.change ∷ [] = changes_grow cpu events event on in
    let most : k ≤ length (changes_of cpu events) + 1 = omega (arith, low, ap length more_numbers, length-append (changes_of cpu events) ((1 + length events) ∷ [])) in
    let case : (k ≤ length (changes_of cpu events)) ⊎ (k ≡ suc (length (changes_of cpu events))) = before_or_last k (length (changes_of cpu events)) most in
    ⊎_elim
    (λ few. until-prefix cpu events event ((1 + length events) ∷ []) (on.change ∷ []) k few more_numbers more_changes (so k few))
    (λ last. until-last cpu events event on.change on.moment k last more_numbers more_changes)
    case)
    (touched_or_not (after events) event cpu)
  where
    before_or_last : (k n : ℕ) → k ≤ n + 1 → (k ≤ n) ⊎ (k ≡ suc n)
    before_or_last k n most = grind arith

-- The events up to each change satisfy `IsUntil`.
pub until_is : (cpu : ℕ) (events : List Event) (k : ℕ) → k ≤ length (changes_of cpu events) → IsUntil cpu events k
until_is cpu events = by_last (λ es. (k : ℕ) → k ≤ length (changes_of cpu es) → IsUntil cpu es k) (until-none cpu) (until-push cpu) events

pub changes_until : ChangesUntil
changes_until cpu events k low = ((until_is cpu events k low).changes, (until_is cpu events k low).last)
