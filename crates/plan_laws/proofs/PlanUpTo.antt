-- Events that don't touch a processor, and the changes up to a time.
use Rattle.std.proofs.Common.{◌≡◌, ℕ, ◌+◌, ◌≤◌, ◌<◌, List, [], ◌∷◌, ◌++◌, length, take, refl, sym, ap, ◌∙◌, arith, subst, Bool, true, false, cond, Option, None, Some, append_assoc, ⊎_elim}
use Rattle.std.specs.Prelude.{filter, nat_le, slice_index_or}
use Rattle.std.proofs.lemmas.Bool.Decides.{nat_tests}
use Rattle.std.proofs.lemmas.List.{append-nil, length-append, take-append-le}
use Rattle.psi_base.specs.declared.event.Event.{Event}
use Rattle.psi_counts.specs.declared.changes.Change.{Change}
use Rattle.psi_spec.specs.World.{World, Limits, after, after_event, after_from, first_world}
use Rattle.psi_spec.specs.Refusal.{AreLegal}
use Rattle.psi_spec.specs.Stall.{parents_of, stall}
use Rattle.psi_counts.specs.Touch.{change_of}
use Rattle.psi_counts.specs.Legal.{changes_from, with_change}
use Rattle.psi_spec.specs.World.{up_to}
use Rattle.plan_laws.specs.Plan.{CountsByPlan, StallUpTo, StatesStay}
use Rattle.psi_spec.specs.Changes.{changes_of, count_at, event_of_change, touches, until_change}
use Rattle.plan_laws.proofs.PlanLaws.{as_many, by_last, changes_same, changes_of-push, get-prefix, touched_or_not, until_is}
use Rattle.plan_laws.proofs.PlanStates.{legal_prefix}
use Rattle.plan_laws.proofs.PlanStalls.{held_on, in_turn, stall_by_own_changes, until_earlier}

-- ---- an event that doesn't touch a processor

pub states_stay : StatesStay
states_stay limits events event legal state cpu slot untouched =
    let parents : List (Option ℕ) = parents_of (after (events ++ event ∷ [])).groups in
    ⊎_elim
    (λ off. held_on limits events event legal parents ([], sym (append-nil parents)) state cpu slot (changes_same cpu events event off))
    (λ on. absurd (cc (on.turns, untouched)))
    (touched_or_not (after events) event cpu)

-- ---- the events up to a time

abbrev is_early : ℕ → Change → Bool
is_early at change = nat_le change.at at

late : (last at moment : ℕ) → at < last → last ≤ moment → nat_le moment at ≡ false
late last at moment past turn = grind (arith, nat_tests)

pub past_it : (at moment : ℕ) → nat_le moment at ≡ false → at < moment
past_it at moment off = grind (arith, nat_tests)

at_most : (at moment : ℕ) → nat_le moment at ≡ true → moment ≤ at
at_most at moment on = grind (arith, nat_tests)

-- None of the remaining events is at or before a time that is before the last event.
pub none_later : (limits : Limits) (w : World) (events : List Event) (at : ℕ) → AreLegal limits w events → at < w.last → up_to events at ≡ []
none_later limits w [] at legal past = refl
none_later limits w (event ∷ events) at legal past =
    let turn = in_turn limits w event legal.0 in
    let off = late w.last at event.at past turn in
    rw off (none_later limits (after_event w event) events at legal.1 (omega (arith, past, turn)))

-- The events up to a time are a prefix of all events.
pub up_to_prefix : (limits : Limits) (w : World) (events : List Event) (at : ℕ) → AreLegal limits w events → (rest : List Event) × (events ≡ up_to events at ++ rest)
up_to_prefix limits w [] at legal = ([], refl)
up_to_prefix limits w (event ∷ events) at legal =
    elim (nat_le event.at at) as (λ b. nat_le event.at at ≡ b → (rest : List Event) × (event ∷ events ≡ cond b (event ∷ up_to events at) (up_to events at) ++ rest)) [
      | true ↦ λ _. let more = up_to_prefix limits (after_event w event) events at legal.1 in (more.0, ap (λ es. event ∷ es) more.1)
      | false ↦ λ off. (event ∷ events, ap (λ es. es ++ event ∷ events) (sym (none_later limits (after_event w event) events at legal.1 (past_it at event.at off))))
    ] refl

-- The last time of the world after the events up to a time is at most that time.
pub ends_by : (w : World) (events : List Event) (at : ℕ) → w.last ≤ at → (after_from w (up_to events at)).last ≤ at
ends_by w [] at low = low
ends_by w (event ∷ events) at low =
    elim (nat_le event.at at) as (λ b. nat_le event.at at ≡ b → (after_from w (cond b (event ∷ up_to events at) (up_to events at))).last ≤ at) [
      | true ↦ λ on. ends_by (after_event w event) events at (at_most at event.at on)
      | false ↦ λ _. ends_by w events at low
    ] refl

-- ---- their changes

-- The numbers of the changes of a prefix of the events are a prefix of all numbers.
numbers_prefix : (cpu : ℕ) (prefix rest : List Event) → (more : List ℕ) × (changes_of cpu (prefix ++ rest) ≡ changes_of cpu prefix ++ more)
numbers_prefix cpu prefix rest =
    by_last (λ es. (more : List ℕ) × (changes_of cpu (prefix ++ es) ≡ changes_of cpu prefix ++ more))
    ([], ap (changes_of cpu) (append-nil prefix) ∙ sym (append-nil (changes_of cpu prefix)))
    (λ es event is.
    let numbers : List ℕ = cond (touches (after (prefix ++ es)) (Some event) cpu) ((1 + length (prefix ++ es)) ∷ []) [] in
    (is.0 ++ numbers, ap (changes_of cpu) (sym (append_assoc prefix es (event ∷ []))) ∙ changes_of-push cpu (prefix ++ es) event ∙ ap (λ ns. ns ++ numbers) is.1 ∙ append_assoc (changes_of cpu prefix) is.0 numbers))
    rest

-- The events up to a change of a prefix are the events up to this change of all events.
pub until_of_prefix : (cpu : ℕ) (prefix rest : List Event) (k : ℕ) → k ≤ length (changes_of cpu prefix) → until_change cpu (prefix ++ rest) k ≡ until_change cpu prefix k
until_of_prefix cpu prefix rest k low =
    let numbers = numbers_prefix cpu prefix rest in
    ap (λ ns. take (slice_index_or (0 ∷ ns) k 0) (prefix ++ rest)) numbers.1
    ∙ ap (λ n. take n (prefix ++ rest)) (get-prefix (changes_of cpu prefix) numbers.0 k low)
    ∙ take-append-le (event_of_change cpu prefix k) prefix rest (until_is cpu prefix k low).within

pub stall_up_to : StallUpTo
stall_up_to limits events legal state cpu slot at =
    let prefix : List Event = up_to events at in
    let parts = up_to_prefix limits first_world events at legal in
    let legally : AreLegal limits first_world prefix = legal_prefix limits first_world prefix parts.0 (subst (AreLegal limits first_world) parts.1 legal) in
    stall_by_own_changes limits prefix legally state cpu slot at (ends_by first_world events at (omega arith))
    ∙ ap (λ es. stall state cpu slot es at) (sym (until_of_prefix cpu prefix parts.0 (count_at cpu events at) (omega arith)) ∙ ap (λ es. until_change cpu es (count_at cpu events at)) (sym parts.1))

-- ---- the number of changes up to a time

early_with : (at : ℕ) (o : Option Change) (changes : List Change) → filter (is_early at) (with_change o changes) ≡ filter (is_early at) (with_change o []) ++ filter (is_early at) changes
early_with at None changes = refl
early_with at (Some change) changes =
    elim (nat_le change.at at) as (λ b. cond b (change ∷ filter (is_early at) changes) (filter (is_early at) changes) ≡ cond b (change ∷ []) [] ++ filter (is_early at) changes) [ true ↦ refl | false ↦ refl ]

nothing_either : (b : Bool) → cond {A = List Change} b [] [] ≡ []
nothing_either true = refl
nothing_either false = refl

-- An event's change is at or before a time if and only if the event is.
own_change : (w : World) (event : Event) (cpu at : ℕ) (b : Bool) → nat_le event.at at ≡ b → filter (is_early at) (with_change (change_of w event cpu) []) ≡ cond b (with_change (change_of w event cpu) []) []
own_change w event cpu at b is =
    ⊎_elim
    (λ off. rw off.none (sym (nothing_either b)))
    (λ on. rw on.one (ap (λ b. cond b (on.change ∷ []) []) (ap (λ m. nat_le m at) on.moment ∙ is)))
    (touched_or_not w event cpu)

with_change-split : (o : Option Change) (changes : List Change) → with_change o [] ++ changes ≡ with_change o changes
with_change-split None changes = refl
with_change-split (Some change) changes = refl

-- The changes of the events up to a time are the changes at or before that time.
early_changes : (limits : Limits) (cpu : ℕ) (w : World) (events : List Event) (at : ℕ) → AreLegal limits w events → changes_from cpu w (up_to events at) ≡ filter (is_early at) (changes_from cpu w events)
early_changes limits cpu w [] at legal = refl
early_changes limits cpu w (event ∷ events) at legal =
    let rest = early_changes limits cpu (after_event w event) events at legal.1 in
    let split = early_with at (change_of w event cpu) (changes_from cpu (after_event w event) events) in
    elim (nat_le event.at at) as (λ b. nat_le event.at at ≡ b → changes_from cpu w (cond b (event ∷ up_to events at) (up_to events at)) ≡ filter (is_early at) (changes_from cpu w (event ∷ events))) [
      | true ↦ λ on.
          ap (with_change (change_of w event cpu)) rest
          ∙ sym (split ∙ ap (λ cs. cs ++ filter (is_early at) (changes_from cpu (after_event w event) events)) (own_change w event cpu at true on) ∙ with_change-split (change_of w event cpu) (filter (is_early at) (changes_from cpu (after_event w event) events)))
      | false ↦ λ off.
          let none = none_later limits (after_event w event) events at legal.1 (past_it at event.at off) in
          let no_more : filter (is_early at) (changes_from cpu (after_event w event) events) ≡ [] = sym rest ∙ ap (changes_from cpu (after_event w event)) none in
          ap (changes_from cpu w) none
          ∙ sym (split ∙ ap (λ cs. cs ++ filter (is_early at) (changes_from cpu (after_event w event) events)) (own_change w event cpu at false off) ∙ no_more)
    ] refl

pub counts_by_plan : CountsByPlan
counts_by_plan limits events legal cpu at =
    let prefix : List Event = up_to events at in
    let parts = up_to_prefix limits first_world events at legal in
    let numbers = numbers_prefix cpu prefix parts.0 in
    let fewer : length (changes_of cpu events) ≡ length (changes_of cpu prefix) + length numbers.0 = ap (λ es. length (changes_of cpu es)) parts.1 ∙ ap length numbers.1 ∙ length-append (changes_of cpu prefix) numbers.0 in
    let low : count_at cpu events at ≤ length (changes_of cpu events) = omega (arith, fewer) in
    let same : until_change cpu events (count_at cpu events at) ≡ until_change cpu prefix (count_at cpu events at) = ap (λ es. until_change cpu es (count_at cpu events at)) parts.1 ∙ until_of_prefix cpu prefix parts.0 (count_at cpu events at) (omega arith) in
    let until = until_is cpu events (count_at cpu events at) low in
    let earlier = until_earlier limits cpu prefix (count_at cpu events at) (legal_prefix limits first_world prefix parts.0 (subst (AreLegal limits first_world) parts.1 legal)) in
    let by = ends_by first_world events at (omega arith) in
    (sym (as_many cpu prefix) ∙ ap length (early_changes limits cpu first_world events at legal), low, omega (arith, until.last, ap (λ es. (after es).last) same, earlier, by))
