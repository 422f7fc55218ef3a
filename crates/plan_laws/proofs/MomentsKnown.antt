-- Values that are collected from the events of a trace, in order of time and up to a time.
use Rattle.std.proofs.Common.{◌≡◌, ℕ, ◌-◌, ◌≤◌, List, [], ◌∷◌, ◌++◌, refl, sym, ap, ◌∙◌, subst, append_assoc, arith, true, false, cond, length}
use Rattle.std.specs.Prelude.{filter, nat_le, All}
use Rattle.std.specs.List.{AllByRecursion}
use Rattle.std.specs.List.Sorted.{IsNonDecreasingBy}
use Rattle.std.proofs.lemmas.List.{append-nil}
use Rattle.std.proofs.lemmas.List.Elements.{All-append, All-push, All-weaker, filter-append, All-from_recursion}
use Rattle.std.proofs.lemmas.List.Sorted.{IsNonDecreasingBy-push, IsNonDecreasingBy-short}
use Rattle.psi_base.specs.declared.event.Event.{Event}
use Rattle.psi_spec.specs.World.{World, Limits, after, after_event, after_from, first_world, up_to}
use Rattle.psi_spec.specs.Refusal.{AreLegal}
use Rattle.psi_spec.specs.Collected.{values_from}
use Rattle.plan_laws.proofs.PlanUpTo.{none_later, past_it}
use Rattle.plan_laws.proofs.MomentsEvents.{by_legal, last-push, after_others}

-- Appending an event appends its values.
pub known-push : {A : Type 0} (shows : World → Event → List A) (w : World) (events : List Event) (event : Event) → values_from shows w (events ++ event ∷ []) ≡ values_from shows w events ++ shows (after_from w events) event
known-push shows w [] event = append-nil (shows w event)
known-push shows w (first ∷ events) event = ap (λ rest. shows w first ++ rest) (known-push shows (after_event w first) events event) ∙ sym (append_assoc (shows w first) (values_from shows (after_event w first) events) (shows (after_from (after_event w first) events) event))

-- The time of each value is the time of its event.
abbrev pub ShowsAtOnce : {A : Type 0} → (World → Event → List A) → (A → ℕ) → Type 0
ShowsAtOnce shows moment = (w : World) (event : Event) → AllByRecursion (λ x. moment x ≡ event.at) (shows w event)

-- ---- up to a time

all_early : {A : Type 0} (moment : A → ℕ) (at now : ℕ) (xs : List A) → AllByRecursion (λ x. moment x ≡ now) xs → nat_le now at ≡ true → filter (λ x. nat_le (moment x) at) xs ≡ xs
all_early moment at now [] all on = refl
all_early moment at now (x ∷ xs) all on = rw (all.0, on) (ap (λ rest. x ∷ rest) (all_early moment at now xs all.1 on))

none_early : {A : Type 0} (moment : A → ℕ) (at now : ℕ) (xs : List A) → AllByRecursion (λ x. moment x ≡ now) xs → nat_le now at ≡ false → filter (λ x. nat_le (moment x) at) xs ≡ []
none_early moment at now [] all off = refl
none_early moment at now (x ∷ xs) all off = rw (all.0, off) (none_early moment at now xs all.1 off)

-- The values of the events up to a time are those of all values whose time is at or before that
-- time.
pub known_until : {A : Type 0} (shows : World → Event → List A) (moment : A → ℕ) → ShowsAtOnce shows moment → (limits : Limits) (w : World) (events : List Event) (at : ℕ) → AreLegal limits w events → values_from shows w (up_to events at) ≡ filter (λ x. nat_le (moment x) at) (values_from shows w events)
known_until shows moment once limits w [] at legal = refl
known_until shows moment once limits w (event ∷ events) at legal =
    let rest = known_until shows moment once limits (after_event w event) events at legal.1 in
    let split = filter-append (λ x. nat_le (moment x) at) (shows w event) (values_from shows (after_event w event) events) in
    elim (nat_le event.at at) as (λ b. nat_le event.at at ≡ b → values_from shows w (cond b (event ∷ up_to events at) (up_to events at)) ≡ filter (λ x. nat_le (moment x) at) (values_from shows w (event ∷ events))) [
      | true ↦ λ on. sym (split ∙ rw (all_early moment at event.at (shows w event) (once w event) on, rest) refl)
      | false ↦ λ off.
          let none = none_later limits (after_event w event) events at legal.1 (past_it at event.at off) in
          let no_more : filter (λ x. nat_le (moment x) at) (values_from shows (after_event w event) events) ≡ [] = sym rest ∙ ap (values_from shows (after_event w event)) none in
          ap (values_from shows w) none ∙ sym (split ∙ rw (none_early moment at event.at (shows w event) (once w event) off, no_more) refl)
    ] refl

-- ---- in order

-- Appending values of one time to values of earlier times preserves the order of time.
in_order_after : {A : Type 0} (moment : A → ℕ) (now : ℕ) (xs ys : List A) → IsNonDecreasingBy moment xs → All (λ x. moment x ≤ now) xs → AllByRecursion (λ x. moment x ≡ now) ys → IsNonDecreasingBy moment (xs ++ ys)
in_order_after moment now xs [] order early all = subst (IsNonDecreasingBy moment) (sym (append-nil xs)) order
in_order_after moment now xs (y ∷ ys) order early all =
    let here : moment y ≤ now = omega (arith, all.0) in
    let prefix = IsNonDecreasingBy-push moment xs y order (λ d some. let last = early (length xs - 1) d (omega (arith, some)) in omega (arith, last, all.0)) in
    subst (IsNonDecreasingBy moment) (append_assoc xs (y ∷ []) ys) (in_order_after moment now (xs ++ y ∷ []) ys prefix (All-push (λ x. moment x ≤ now) xs y early here) all.1)

at_most : {A : Type 0} (moment : A → ℕ) (now : ℕ) (x : A) → moment x ≡ now → moment x ≤ now
at_most moment now x same = omega (arith, same)

later : {A : Type 0} (moment : A → ℕ) (last now : ℕ) → last ≤ now → (x : A) → moment x ≤ last → moment x ≤ now
later moment last now low x early = omega (arith, low, early)

-- The values are in order of time, and none is after time `last`.
pub record IsKnownInOrder {A : Type 0} (moment : A → ℕ) (last : ℕ) (known : List A) : Type 0 where
  pub order : IsNonDecreasingBy moment known
  pub early : All (λ x. moment x ≤ last) known

pub known_in_order : {A : Type 0} (shows : World → Event → List A) (moment : A → ℕ) → ShowsAtOnce shows moment → (limits : Limits) (events : List Event) → AreLegal limits first_world events → IsKnownInOrder moment (after events).last (values_from shows first_world events)
known_in_order shows moment once limits events legal = by_legal limits (λ es. IsKnownInOrder moment (after es).last (values_from shows first_world es))
    (record { order = IsNonDecreasingBy-short moment [] (omega arith); early = λ k d low. absurd (omega (arith, low)) })
    (λ es event turn before.
    let low = after_others limits es event turn in
    let now = last-push es event in
    let new = once (after es) event in
    let old = All-weaker (λ x. moment x ≤ (after es).last) (λ x. moment x ≤ event.at) (later moment (after es).last event.at low) (values_from shows first_world es) before.early in
    let here = All-weaker (λ x. moment x ≡ event.at) (λ x. moment x ≤ event.at) (at_most moment event.at) (shows (after es) event) (All-from_recursion (λ x. moment x ≡ event.at) (shows (after es) event) new) in
    rw (known-push shows first_world es event, now) (record {
      order = in_order_after moment event.at (values_from shows first_world es) (shows (after es) event) before.order old new;
      early = All-append (λ x. moment x ≤ event.at) (values_from shows first_world es) (shows (after es) event) old here;
    }))
    events legal
