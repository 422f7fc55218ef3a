-- The events of a trace up to a time, in order of time.
use Rattle.std.proofs.Common.{◌≡◌, ℕ, ◌≤◌, ◌<◌, List, [], ◌∷◌, ◌++◌, refl, ap, ◌∙◌, arith, true, false, cond, ◌⊎◌, inl, inr}
use Rattle.std.specs.Prelude.{nat_le}
use Rattle.std.proofs.lemmas.Bool.Decides.{nat_tests}
use Rattle.std.proofs.lemmas.List.{append-nil}
use Rattle.std.proofs.lemmas.List.Elements.{filter-append}
use Rattle.psi_base.specs.declared.event.Event.{Event}
use Rattle.psi_spec.specs.World.{World, Limits, after, first_world, up_to}
use Rattle.psi_spec.specs.Refusal.{AreLegal}
use Rattle.plan_laws.proofs.PlanLaws.{after-push, by_last}
use Rattle.plan_laws.proofs.PlanStates.{legal_prefix, legal_last}
use Rattle.plan_laws.proofs.PlanStalls.{in_turn}

-- ---- legal events, one by one

-- induction over legal events: from no events, and from legal events to one more legal event
pub by_legal : (limits : Limits) (P : List Event → Type 0) → P [] → ((es : List Event) (event : Event) → AreLegal limits first_world (es ++ event ∷ []) → P es → P (es ++ event ∷ [])) → (events : List Event) → AreLegal limits first_world events → P events
by_legal limits P none step events =
    by_last (λ es. AreLegal limits first_world es → P es) (λ _. none) (λ es event before legal. step es event legal (before (legal_prefix limits first_world es (event ∷ []) legal))) events

-- The last time of a world is the time of the last event.
pub last-push : (events : List Event) (event : Event) → (after (events ++ event ∷ [])).last ≡ event.at
last-push events event = ap (λ (w : World). w.last) (after-push events event)

-- The last of legal events isn't before the events that precede it.
pub after_others : (limits : Limits) (events : List Event) (event : Event) → AreLegal limits first_world (events ++ event ∷ []) → (after events).last ≤ event.at
after_others limits events event legal = in_turn limits (after events) event (legal_last limits first_world events event legal)

-- ---- the events up to a time

has_come : (at moment : ℕ) → nat_le moment at ≡ true → moment ≤ at
has_come at moment on = grind (arith, nat_tests)

is_to_come : (at moment : ℕ) → nat_le moment at ≡ false → at < moment
is_to_come at moment off = grind (arith, nat_tests)

come : (at moment : ℕ) → moment ≤ at → nat_le moment at ≡ true
come at moment low = grind (arith, nat_tests)

-- Appending an event appends it to the events up to a time if the event is at or before that time.
up_to-push : (events : List Event) (event : Event) (at : ℕ) → up_to (events ++ event ∷ []) at ≡ up_to events at ++ cond (nat_le event.at at) (event ∷ []) []
up_to-push events event at = filter-append (λ (e : Event). nat_le e.at at) events (event ∷ [])

-- If no event is after a time, the events up to that time are all events.
pub up_to_all : (limits : Limits) (events : List Event) → AreLegal limits first_world events → (at : ℕ) → (after events).last ≤ at → up_to events at ≡ events
up_to_all limits events legal = by_legal limits (λ es. (at : ℕ) → (after es).last ≤ at → up_to es at ≡ es) (λ at low. refl)
    (λ es event turn before at low.
    let here : event.at ≤ at = omega (arith, low, last-push es event) in
    let others = before at (omega (arith, after_others limits es event turn, here)) in
    up_to-push es event at ∙ rw (come at event.at here, others) refl)
    events legal

-- The appended event is at or before time `at`, and the events up to `at` are all events.
pub record HaveAllCome (events : List Event) (event : Event) (at : ℕ) : Type 0 where
  pub early : event.at ≤ at
  pub all : up_to (events ++ event ∷ []) at ≡ events ++ event ∷ []

pub record IsToCome (events : List Event) (event : Event) (at : ℕ) : Type 0 where
  pub late : at < event.at
  pub others : up_to (events ++ event ∷ []) at ≡ up_to events at

pub come_or_not : (limits : Limits) (events : List Event) (event : Event) → AreLegal limits first_world (events ++ event ∷ []) → (at : ℕ) → HaveAllCome events event at ⊎ IsToCome events event at
come_or_not limits events event legal at =
    elim (nat_le event.at at) as (λ b. nat_le event.at at ≡ b → HaveAllCome events event at ⊎ IsToCome events event at) [
      | true ↦ λ on.
          let early = has_come at event.at on in
          inl (record { early = early; all = up_to_all limits (events ++ event ∷ []) legal at (omega (arith, early, last-push events event)) })
      | false ↦ λ off. inr (record { late = is_to_come at event.at off; others = up_to-push events event at ∙ rw off (append-nil (up_to events at)) })
    ] refl
