-- How stall time grows from one time to the next.
use Rattle.std.proofs.Common.{◌≡◌, ℕ, ◌+◌, ◌-◌, ◌≤◌, List, [], ◌∷◌, ◌++◌, ap, subst, arith, Bool, true, false, ⊎_elim}
use Rattle.std.specs.Prelude.{if◌then◌else◌}
use Rattle.psi_base.specs.declared.event.State.{State}
use Rattle.psi_base.specs.declared.event.Event.{Event}
use Rattle.psi_spec.specs.World.{Limits, after, first_world, up_to}
use Rattle.psi_spec.specs.Refusal.{AreLegal}
use Rattle.psi_spec.specs.Stall.{holds, stall}
use Rattle.psi_spec.proofs.StallLaws.{by_event, with_time}
use Rattle.plan_laws.specs.Moments.{StallGrows, StallIsWithin, NoStallAtFirst}
use Rattle.plan_laws.proofs.PlanStalls.{no_time}
use Rattle.plan_laws.proofs.PlanStates.{legal_prefix}
use Rattle.plan_laws.proofs.PlanUpTo.{ends_by, up_to_prefix}
use Rattle.plan_laws.proofs.MomentsEvents.{by_legal, last-push, up_to_all, after_others, come_or_not}

-- ---- the time that is added

-- A time that is counted only under a condition is at most the time.
at_most_all : (b : Bool) (n : ℕ) → (if b then n else 0) ≤ n
at_most_all true n = omega arith
at_most_all false n = omega arith

-- A time grew from `before` to `now` by at most `room`.
record Grew (before now room : ℕ) : Type 0 where
  least : before ≤ now
  most : now ≤ before + room

grew_by : (b : Bool) (before now room : ℕ) → now ≡ before + (if b then room else 0) → Grew before now room
grew_by b before now room is = let part = at_most_all b room in record { least = omega (arith, is); most = omega (arith, is, part) }

-- ---- from one time to a later one

-- The stall time grows by at most the time between two times.
abbrev Grows : State → ℕ → ℕ → List Event → Type 0
Grows state cpu slot events = (at later : ℕ) → at ≤ later → Grew (stall state cpu slot (up_to events at) at) (stall state cpu slot (up_to events later) later) (later - at)

grows-none : (state : State) (cpu slot : ℕ) → Grows state cpu slot []
grows-none state cpu slot at later from = let none = no_time state cpu slot at in let still = no_time state cpu slot later in record { least = omega (arith, none, still); most = omega (arith, still) }

-- An event between two times preserves the bound on the growth of stall time.
grows_between : (limits : Limits) (state : State) (cpu slot : ℕ) (events : List Event) (event : Event) (at later : ℕ) → up_to events event.at ≡ events → Grows state cpu slot events → at ≤ event.at → event.at ≤ later
    → Grew (stall state cpu slot (up_to events at) at) (stall state cpu slot (events ++ event ∷ []) later) (later - at)
grows_between limits state cpu slot events event at later all before low high =
    let first = before at event.at low in
    let same : stall state cpu slot (up_to events event.at) event.at ≡ stall state cpu slot events event.at = ap (λ es. stall state cpu slot es event.at) all in
    let last = grew_by (holds state cpu slot (after (events ++ event ∷ []))) _ _ _ (by_event state cpu slot events event later) in
    record { least = omega (arith, first.least, same, last.least); most = omega (arith, first.most, same, last.most, low, high) }

grows-push : (limits : Limits) (state : State) (cpu slot : ℕ) (events : List Event) (event : Event) → AreLegal limits first_world (events ++ event ∷ []) → Grows state cpu slot events → Grows state cpu slot (events ++ event ∷ [])
grows-push limits state cpu slot events event legal before at later from =
    ⊎_elim
    (λ come.
    let still : up_to (events ++ event ∷ []) later ≡ events ++ event ∷ [] = up_to_all limits (events ++ event ∷ []) legal later (omega (arith, come.early, from, last-push events event)) in
    rw (come.all, still) (grew_by (holds state cpu slot (after (events ++ event ∷ []))) _ _ _ (with_time state cpu slot events event at later come.early from)))
    (λ not.
    ⊎_elim
    (λ come.
    let others = up_to_all limits events (legal_prefix limits first_world events (event ∷ []) legal) event.at (after_others limits events event legal) in
    rw (not.others, come.all) (grows_between limits state cpu slot events event at later others before (omega (arith, not.late)) come.early))
    (λ still. rw (not.others, still.others) (before at later from))
    (come_or_not limits events event legal later))
    (come_or_not limits events event legal at)

pub stall_grows : StallGrows
stall_grows limits events legal state cpu slot at later from =
    let grew = by_legal limits (Grows state cpu slot) (grows-none state cpu slot) (grows-push limits state cpu slot) events legal at later from in
    (grew.least, grew.most)

-- ---- from time 0 on

-- The stall time of all events up to a time is at most that time.
all_within : (limits : Limits) (state : State) (cpu slot : ℕ) (events : List Event) → AreLegal limits first_world events → (at : ℕ) → (after events).last ≤ at → stall state cpu slot events at ≤ at
all_within limits state cpu slot events legal = by_legal limits (λ es. (at : ℕ) → (after es).last ≤ at → stall state cpu slot es at ≤ at)
    (λ at low. omega (arith, no_time state cpu slot at))
    (λ es event turn before at low.
    let to_event = before event.at (after_others limits es event turn) in
    let last = grew_by (holds state cpu slot (after (es ++ event ∷ []))) _ _ _ (by_event state cpu slot es event at) in
    omega (arith, to_event, last.most, low, last-push es event))
    events legal

pub stall_is_within : StallIsWithin
stall_is_within limits events legal state cpu slot at =
    let parts = up_to_prefix limits first_world events at legal in
    let prefix = legal_prefix limits first_world (up_to events at) parts.0 (subst (AreLegal limits first_world) parts.1 legal) in
    all_within limits state cpu slot (up_to events at) prefix at (ends_by first_world events at (omega arith))

pub no_stall_at_first : NoStallAtFirst
no_stall_at_first limits events legal state cpu slot = omega (arith, stall_is_within limits events legal state cpu slot 0)
