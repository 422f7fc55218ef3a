-- Planned time is stall time, and the times of a plan's changes are in order.
use Rattle.std.proofs.Common.{◌≡◌, ℕ, zero, suc, ◌+◌, ◌-◌, ◌≤◌, ◌<◌, List, [], ◌∷◌, ◌++◌, length, map, take, drop, refl, sym, ap, ◌∙◌, arith, subst, Bool, true, false, nat_lt, Option, None, ◌⊎◌, ⊎_elim}
use Rattle.std.specs.Prelude.{filter, slice_index_or, if◌then◌else◌, sum}
use Rattle.std.proofs.lemmas.Bool.Decides.{nat_tests}
use Rattle.std.proofs.lemmas.List.{append-nil, length-append, length-map, map-append, length-take-le, take_all, take-append-le, take-append-drop}
use Rattle.std.proofs.Math.Seq.{get_or-append_seam}
use Rattle.psi_base.specs.declared.event.State.{State}
use Rattle.psi_base.specs.declared.event.State.TheVariants.{IoSome, IoFull, MemSome, MemFull, CpuSome, CpuFull, Nonidle}
use Rattle.psi_base.specs.declared.event.Event.{Event}
use Rattle.psi_base.specs.declared.event.Cause.TheVariants as cause
use Rattle.psi_spec.specs.declared.machine.Task.{Task}
use Rattle.psi_counts.specs.declared.changes.Change.{Change}
use Rattle.psi_spec.specs.World.{World, Limits, after, after_event, after_from, first_world, is_on, root}
use Rattle.psi_spec.specs.Refusal.{cause_of, applies, cause_order, AreLegal}
use Rattle.psi_spec.specs.Stall.{holds, holds_of, is_in, parents_of, stall}
use Rattle.psi_counts.specs.Legal.{changes_from}
use Rattle.plan_laws.specs.Plan.{AreInOrder, PlanView, holds_after, last_change, plan_of, planned_after, planned_time, PlannedIsStall, StallByOwnChanges}
use Rattle.psi_spec.specs.Changes.{changes_of, event_of_change, until_change}
use Rattle.psi_spec.proofs.Following.{after_from-append}
use Rattle.plan_laws.proofs.PlanLaws.{after-push, as_many, by_last, changes_same, changes_grow, get-prefix, touched_or_not, until_is}
use Rattle.plan_laws.proofs.PlanStates.{Prolongs, holds_by_prefix, legal_prefix, legal_last, prolongs_back, known_by, known_by_changes, until_legal, until_prolongs}
use Rattle.plan_laws.proofs.PlanTimes.{last_change-next, moments, planned_by_change}
use Rattle.psi_spec.proofs.StallLaws.{by_event, with_time, map_same}
use Rattle.psi_spec.proofs.TaskLaws.{no_entries}
use Rattle.psi_spec.proofs.GroupLaws.{and_false}
use Rattle.psi_spec.proofs.RefusalLaws.{passed}

-- ---- times of legal events

not_before : (last at : ℕ) → nat_lt at last ≡ false → last ≤ at
not_before last at off = grind (arith, nat_tests)

-- a legal event isn't before the last event
pub in_turn : (limits : Limits) (w : World) (event : Event) → cause_of limits w event ≡ None → w.last ≤ event.at
unfolding cause_of
in_turn limits w event legal = not_before w.last event.at (passed (λ why. applies why limits w event) cause_order 1 cause.TimeBack legal refl)

last_rises : (limits : Limits) (w : World) (events : List Event) → AreLegal limits w events → w.last ≤ (after_from w events).last
last_rises limits w [] legal = omega arith
last_rises limits w (event ∷ events) legal = omega (arith, in_turn limits w event legal.0, last_rises limits (after_event w event) events legal.1)

legal_rest : (limits : Limits) (w : World) (prefix rest : List Event) → AreLegal limits w (prefix ++ rest) → AreLegal limits (after_from w prefix) rest
legal_rest limits w [] rest legal = legal
legal_rest limits w (event ∷ prefix) rest legal = legal_rest limits (after_event w event) prefix rest legal.1

-- The events up to a change end no later than all events.
pub until_earlier : (limits : Limits) (cpu : ℕ) (events : List Event) (k : ℕ) → AreLegal limits first_world events → (after (until_change cpu events k)).last ≤ (after events).last
until_earlier limits cpu events k legal =
    let prefix : List Event = until_change cpu events k in
    let rest : List Event = drop (event_of_change cpu events k) events in
    let parts : prefix ++ rest ≡ events = take-append-drop (event_of_change cpu events k) events in
    let whole : after events ≡ after_from (after prefix) rest = ap after (sym parts) ∙ after_from-append first_world prefix rest in
    let rises = last_rises limits (after prefix) rest (legal_rest limits first_world prefix rest (rw parts legal)) in
    omega (arith, rises, ap (λ (w : World). w.last) whole)

-- ---- stall time from the last event on

no_state : (state : State) → holds_of state [] ≡ false
no_state IoSome = refl
no_state IoFull = refl
no_state MemSome = refl
no_state MemFull = refl
no_state CpuSome = refl
no_state CpuFull = refl
no_state Nonidle = refl

-- No group is in a state before the first event.
pub first_holds_nothing : (state : State) (cpu slot : ℕ) → holds state cpu slot first_world ≡ false
unfolding holds
first_holds_nothing state cpu slot =
    and_false (is_on (root ∷ []) slot) _ (ap (λ es. holds_of state (filter (is_in (parents_of (root ∷ [])) cpu slot) (map (λ (e : ℕ × Task). e.1) es))) no_entries ∙ no_state state)

-- The stall time without events is 0.
pub no_time : (state : State) (cpu slot at : ℕ) → stall state cpu slot [] at ≡ 0
unfolding stall
no_time state cpu slot at = refl

-- After the last event, stall time grows with time if the group is in the state then.
abbrev pub GrowsLater : State → ℕ → ℕ → List Event → Type 0
GrowsLater state cpu slot events = (later : ℕ) → (after events).last ≤ later →
    stall state cpu slot events later ≡ stall state cpu slot events (after events).last + (if holds state cpu slot (after events) then later - (after events).last else 0)

later-none : (state : State) (cpu slot : ℕ) → GrowsLater state cpu slot []
later-none state cpu slot later from = rw (no_time state cpu slot later, no_time state cpu slot 0, first_holds_nothing state cpu slot) refl

later-push : (state : State) (cpu slot : ℕ) (events : List Event) (event : Event) → GrowsLater state cpu slot (events ++ event ∷ [])
later-push state cpu slot events event later from =
    let last : (after (events ++ event ∷ [])).last ≡ event.at = ap (λ (w : World). w.last) (after-push events event) in
    let grown = with_time state cpu slot events event event.at later (omega arith) (omega (arith, last, from)) in
    rw last grown

pub stall_later : (state : State) (cpu slot : ℕ) (events : List Event) → GrowsLater state cpu slot events
stall_later state cpu slot events = by_last (GrowsLater state cpu slot) (later-none state cpu slot) (λ es e _. later-push state cpu slot es e) events

joined : (held : Bool) (time last moment at : ℕ) → last ≤ moment → moment ≤ at → (time + (if held then moment - last else 0)) + (if held then at - moment else 0) ≡ time + (if held then at - last else 0)
joined true time last moment at later from = omega arith
joined false time last moment at later from = omega arith

-- An event that leaves a state unchanged doesn't change the stall time at later times.
pub stall_goes_on : (state : State) (cpu slot : ℕ) (events : List Event) (event : Event) (at : ℕ) → (after events).last ≤ event.at → event.at ≤ at → holds state cpu slot (after (events ++ event ∷ [])) ≡ holds state cpu slot (after events) →
    stall state cpu slot (events ++ event ∷ []) at ≡ stall state cpu slot events at
stall_goes_on state cpu slot events event at later from same =
    let to_event = stall_later state cpu slot events event.at later in
    let to_end = stall_later state cpu slot events at (omega (arith, later, from)) in
    by_event state cpu slot events event at ∙ rw (same, to_event, to_end) (joined (holds state cpu slot (after events)) _ _ _ at later from)

-- ---- planned time by the first changes alone

abbrev pub plan_with : List Change → List (Option ℕ) → PlanView
plan_with changes parents = record { changes = changes; parents = parents }

taken_twice : (changes : List Change) (k j : ℕ) → j ≤ k → take j (take k changes) ≡ take j changes
taken_twice [] zero zero low = refl
taken_twice [] (suc k) zero low = refl
taken_twice [] zero (suc j) low = refl
taken_twice [] (suc k) (suc j) low = refl
taken_twice (change ∷ changes) zero zero low = refl
taken_twice (change ∷ changes) (suc k) zero low = refl
taken_twice (change ∷ changes) zero (suc j) low = absurd (omega (arith, low))
taken_twice (change ∷ changes) (suc k) (suc j) low = ap (λ cs. change ∷ cs) (taken_twice changes k j (omega (arith, low)))

prefix_after : (state : State) (parents : List (Option ℕ)) (changes : List Change) (slot k at j : ℕ) → k ≤ length changes → j ≤ k → planned_after state (plan_with changes parents) slot k at j ≡ planned_after state (plan_with (take k changes) parents) slot k at j
prefix_after state parents changes slot k at j room low =
    let len : length (take k changes) ≡ k = length-take-le k changes room in
    let held : holds_after state (plan_with changes parents) slot j ≡ holds_after state (plan_with (take k changes) parents) slot j =
    holds_by_prefix state parents changes slot j (omega (arith, room, low)) ∙ ap (known_by state parents slot) (sym (taken_twice changes k j low)) ∙ sym (holds_by_prefix state parents (take k changes) slot j (omega (arith, len, low))) in
    let all : take k (take k changes) ≡ take k changes = taken_twice changes k k (omega arith) in
    rw (held, all) refl

-- planned time doesn't depend on changes after the first k
pub planned_prefix : (state : State) (parents : List (Option ℕ)) (changes : List Change) (slot k at : ℕ) → k ≤ length changes → planned_time state (plan_with changes parents) slot k at ≡ planned_time state (plan_with (take k changes) parents) slot k at
unfolding planned_time
planned_prefix state parents changes slot k at room =
    ap sum (map_same (planned_after state (plan_with changes parents) slot k at) (planned_after state (plan_with (take k changes) parents) slot k at) 1 k (λ j low high. prefix_after state parents changes slot k at j room (omega (arith, high))))

-- ---- planned time is stall time

-- The planned time of all changes of some events is the stall time of these events.
abbrev ShowsStall : Limits → State → ℕ → ℕ → List Event → Type 0
ShowsStall limits state cpu slot events = AreLegal limits first_world events → (parents : List (Option ℕ)) → Prolongs (parents_of (after events).groups) parents → (at : ℕ) → (after events).last ≤ at →
    planned_time state (plan_with (changes_from cpu first_world events) parents) slot (length (changes_from cpu first_world events)) at ≡ stall state cpu slot events at

shows-none : (limits : Limits) (state : State) (cpu slot : ℕ) → ShowsStall limits state cpu slot []
unfolding planned_time stall
shows-none limits state cpu slot legal parents more at from = refl

-- A list that extends the parents after one more event also extends the parents before it.
pub fewer_before : (events : List Event) (event : Event) (parents : List (Option ℕ)) → Prolongs (parents_of (after (events ++ event ∷ [])).groups) parents → Prolongs (parents_of (after events).groups) parents
fewer_before events event parents more = prolongs_back (after events) event parents (subst (λ (w : World). Prolongs (parents_of w.groups) parents) (after-push events event) more)

-- An event that adds no change leaves the states of each group unchanged.
pub held_on : (limits : Limits) (events : List Event) (event : Event) → AreLegal limits first_world (events ++ event ∷ []) → (parents : List (Option ℕ)) → Prolongs (parents_of (after (events ++ event ∷ [])).groups) parents → (state : State) (cpu slot : ℕ)
    → changes_from cpu first_world (events ++ event ∷ []) ≡ changes_from cpu first_world events → holds state cpu slot (after (events ++ event ∷ [])) ≡ holds state cpu slot (after events)
held_on limits events event legal parents more state cpu slot same =
    sym (known_by_changes limits (events ++ event ∷ []) legal parents more state cpu slot)
    ∙ ap (known_by state parents slot) same
    ∙ known_by_changes limits events (legal_prefix limits first_world events (event ∷ []) legal) parents (fewer_before events event parents more) state cpu slot

-- An event that doesn't touch the processor preserves `ShowsStall`.
shows-untouched : (limits : Limits) (state : State) (cpu slot : ℕ) (events : List Event) (event : Event) → changes_from cpu first_world (events ++ event ∷ []) ≡ changes_from cpu first_world events → ShowsStall limits state cpu slot events → ShowsStall limits state cpu slot (events ++ event ∷ [])
shows-untouched limits state cpu slot events event same before legal parents more at from =
    let first = legal_prefix limits first_world events (event ∷ []) legal in
    let turn = in_turn limits (after events) event (legal_last limits first_world events event legal) in
    let last : (after (events ++ event ∷ [])).last ≡ event.at = ap (λ (w : World). w.last) (after-push events event) in
    let fewer = fewer_before events event parents more in
    let held = held_on limits events event legal parents more state cpu slot same in
    ap (λ cs. planned_time state (plan_with cs parents) slot (length cs) at) same
    ∙ before first parents fewer at (omega (arith, turn, last, from))
    ∙ sym (stall_goes_on state cpu slot events event at turn (omega (arith, last, from)) held)

last_of_push : (changes : List Change) (change : Change) (parents : List (Option ℕ)) → last_change (plan_with (changes ++ change ∷ []) parents) (length changes + 1) ≡ change.at
last_of_push changes change parents =
    let place : length changes ≡ length (moments changes) = sym (length-map changes (λ (c : Change). c.at)) in
    last_change-next (plan_with (changes ++ change ∷ []) parents) (length changes)
    ∙ ap (λ is. slice_index_or is (length changes) 0) (map-append (λ (c : Change). c.at) changes (change ∷ []))
    ∙ ap (λ n. slice_index_or (moments changes ++ change.at ∷ []) n 0) place
    ∙ get_or-append_seam (moments changes) change.at [] 0

-- An event that touches the processor preserves `ShowsStall`.
shows-touched : (limits : Limits) (state : State) (cpu slot : ℕ) (events : List Event) (event : Event) (change : Change) → change.at ≡ event.at → changes_from cpu first_world (events ++ event ∷ []) ≡ changes_from cpu first_world events ++ change ∷ [] → ShowsStall limits state cpu slot events → ShowsStall limits state cpu slot (events ++ event ∷ [])
shows-touched limits state cpu slot events event change moment grown before legal parents more at from =
    let first = legal_prefix limits first_world events (event ∷ []) legal in
    let turn = in_turn limits (after events) event (legal_last limits first_world events event legal) in
    let fewer = fewer_before events event parents more in
    let old : List Change = changes_from cpu first_world events in
    let new : List Change = old ++ change ∷ [] in
    let n : ℕ = length old in
    let len : length new ≡ n + 1 = length-append old (change ∷ []) in
    let last : last_change (plan_with new parents) (n + 1) ≡ event.at = last_of_push old change parents ∙ moment in
    let prefix : take n new ≡ old = take-append-le n old (change ∷ []) (omega arith) ∙ take_all n old (omega arith) in
    let up_to : planned_time state (plan_with new parents) slot n event.at ≡ stall state cpu slot events event.at =
    planned_prefix state parents new slot n event.at (omega (arith, len)) ∙ ap (λ cs. planned_time state (plan_with cs parents) slot n event.at) prefix ∙ before first parents fewer event.at turn in
    let held : holds_after state (plan_with new parents) slot (n + 1) ≡ holds state cpu slot (after (events ++ event ∷ [])) =
    holds_by_prefix state parents new slot (n + 1) (omega (arith, len)) ∙ ap (known_by state parents slot) (take_all (n + 1) new (omega (arith, len)) ∙ sym grown) ∙ known_by_changes limits (events ++ event ∷ []) legal parents more state cpu slot in
    let step = planned_by_change state (plan_with new parents) slot n at (omega (arith, len)) in
    let steps : planned_time state (plan_with new parents) slot (n + 1) at ≡ stall state cpu slot events event.at + (if holds state cpu slot (after (events ++ event ∷ [])) then at - event.at else 0) = step ∙ rw (last, up_to, held) refl in
    ap (λ cs. planned_time state (plan_with cs parents) slot (length cs) at) grown
    ∙ ap (λ k. planned_time state (plan_with new parents) slot k at) len
    ∙ steps
    ∙ sym (by_event state cpu slot events event at)

shows-push : (limits : Limits) (state : State) (cpu slot : ℕ) (events : List Event) (event : Event) → ShowsStall limits state cpu slot events → ShowsStall limits state cpu slot (events ++ event ∷ [])
shows-push limits state cpu slot events event before =
    ⊎_elim
    (λ off. shows-untouched limits state cpu slot events event (changes_same cpu events event off) before)
    (λ on. shows-touched limits state cpu slot events event on.change on.moment (changes_grow cpu events event on) before)
    (touched_or_not (after events) event cpu)

shows_stall : (limits : Limits) (state : State) (cpu slot : ℕ) (events : List Event) → ShowsStall limits state cpu slot events
shows_stall limits state cpu slot events = by_last (ShowsStall limits state cpu slot) (shows-none limits state cpu slot) (shows-push limits state cpu slot) events

pub planned_is_stall : PlannedIsStall
planned_is_stall limits events legal state cpu slot k at low from =
    let changes : List Change = changes_from cpu first_world events in
    let parents : List (Option ℕ) = parents_of (after events).groups in
    let room : k ≤ length changes = omega (arith, low, as_many cpu events) in
    let until = until_is cpu events k low in
    let len : length (changes_from cpu first_world (until_change cpu events k)) ≡ k = ap length until.changes ∙ length-take-le k changes room in
    planned_prefix state parents changes slot k at room
    ∙ ap (λ cs. planned_time state (plan_with cs parents) slot k at) (sym until.changes)
    ∙ ap (λ n. planned_time state (plan_with (changes_from cpu first_world (until_change cpu events k)) parents) slot n at) (sym len)
    ∙ shows_stall limits state cpu slot (until_change cpu events k) (until_legal limits cpu events k legal) parents (until_prolongs cpu events k) at (omega (arith, until.last, from))

pub stall_by_own_changes : StallByOwnChanges
stall_by_own_changes limits events legal state cpu slot at from =
    let parents : List (Option ℕ) = parents_of (after events).groups in
    let n : ℕ = length (changes_of cpu events) in
    let until = until_is cpu events n (omega arith) in
    let earlier = until_earlier limits cpu events n legal in
    sym (shows_stall limits state cpu slot events legal parents ([], sym (append-nil parents)) at from)
    ∙ ap (λ k. planned_time state (plan_of cpu events) slot k at) (as_many cpu events)
    ∙ planned_is_stall limits events legal state cpu slot n at (omega arith) (omega (arith, until.last, earlier, from))

-- ---- times of a plan

abbrev pub moment_at : List Change → ℕ → ℕ
moment_at changes k = slice_index_or (0 ∷ moments changes) k 0

-- The times of the changes are in order, and none is after time `last`.
pub record EndsInOrder (changes : List Change) (last : ℕ) : Type 0 where
  pub order : (k : ℕ) → k < length changes → moment_at changes k ≤ moment_at changes (k + 1)
  pub end : moment_at changes (length changes) ≤ last

order-none : EndsInOrder [] 0
order-none = record { order = λ k low. absurd (omega (arith, low)); end = omega arith }

order-push : (changes : List Change) (change : Change) (last : ℕ) → last ≤ change.at → EndsInOrder changes last → EndsInOrder (changes ++ change ∷ []) change.at
order-push changes change last later is =
    let new : List Change = changes ++ change ∷ [] in
    let len : length new ≡ length changes + 1 = length-append changes (change ∷ []) in
    let prefix : (k : ℕ) → k ≤ length changes → moment_at new k ≡ moment_at changes k = λ k low.
    ap (λ is. slice_index_or (0 ∷ is) k 0) (map-append (λ (c : Change). c.at) changes (change ∷ [])) ∙ get-prefix (moments changes) (change.at ∷ []) k (omega (arith, low, length-map changes (λ (c : Change). c.at))) in
    let end : moment_at new (length changes + 1) ≡ change.at = last_of_push changes change [] in
    record {
      order = λ k low.
          let case : (k < length changes) ⊎ (k ≡ length changes) = grind (arith, low, len) in
          ⊎_elim
          (λ before. omega (arith, prefix k (omega (arith, before)), prefix (k + 1) (omega (arith, before)), is.order k before))
          (λ same. rw same (omega (arith, prefix (length changes) (omega arith), end, is.end, later)))
          case;
      end = rw (len, end) (omega arith);
    }

pub in_order : (limits : Limits) (cpu : ℕ) (events : List Event) → AreLegal limits first_world events → EndsInOrder (changes_from cpu first_world events) (after events).last
in_order limits cpu events =
    by_last (λ es. AreLegal limits first_world es → EndsInOrder (changes_from cpu first_world es) (after es).last) (λ _. order-none) step events
  where
    step : (es : List Event) (event : Event) → (AreLegal limits first_world es → EndsInOrder (changes_from cpu first_world es) (after es).last) → AreLegal limits first_world (es ++ event ∷ []) → EndsInOrder (changes_from cpu first_world (es ++ event ∷ [])) (after (es ++ event ∷ [])).last
    step es event before legal =
        let is = before (legal_prefix limits first_world es (event ∷ []) legal) in
        let turn = in_turn limits (after es) event (legal_last limits first_world es event legal) in
        let last : (after (es ++ event ∷ [])).last ≡ event.at = ap (λ (w : World). w.last) (after-push es event) in
        ⊎_elim
        (λ off.
        let same : changes_from cpu first_world (es ++ event ∷ []) ≡ changes_from cpu first_world es = changes_same cpu es event off in
        let end : moment_at (changes_from cpu first_world es) (length (changes_from cpu first_world es)) ≤ event.at = omega (arith, is.end, turn) in
        rw (same, last) (record { order = is.order; end = end }))
        (λ on.
        let more : changes_from cpu first_world (es ++ event ∷ []) ≡ changes_from cpu first_world es ++ on.change ∷ [] = changes_grow cpu es event on in
        rw (more, last, ← on.moment) (order-push (changes_from cpu first_world es) on.change (after es).last (omega (arith, turn, on.moment)) is))
        (touched_or_not (after es) event cpu)

pub plan_is_in_order : (limits : Limits) (events : List Event) → AreLegal limits first_world events → (cpu : ℕ) → AreInOrder (plan_of cpu events)
plan_is_in_order limits events legal cpu k low = (in_order limits cpu events legal).order k low
