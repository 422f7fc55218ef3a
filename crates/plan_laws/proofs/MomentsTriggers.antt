-- The triggers of a trace, and the groups on which they were set.
use Rattle.std.proofs.Common.{◌≡◌, ℕ, ◌+◌, ◌≤◌, ◌<◌, List, [], ◌∷◌, ◌++◌, refl, sym, ap, ◌∙◌, subst, arith, Bool, true, false, Option, None, Some, length, nat_lt}
use Rattle.std.specs.Prelude.{not, is_some, slice_index_or, unwrap_or, All, IfSome, if◌then◌else◌}
use Rattle.std.specs.List.{AllByRecursion}
use Rattle.std.specs.Str.{bytes_eq}
use Rattle.std.proofs.lemmas.Bool.Decides.{nat_tests}
use Rattle.std.proofs.lemmas.List.{length-append, get_or-map, get_or_append_left}
use Rattle.std.proofs.lemmas.List.Elements.{All-append, All-weaker, All-from_recursion}
use Rattle.psi_base.specs.declared.event.Act.{Act}
use Rattle.psi_base.specs.declared.event.Act.TheVariants as act
use Rattle.psi_base.specs.declared.event.Event.{Event}
use Rattle.psi_base.specs.declared.event.TriggerSpec.{TriggerSpec}
use Rattle.psi_base.specs.declared.event.Cause.TheVariants as cause
use Rattle.psi_spec.specs.declared.machine.GroupLife.{GroupLife}
use Rattle.psi_spec.specs.World.{World, Limits, root, is_live, is_trigger, new_group, marked_removed, marked_switched, groups_after, slot_of, after, after_event, first_world}
use Rattle.psi_spec.specs.Refusal.{cause_of, applies, cause_order, is_window, AreLegal}
use Rattle.psi_spec.specs.Collected.{trigger_by, triggers_of}
use Rattle.psi_spec.specs.Within.{IsTriggerWithin}
use Rattle.psi_spec.proofs.GroupLaws.{found_below, found_group}
use Rattle.psi_spec.proofs.RefusalLaws.{first_true, passed}
use Rattle.plan_laws.specs.Moments.{IsThere, TriggersAreWithin, TriggersAreInOrder, TriggersUpTo, TriggersAreOnGroups}
use Rattle.psi_counts.proofs.LegalLaws.{more_groups}
use Rattle.plan_laws.proofs.PlanLaws.{after-push}
use Rattle.plan_laws.proofs.PlanStates.{legal_after, legal_prefix, legal_last}
use Rattle.plan_laws.proofs.MomentsEvents.{by_legal, after_others}
use Rattle.plan_laws.proofs.MomentsLives.{InTurn, switched_is, turn_after, without_is}
use Rattle.plan_laws.proofs.MomentsOrder.{got_there}
use Rattle.plan_laws.proofs.MomentsKnown.{ShowsAtOnce, known-push, known_in_order, known_until}

-- ---- the triggers of an event

-- the triggers that an event sets
abbrev by_event : World → Event → List TriggerSpec
by_event w event = trigger_by event.at w.groups event.act

at_once : (at : ℕ) (groups : List GroupLife) (a : Act) → AllByRecursion (λ (trigger : TriggerSpec). trigger.at ≡ at) (trigger_by at groups a)
at_once at groups (act.Trigger path res level threshold_us window_us) = (refl, tt)
at_once at groups _ = tt

shows_at_once : ShowsAtOnce by_event (λ (trigger : TriggerSpec). trigger.at)
shows_at_once w event = at_once event.at w.groups event.act

pub triggers_are_in_order : TriggersAreInOrder
triggers_are_in_order limits events legal = (known_in_order by_event (λ (trigger : TriggerSpec). trigger.at) shows_at_once limits events legal).order

pub triggers_up_to : TriggersUpTo
triggers_up_to limits events legal at = known_until by_event (λ (trigger : TriggerSpec). trigger.at) shows_at_once limits first_world events at legal

-- ---- a group that is there

stays_there : (at moment : ℕ) → at ≤ moment → (path : List ℕ) (life : GroupLife) → IsThere life at → IsThere (marked_removed path moment life) at
stays_there at moment low path life is = without_is (λ l. IsThere l at) path moment life is (record { made = is.made; gone = low })

-- A group that existed at a time still satisfies `IsThere` for this time after a later act.
still_there : (at moment : ℕ) → at ≤ moment → (groups : List GroupLife) (slot : ℕ) → slot < length groups → IsThere (slice_index_or groups slot root) at → (a : Act) → IsThere (slice_index_or (groups_after moment groups a) slot root) at
still_there at moment low groups slot room is (act.Group path) = subst (λ l. IsThere l at) (sym (get_or_append_left groups (new_group groups path moment ∷ []) root slot room)) is
still_there at moment low groups slot room is (act.Remove path) = subst (λ l. IsThere l at) (sym (get_or-map (marked_removed path moment) groups slot root root room)) (stays_there at moment low path (slice_index_or groups slot root) is)
still_there at moment low groups slot room is (act.Pressure path on) =
    subst (λ l. IsThere l at) (sym (get_or-map (marked_switched path on) groups slot root root room)) (switched_is (λ l. IsThere l at) path on (slice_index_or groups slot root) is (record { made = is.made; gone = is.gone }))
still_there at moment low groups slot room is _ = is

-- A live group has no removal time, so it wasn't removed before any time.
live_gone : (at : ℕ) (o : Option ℕ) → not (is_some o) ≡ true → IfSome o (λ gone. at ≤ gone)
live_gone at None live = tt
live_gone at (Some gone) live = absurd (cc live)

-- ---- one trigger more

-- A trigger is in its range, was set at or before time `last`, and watches a group that existed
-- when it was set.
record IsSet (latest last : ℕ) (groups : List GroupLife) (trigger : TriggerSpec) : Type 0 where
  within : IsTriggerWithin latest (length groups) trigger
  early : trigger.at ≤ last
  there : IsThere (slice_index_or groups trigger.slot.0 root) trigger.at

-- Later acts preserve `IsSet`.
set_later : (latest last at : ℕ) → last ≤ at → (groups : List GroupLife) (a : Act) → length groups ≤ length (groups_after at groups a) → (trigger : TriggerSpec) → IsSet latest last groups trigger → IsSet latest at (groups_after at groups a) trigger
set_later latest last at low groups a more trigger is =
    let slot = is.within.slot in
    let early = is.early in
    record {
      within = record { early = is.within.early; slot = omega (arith, slot, more); window = is.within.window };
      early = omega (arith, early, low);
      there = still_there trigger.at at (omega (arith, early, low)) groups trigger.slot.0 slot is.there a;
    }

-- An optional slot that isn't missing is its value.
the_slot : (o : Option ℕ) → not (is_some o) ≡ false → o ≡ Some (unwrap_or o 0)
the_slot None h = absurd (cc h)
the_slot (Some n) h = refl

in_range : (b : Bool) → not b ≡ false → b ≡ true
in_range true h = refl
in_range false h = cc h

in_time : (latest at : ℕ) → nat_lt latest at ≡ false → at ≤ latest
in_time latest at h = grind (arith, nat_tests)

-- The trigger that a legal act sets satisfies `IsSet`.
set_now : (limits : Limits) (w : World) (at : ℕ) (a : Act) → cause_of limits w (record { at = at; act = a }) ≡ None → w.last ≤ at → InTurn w.last w.groups → AllByRecursion (IsSet limits.latest at (groups_after at w.groups a)) (trigger_by at w.groups a)
unfolding cause_of
set_now limits w at (act.Trigger path res level threshold_us window_us) legal low turn =
    let event : Event = record { at = at; act = act.Trigger path res level threshold_us window_us } in
    let slot : ℕ = unwrap_or (slot_of w.groups path) 0 in
    let life : GroupLife = slice_index_or w.groups slot root in
    let found = the_slot (slot_of w.groups path) (passed (λ why. applies why limits w event) cause_order 8 cause.UnknownGroup legal refl) in
    let below = found_below 0 w.groups path slot found in
    let room : slot < length w.groups = omega (arith, below.1) in
    let it = found_group 0 w.groups path slot slot life found (omega arith) (got_there w.groups slot room) in
    let live : is_live life ≡ true = first_true (is_live life) (bytes_eq life.path path) it in
    let made = (turn.each slot root room).made in (
      record {
        within = record {
          early = in_time limits.latest at (passed (λ why. applies why limits w event) cause_order 2 cause.TimeTooLate legal refl);
          slot = room;
          window = in_range (is_window threshold_us window_us) (passed (λ why. applies why limits w event) cause_order 15 cause.BadWindow legal refl);
        };
        early = omega arith;
        there = record { made = omega (arith, made, low); gone = live_gone at life.gone live };
      },
      tt,
    )
set_now limits w at (act.Group path) legal low turn = tt
set_now limits w at _ legal low turn = tt

-- ---- all triggers

as_many : (at : ℕ) (groups : List GroupLife) (a : Act) → length (trigger_by at groups a) ≡ (if is_trigger a then 1 else 0)
as_many at groups (act.Trigger path res level threshold_us window_us) = omega arith
as_many at groups _ = refl

record AreSet (latest : ℕ) (w : World) (triggers : List TriggerSpec) : Type 0 where
  counted : length triggers ≡ w.triggers
  each : All (IsSet latest w.last w.groups) triggers

sets-push : (limits : Limits) (events : List Event) (event : Event) → AreLegal limits first_world (events ++ event ∷ []) → AreSet limits.latest (after events) (triggers_of events) → AreSet limits.latest (after (events ++ event ∷ [])) (triggers_of (events ++ event ∷ []))
sets-push limits events event legal before =
    let w : World = after events in
    let new : List TriggerSpec = by_event w event in
    let low = after_others limits events event legal in
    let turn = turn_after limits events (legal_prefix limits first_world events (event ∷ []) legal) in
    let now = set_now limits w event.at event.act (legal_last limits first_world events event legal) low turn in
    let old = All-weaker (IsSet limits.latest w.last w.groups) (IsSet limits.latest event.at (groups_after event.at w.groups event.act)) (set_later limits.latest w.last event.at low w.groups event.act (more_groups w event)) (triggers_of events) before.each in
    let len = length-append (triggers_of events) new in
    let counted = before.counted in
    let all : AreSet limits.latest (after_event w event) (triggers_of events ++ new) = record {
      counted = len ∙ ap (λ n. n + length new) counted ∙ ap (λ n. w.triggers + n) (as_many event.at w.groups event.act);
      each = All-append (IsSet limits.latest event.at (groups_after event.at w.groups event.act)) (triggers_of events) new old (All-from_recursion (IsSet limits.latest event.at (groups_after event.at w.groups event.act)) new now);
    } in
    subst (λ (v : World). AreSet limits.latest v (triggers_of (events ++ event ∷ []))) (sym (after-push events event))
    (subst (AreSet limits.latest (after_event w event)) (sym (known-push by_event first_world events event)) all)

all_set : (limits : Limits) (events : List Event) → AreLegal limits first_world events → AreSet limits.latest (after events) (triggers_of events)
all_set limits events legal = by_legal limits (λ es. AreSet limits.latest (after es) (triggers_of es))
    (record { counted = refl; each = λ k d low. absurd (omega (arith, low)) })
    (sets-push limits) events legal

pub triggers_are_within : TriggersAreWithin
triggers_are_within limits events legal =
    let set = all_set limits events legal in
    record {
      few = omega (arith, set.counted, (legal_after limits events legal).few_triggers);
      each = λ k d room. (set.each k d room).within;
    }

pub triggers_are_on_groups : TriggersAreOnGroups
triggers_are_on_groups limits events legal k d room = ((all_set limits events legal).each k d room).there
