-- Proofs that the code draws and plays what the definitions say.
use Rattle.std.proofs.Common.{◌≡◌, ℕ, zero, suc, ◌+◌, ◌-◌, ◌^◌, ◌<◌, ◌≤◌, List, [], ◌∷◌, ◌++◌, refl, ap, ◌∙◌, sym, append_assoc, arith, Bool, false, true, Option, None, Some, map}
use Rattle.std.specs.Prelude.{is_some}
use Rattle.std.specs.List.{range_with_len}
use Rattle.std.proofs.lemmas.List.FromFn.{map-range_with_len_more}
use Rattle.psi_base.specs.declared.event.Act.TheVariants as act
use Rattle.psi_base.specs.declared.event.Cause.{Cause}
use Rattle.psi_base.specs.declared.event.Event.{Event}
use Rattle.psi_base.specs.declared.event.Fault.{Fault}
use Rattle.psi_base.specs.declared.event.Fault.TheVariants as fault
use Rattle.psi_spec.specs.declared.machine.Task.{Task}
use Rattle.psi_spec.specs.Refusal.{cause_of}
use Rattle.psi_spec.specs.World.{World, after, after_event, first_world, task_part}
use Rattle.psi_spec.proofs.Following.{after_from-append}
use Rattle.run_spec.specs.declared.command.Shape.{Shape}
use Rattle.run_spec.specs.Generated.{random_events, first_events, next_random, next_event}
use Rattle.run_spec.specs.LegalCommand.{IsShape}
use Rattle.task_table.specs.Causes.{IsFault, takes_memory}
use Rattle.task_table.specs.Stands.{HasPlayed, TableView}
use Rattle.trace_gen.specs.Generating.{limits_in}
use Rattle.trace_gen.specs.Left.{IsGenerator, events_left}
use Rattle.trace_gen.proofs.FirstEvents.{founded}
use Rattle.trace_gen.proofs.Following.{IsNext, next_is}

-- The optional task of a search result has a value exactly if the search result has.
pub some_part : (o : Option (ℕ × Task)) → is_some (task_part o) ≡ is_some o
some_part None = refl
some_part (Some e) = refl

-- The world after events and one more event is the world after this event, starting from the world
-- after the events.
pub one_after : (events : List Event) (event : Event) → after (events ++ event ∷ []) ≡ after_event (after events) event
one_after events event = after_from-append first_world events (event ∷ [])

-- Appending the next numbered event gives the numbered events up to the next number.
pub one_in_row : (f : ℕ → Event) (old mid new : List Event) (from count number : ℕ) (event : Event) → from + count ≡ number → mid ≡ old ++ map f (range_with_len from count) → new ≡ mid ++ event ∷ [] → event ≡ f number → new ≡ old ++ map f (range_with_len from (count + 1))
one_in_row f old mid new from count number event at were more is =
    more ∙ ap (λ es. es ++ event ∷ []) were ∙ append_assoc old (map f (range_with_len from count)) (event ∷ [])
    ∙ ap (λ e. old ++ (map f (range_with_len from count) ++ e ∷ [])) is
    ∙ ap (λ es. old ++ es) (sym (map-range_with_len_more f from count number at))

-- The invariant of a generator holds after the groups and tasks were created.
pub at_first : (shape : Shape) → IsShape shape → (table : TableView) → table.limits ≡ limits_in shape → table.world ≡ after (first_events shape) → IsGenerator shape table shape.events
at_first shape shaped table limits world = record {
  shaped = shaped;
  limits = limits;
  count = 0;
  all = omega arith;
  world = rw world (founded shape shaped).later;
}

-- ---- the next event

-- The next event of a generator can be written as a trace line and is legal.
pub generator_next : (shape : Shape) (table : TableView) (left : ℕ) → 0 < left → (so : IsGenerator shape table left) → (state : ℕ) → IsNext shape so.count table.world (next_event shape table.world state)
generator_next shape table left some so state = let all = so.all in next_is shape so.shaped so.count (omega (arith, all, some)) table.world so.world state

-- The last time in a generator's world is at most 2^60 ns.
pub not_late : (shape : Shape) (table : TableView) (left : ℕ) → IsGenerator shape table left → table.world.last ≤ 2 ^ 60
not_late shape table left so =
    let all = so.all in
    let few = so.shaped.events in
    let last = so.world.last in
    omega (arith, all, few, last)

-- A legal event that needs no memory gives no fault.
no_fault : (why : Option Cause) (event : Event) → why ≡ None → takes_memory event.act ≡ false → (f : Fault Cause) → IsFault why event.act f → ⊥
no_fault why event legal light (fault.Refused cause) is = cc (legal, is)
no_fault why event legal light (fault.NoMemory _) is = let heavy = is.1 in cc (light, heavy)

-- Playing the next event gives no fault.
pub never_refused : (shape : Shape) (table : TableView) (left : ℕ) → 0 < left → IsGenerator shape table left → (state : ℕ) (event : Event) → event ≡ next_event shape table.world state → (f : Fault Cause) → IsFault (cause_of table.limits table.world event) event.act f → ⊥
never_refused shape table left some so state event is f fails =
    let next = generator_next shape table left some so state in
    let legal : cause_of table.limits table.world event ≡ None = ap (λ limits. cause_of limits table.world event) so.limits ∙ ap (cause_of (limits_in shape) table.world) is ∙ next.legal in
    let light : takes_memory event.act ≡ false = ap (λ (e : Event). takes_memory e.act) is ∙ next.light in
    no_fault (cause_of table.limits table.world event) event legal light f fails

-- The invariant of a generator holds after the next event.
pub generator_on : (shape : Shape) (table later : TableView) (left : ℕ) → 0 < left → IsGenerator shape table left → (state : ℕ) (event : Event) → event ≡ next_event shape table.world state → HasPlayed table event later → IsGenerator shape later (left - 1)
generator_on shape table later left some so state event is played =
    let next = generator_next shape table left some so state in
    let all = so.all in
    record {
      shaped = so.shaped;
      limits = played.limits ∙ so.limits;
      count = so.count + 1;
      all = omega (arith, all, some);
      world = rw (played.world, is) next.later;
    }

-- The remaining events are the next event and the events after it.
pub next_from : (shape : Shape) (left : ℕ) → 0 < left → (w later : World) (state suffix : ℕ) (event : Event) → event ≡ next_event shape w state → suffix ≡ (next_random shape w.tasks state).state → later ≡ after_event w event → random_events shape left w state ≡ event ∷ random_events shape (left - 1) later suffix
unfolding random_events
next_from shape zero some w later state suffix event is on world = absurd (omega (arith, some))
next_from shape (suc left) some w later state suffix event is on world =
    let same : suc left - 1 ≡ left = omega arith in
    rw (same, world, on, is) refl

-- ---- the remaining events

-- If only the end remains, it is the only remaining event.
pub end_left : (shape : Shape) (first later : List Event) (w : World) (state left at : ℕ) (ended : Bool) → first ≡ [] → later ≡ [] → ended ≡ false → left ≡ 0 → at ≡ w.last → events_left shape first w state left ended ≡ record { at = at; act = act.End } ∷ events_left shape later w state left true
unfolding random_events
end_left shape first later w state left at ended none still going all is = rw (none, still, going, all, is) refl
