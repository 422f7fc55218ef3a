-- Proofs about the events after the creation of groups and tasks: each can be written as a trace
-- line and is legal, and the last one is the end.
use Rattle.std.proofs.Common.{◌≡◌, ℕ, zero, suc, ◌+◌, ◌<◌, ◌≤◌, List, [], ◌∷◌, ◌++◌, refl, ap, ◌∙◌, sym, arith, append_assoc, false, None, length}
use Rattle.std.proofs.Math.Nat.{mod-lt}
use Rattle.psi_base.specs.declared.event.Act.TheVariants as act
use Rattle.psi_base.specs.declared.event.Event.{Event}
use Rattle.psi_spec.specs.Grammar as verb
use Rattle.psi_spec.specs.Grammar.{Fits, IsKnown, first_verbs}
use Rattle.psi_spec.specs.Refusal.{AreLegal, cause_of}
use Rattle.psi_spec.specs.Trace.{AllFit, AreKnown, EndsLast}
use Rattle.psi_spec.specs.World.{Limits, World, after_event, after_from}
use Rattle.trace_laws.proofs.GrammarReads.{found_first}
use Rattle.run_spec.specs.declared.command.Shape.{Shape}
use Rattle.run_spec.specs.Generated.{random_event, random_events, next_random, next_event, next_state}
use Rattle.run_spec.specs.LegalCommand.{IsShape}
use Rattle.task_table.specs.Causes.{takes_memory}
use Rattle.task_table.proofs.CauseLaws.{first_of_act}
use Rattle.trace_gen.specs.Generating.{IsGenerating, limits_in}
use Rattle.trace_gen.proofs.Stepping.{next_step}

-- ---- legal events from a world

-- The events can be written as trace lines, have verbs of every version, and are legal in their
-- order from world `w`.
pub record Go (limits : Limits) (w : World) (events : List Event) : Type 0 where
  pub fit : AllFit events
  pub known : AreKnown first_verbs events
  pub legal : AreLegal limits w events

-- A legal event, followed by legal events, gives legal events.
pub go_then : (limits : Limits) (w : World) (event : Event) (events : List Event) → Fits event → IsKnown first_verbs event → cause_of limits w event ≡ None → Go limits (after_event w event) events → Go limits w (event ∷ events)
go_then limits w event events fits known legal rest = record {
  fit = (fits, rest.fit);
  known = (known, rest.known);
  legal = (legal, rest.legal);
}

-- Legal events, followed by legal events, give legal events.
pub go_on : (limits : Limits) (w : World) (xs ys : List Event) → Go limits w xs → Go limits (after_from w xs) ys → Go limits w (xs ++ ys)
go_on limits w [] ys prefix rest = rest
go_on limits w (x ∷ xs) ys prefix rest =
    let inner : Go limits (after_event w x) xs = record { fit = prefix.fit.1; known = prefix.known.1; legal = prefix.legal.1 } in
    go_then limits w x (xs ++ ys) prefix.fit.0 prefix.known.0 prefix.legal.0 (go_on limits (after_event w x) xs ys inner rest)

-- A list that ends with the end still does so after other events are prepended.
pub ends_after : (xs ys : List Event) → EndsLast ys → EndsLast (xs ++ ys)
ends_after xs ys ends = (xs ++ ends.0, ends.1, ap (λ zs. xs ++ zs) ends.2 ∙ sym (append_assoc xs ends.0 (record { at = ends.1; act = act.End } ∷ [])))

-- ---- one event

-- The next event can be written as a trace line and is legal, and the invariant holds after it.
pub record IsNext (shape : Shape) (count : ℕ) (w : World) (event : Event) : Type 0 where
  pub fits : Fits event
  pub known : IsKnown first_verbs event
  pub legal : cause_of (limits_in shape) w event ≡ None
  pub light : takes_memory event.act ≡ false
  pub later : IsGenerating shape (count + 1) (after_event w event)

pub next_is : (shape : Shape) → IsShape shape → (count : ℕ) → count < shape.events → (w : World) → IsGenerating shape count w → (state : ℕ) → IsNext shape count w (next_event shape w state)
next_is shape shaped count more w so state =
    let step = next_step shape w.tasks shaped so.tasks state in
    let wait : random_event (next_state state) 2000000 < 2000000 = mod-lt _ (omega arith) in
    let few = shaped.events in
    let processors = shaped.cpus.1 in
    let groups = shaped.groups in
    let last = so.last in
    let lines = so.lines in
    let forward : w.last ≤ w.last + random_event (next_state state) 2000000 = omega arith in
    let early : w.last + random_event (next_state state) 2000000 ≤ (limits_in shape).latest = omega (arith, last, wait, few, more) in
    let room : w.lines < 4000000 = omega (arith, lines, few, more, processors, groups) in
    record {
      fits = record { at = omega (arith, last, wait, few, more); act = step.fits };
      known = step.known;
      legal = first_of_act (limits_in shape) w (next_event shape w state) so.going forward early room ∙ step.legal w.groups w.irqs w.triggers w.pressures (next_event shape w state).at;
      light = step.light;
      later = record {
        tasks = step.live w.groups;
        lines = omega (arith, lines);
        last = omega (arith, last, wait);
        going = rw (so.going, step.goes) refl;
      };
    }

-- The end is legal.
pub end_goes : (shape : Shape) → IsShape shape → (count : ℕ) → count ≤ shape.events → (w : World) → IsGenerating shape count w → Go (limits_in shape) w (record { at = w.last; act = act.End } ∷ [])
end_goes shape shaped count all w so =
    let few = shaped.events in
    let processors = shaped.cpus.1 in
    let groups = shaped.groups in
    let last = so.last in
    let lines = so.lines in
    let early : w.last ≤ (limits_in shape).latest = omega (arith, last, few, all) in
    let room : w.lines < 4000000 = omega (arith, lines, few, all, processors, groups) in
    record {
      fit = (record { at = omega (arith, last, few, all); act = tt }, tt);
      known = (found_first verb.End refl, tt);
      legal = (first_of_act (limits_in shape) w (record { at = w.last; act = act.End }) so.going (omega arith) early room, tt);
    }

-- ---- all further events

-- The `left` remaining events and the end can be written as trace lines and are legal.
pub events_go : (shape : Shape) → IsShape shape → (left count : ℕ) → count + left ≡ shape.events → (w : World) → IsGenerating shape count w → (state : ℕ) → Go (limits_in shape) w (random_events shape left w state)
unfolding random_events
events_go shape shaped zero count all w so state = end_goes shape shaped count (omega (arith, all)) w so
events_go shape shaped (suc left) count all w so state =
    let next = next_is shape shaped count (omega (arith, all)) w so state in
    go_then (limits_in shape) w (next_event shape w state) _ next.fits next.known next.legal
    (events_go shape shaped left (count + 1) (omega (arith, all)) (after_event w (next_event shape w state)) next.later (next_random shape w.tasks state).state)

-- The last of the remaining events is the end.
pub events_end : (shape : Shape) (left : ℕ) (w : World) (state : ℕ) → EndsLast (random_events shape left w state)
unfolding random_events
events_end shape zero w state = ([], w.last, refl)
events_end shape (suc left) w state =
    let rest = events_end shape left (after_event w (next_event shape w state)) (next_random shape w.tasks state).state in
    (next_event shape w state ∷ rest.0, rest.1, ap (λ es. next_event shape w state ∷ es) rest.2)

-- The number of remaining events, with the end, is `left + 1`.
pub events_count : (shape : Shape) (left : ℕ) (w : World) (state : ℕ) → length (random_events shape left w state) ≡ left + 1
unfolding random_events
events_count shape zero w state = refl
events_count shape (suc left) w state =
    let rest = events_count shape left (after_event w (next_event shape w state)) (next_random shape w.tasks state).state in omega (arith, rest)
