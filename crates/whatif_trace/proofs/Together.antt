-- Proves properties of the whole remaining trace: the prefix, the exits and the later events.
use Rattle.std.proofs.Common.{◌≡◌, ℕ, ◌+◌, ◌-◌, ◌≤◌, ◌<◌, List, [], ◌∷◌, ◌++◌, refl, ap, ◌∙◌, sym, subst, arith, append_assoc, Bool, true, false, length}
use Rattle.std.specs.Prelude.{◌||◌, if◌then◌else◌, nat_lt}
use Rattle.std.proofs.lemmas.Bool.Decides.{nat_tests}
use Rattle.std.proofs.lemmas.List.{length-append}
use Rattle.psi_base.specs.declared.event.Act.TheVariants as act
use Rattle.psi_base.specs.declared.event.Event.{Event}
use Rattle.psi_spec.specs.Refusal.{AreLegal}
use Rattle.psi_spec.specs.Trace.{EndsLast}
use Rattle.psi_spec.specs.World.{Limits, World, after, after_event, after_from, first_world, up_to, events_at}
use Rattle.psi_spec.proofs.Following.{after_from-append, last_end, open_of_legal}
use Rattle.psi_counts.specs.Legal.{IsLegalWorld}
use Rattle.psi_counts.proofs.LegalLaws.{legal_kept}
use Rattle.plan_laws.proofs.PlanStates.{legal_after, legal_prefix}
use Rattle.plan_laws.proofs.PlanUpTo.{ends_by}
use Rattle.task_table.proofs.CauseLaws.{let_through}
use Rattle.whatif_spec.specs.Without.{act_without, suffix, dead_after, exits_from, members, rest_without, without}
use Rattle.whatif_trace.specs.Rest.{IsWithout, dead_later_on}
use Rattle.whatif_trace.proofs.Living.{AreLive, act_live}
use Rattle.whatif_trace.proofs.Steps.{HasRoom}
use Rattle.whatif_trace.proofs.Resting.{Begins, RestGoes, act_goes, in_time, last_from, legal_join, lines_from, next_begins, rest_goes}
use Rattle.whatif_trace.proofs.Doing.{IsReady}
use Rattle.whatif_trace.proofs.Exiting.{ExitsGo, exits_go}
use Rattle.whatif_trace.proofs.Whole.{legal_rest, members_live, parted, rest_both}

-- The `end` event at time `at` (ns).
abbrev pub end_at : ℕ → Event
end_at at = record { at = at; act = act.End }

-- The `end` event always remains.
one_left : (dead : List ℕ) (w : World) (prefix : List Event) (at : ℕ) → 1 ≤ length (rest_without dead w (prefix ++ end_at at ∷ []))
one_left dead w prefix at =
    let parts = ap length (rest_both dead w prefix (end_at at ∷ [])) in
    let many = length-append (rest_without dead w prefix) (end_at at ∷ []) in
    omega (arith, parts, many)

-- If the later events are legal, they are also legal after one more event before them.
one_more : (limits : Limits) (dead : List ℕ) (w v : World) (event : Event) (events : List Event) → IsWithout dead w v → IsLegalWorld limits w → AreLive dead w.tasks → AreLegal limits w (event ∷ events) → v.last ≤ event.at → v.lines < 4000000
    → (IsWithout (dead_after dead w event.act) (after_event w event) (after_from v (events_at event.at (act_without dead w event.act))) → Begins (after_from v (events_at event.at (act_without dead w event.act))).last events
    → RestGoes limits (dead_after dead w event.act) (after_event w event) (after_from v (events_at event.at (act_without dead w event.act))) events)
    → RestGoes limits dead w v (event ∷ events)
one_more limits dead w v event events is world live legal begins few others =
    let prefix = events_at event.at (act_without dead w event.act) in
    let later = dead_after dead w event.act in
    let next = after_event w event in
    let room : HasRoom limits v event.at = record {
      going = is.ended ∙ open_of_legal limits w event legal.0;
      forward = begins;
      early = (in_time limits w event legal.0).early;
      few = few;
    } in
    let goes = act_goes limits dead w v event.at event.act is world.once live room (let_through limits w event legal.0) in
    let rest = others goes.later (next_begins limits next events (after_from v prefix).last (last_from v event.at (act_without dead w event.act) begins) legal.1) in
    record {
      legal = legal_join limits v prefix (rest_without later next events) goes.legal rest.legal;
      later = subst (λ x. IsWithout (dead_later_on later next events) (after_from next events) x) (sym (after_from-append v prefix (rest_without later next events))) rest.later;
    }

-- The later events up to the end are legal.
pub whole_goes : (limits : Limits) (dead : List ℕ) (w v : World) (prefix : List Event) (at : ℕ) → IsWithout dead w v → IsLegalWorld limits w → AreLive dead w.tasks → AreLegal limits w (prefix ++ end_at at ∷ []) → Begins v.last (prefix ++ end_at at ∷ [])
    → v.lines + length (rest_without dead w (prefix ++ end_at at ∷ [])) ≤ 4000000 → RestGoes limits dead w v (prefix ++ end_at at ∷ [])
whole_goes limits dead w v [] at is world live legal begins few =
    one_more limits dead w v (end_at at) [] is world live legal begins (omega (arith, few)) (λ later _. record { legal = tt; later = later })
whole_goes limits dead w v (event ∷ prefix) at is world live legal begins few =
    let acts = act_without dead w event.act in
    let left = one_left dead w (event ∷ prefix) at in
    let many = length-append (events_at event.at acts) (rest_without (dead_after dead w event.act) (after_event w event) (prefix ++ end_at at ∷ [])) in
    let lines = lines_from v (events_at event.at acts) in
    one_more limits dead w v event (prefix ++ end_at at ∷ []) is world live legal begins (omega (arith, few, left))
    (λ later begins. whole_goes limits (dead_after dead w event.act) (after_event w event) (after_from v (events_at event.at acts)) prefix at later (legal_kept limits w event legal.0 world) (act_live dead w event.act live) legal.1 begins (omega (arith, few, many, lines)))

-- ---- the trace

or_true : (b : Bool) → (b || true) ≡ true
or_true true = refl
or_true false = refl

pub ended_at_end : (events : List Event) → EndsLast events → (after events).ended ≡ true
ended_at_end events ends =
    ap (λ es. (after es).ended) ends.2 ∙ ap (λ (w : World). w.ended) (after_from-append first_world ends.0 (end_at ends.1 ∷ [])) ∙ or_true (after ends.0).ended

-- A world in which an event follows after time `at` hasn't ended.
going_on : (limits : Limits) (w : World) (at : ℕ) (rest : List Event) → AreLegal limits w rest → Begins (at + 1) rest → w.last ≤ at → at < (after_from w rest).last → (w.ended ≡ false) × (at + 1 ≤ limits.latest)
going_on limits w at [] legal begins low high = absurd (omega (arith, low, high))
going_on limits w at (event ∷ rest) legal begins low high =
    let early = (in_time limits w event legal.0).early in
    (open_of_legal limits w event legal.0, omega (arith, early, begins))

-- The facts about a trace that is cut at a time before its end.
pub record IsCut (limits : Limits) (events : List Event) (at : ℕ) : Type 0 where
  pub legal : AreLegal limits first_world (up_to events at)
  pub whole : events ≡ up_to events at ++ suffix events at
  pub begins : Begins (at + 1) (suffix events at)
  pub world : IsLegalWorld limits (after (up_to events at))
  pub last : (after (up_to events at)).last ≤ at
  pub going : (after (up_to events at)).ended ≡ false
  pub early : at + 1 ≤ limits.latest
  pub rest : AreLegal limits (after (up_to events at)) (suffix events at)
  pub ends : EndsLast (suffix events at)

pub cut_at : (limits : Limits) (events : List Event) (at : ℕ) → AreLegal limits first_world events → EndsLast events → at < (after events).last → IsCut limits events at
cut_at limits events at legal ends before =
    let part = parted limits events at legal in
    let prefix = up_to events at in
    let rest = suffix events at in
    let all : AreLegal limits first_world (prefix ++ rest) = subst (AreLegal limits first_world) part.whole legal in
    let first = legal_prefix limits first_world prefix rest all in
    let second = legal_rest limits first_world prefix rest all in
    let last = ends_by first_world events at (omega arith) in
    let joined : after events ≡ after_from (after prefix) rest = ap after part.whole ∙ after_from-append first_world prefix rest in
    let high : at < (after_from (after prefix) rest).last = subst (λ (w : World). at < w.last) joined before in
    let going = going_on limits (after prefix) at rest second part.begins last high in
    record {
      legal = first;
      whole = part.whole;
      begins = part.begins;
      world = legal_after limits prefix first;
      last = last;
      going = going.0;
      early = going.1;
      rest = second;
      ends = last_end limits (after prefix) rest going.0 second (ap (λ (w : World). w.ended) (sym joined) ∙ ended_at_end events ends);
    }

-- ---- the three parts

-- The parts of the trace from which the tasks of a group are removed.
abbrev pub cut_world : List Event → ℕ → World
cut_world events at = after (up_to events at)

abbrev pub dead_of : List Event → ℕ → ℕ → List ℕ
dead_of events at victim = members (cut_world events at) victim

abbrev pub exits_of : List Event → ℕ → ℕ → List Event
exits_of events at victim = exits_from (at + 1) (cut_world events at) (dead_of events at victim)

abbrev pub rest_of : List Event → ℕ → ℕ → List Event
rest_of events at victim = rest_without (dead_of events at victim) (cut_world events at) (suffix events at)

is_below : (at last : ℕ) → at < last → nat_lt at last ≡ true
is_below at last before = grind (arith, nat_tests)

pub three_parts : (events : List Event) (at victim : ℕ) → at < (after events).last → without events at victim ≡ up_to events at ++ exits_of events at victim ++ rest_of events at victim
unfolding without
three_parts events at victim before = ap (λ b. if b then up_to events at ++ exits_of events at victim ++ rest_of events at victim else events) (is_below at (after events).last before)

-- The number of further events that fit after the exits, not counting the end event.
abbrev pub room_of : List Event → ℕ → ℕ → ℕ
room_of events at victim = length (rest_of events at victim) - 1

pub record Holds (limits : Limits) (events : List Event) (at victim : ℕ) : Type 0 where
  pub ready : IsReady limits (at + 1) (room_of events at victim + length (exits_of events at victim)) (cut_world events at)
  pub exits : ExitsGo limits (at + 1) (room_of events at victim) (cut_world events at) (dead_of events at victim)
  pub few : (after_from (cut_world events at) (exits_of events at victim)).lines + length (rest_of events at victim) ≤ 4000000
  pub rest : RestGoes limits (dead_of events at victim) (cut_world events at) (after_from (cut_world events at) (exits_of events at victim)) (suffix events at)

left_of : (dead : List ℕ) (w : World) (events : List Event) → EndsLast events → 1 ≤ length (rest_without dead w events)
left_of dead w events ends = subst (λ es. 1 ≤ length (rest_without dead w es)) (sym ends.2) (one_left dead w ends.0 ends.1)

begins_later : (last at : ℕ) (events : List Event) → last ≤ at → Begins at events → Begins last events
begins_later last at [] low begins = tt
begins_later last at (event ∷ events) low begins = omega (arith, low, begins)

pub holds : (limits : Limits) (events : List Event) (at victim : ℕ) → IsCut limits events at → length (up_to events at ++ exits_of events at victim ++ rest_of events at victim) ≤ 4000000 → Holds limits events at victim
holds limits events at victim cut few =
    let w = cut_world events at in
    let dead = dead_of events at victim in
    let left = left_of dead w (suffix events at) cut.ends in
    let lines = lines_from first_world (up_to events at) in
    let many = length-append (up_to events at) (exits_of events at victim ++ rest_of events at victim) in
    let more = length-append (exits_of events at victim) (rest_of events at victim) in
    let same = ap length (append_assoc (up_to events at) (exits_of events at victim) (rest_of events at victim)) in
    let last = cut.last in
    let ready : IsReady limits (at + 1) (room_of events at victim + length (exits_of events at victim)) w = record {
      world = cut.world;
      going = cut.going;
      forward = omega (arith, last);
      early = cut.early;
      few = omega (arith, few, left, lines, many, more, same);
    } in
    let exits = exits_go limits (at + 1) (room_of events at victim) w dead ready in
    let v = after_from w (exits_of events at victim) in
    let room = exits.ready.few in
    let ends = cut.ends in
    let fits : v.lines + length (rest_of events at victim) ≤ 4000000 = omega (arith, room, left) in
    record {
      ready = ready;
      exits = exits;
      few = fits;
      rest = subst (RestGoes limits dead w v) (sym ends.2)
          (whole_goes limits dead w v ends.0 ends.1 exits.later cut.world (members_live w victim) (subst (AreLegal limits w) ends.2 cut.rest)
          (subst (Begins v.last) ends.2 (begins_later v.last (at + 1) (suffix events at) exits.ready.forward cut.begins))
          (let counted = ap (λ es. length (rest_without dead w es)) (sym ends.2) in omega (arith, fits, counted)));
    }

-- ---- a part of the rest

not_nil : (some : List Event) (event : Event) (more : List Event) → some ++ event ∷ more ≡ [] → ⊥
not_nil [] event more is = cc is
not_nil (one ∷ some) event more is = cc is

tail_is : (prefix : List Event) (one : Event) (events : List Event) (last : Event) → one ∷ events ≡ prefix ++ last ∷ [] → (events ≡ [] → ⊥) → (before : List Event) × (events ≡ before ++ last ∷ [])
tail_is [] one events last is some = absurd (let none : events ≡ [] = cc is in some none)
tail_is (first ∷ prefix) one events last is some = let rest : events ≡ prefix ++ last ∷ [] = cc is in (prefix, rest)

ends_after : (some : List Event) (event : Event) (more : List Event) → EndsLast (some ++ event ∷ more) → EndsLast (event ∷ more)
ends_after [] event more ends = ends
ends_after (one ∷ some) event more ends =
    let tail = tail_is ends.0 one (some ++ event ∷ more) (end_at ends.1) ends.2 (not_nil some event more) in
    ends_after some event more (tail.0, ends.1, tail.1)

begins_prefix : (last : ℕ) (prefix rest : List Event) → Begins last (prefix ++ rest) → Begins last prefix
begins_prefix last [] rest begins = tt
begins_prefix last (event ∷ prefix) rest begins = begins

-- The relation of the two worlds after a proper prefix of the later events.
pub part_goes : (limits : Limits) (events : List Event) (at victim : ℕ) → IsCut limits events at → Holds limits events at victim → (some : List Event) (event : Event) (more : List Event) → suffix events at ≡ some ++ event ∷ more
    → RestGoes limits (dead_of events at victim) (cut_world events at) (after_from (cut_world events at) (exits_of events at victim)) some
part_goes limits events at victim cut held some event more is =
    let w = cut_world events at in
    let dead = dead_of events at victim in
    let v = after_from w (exits_of events at victim) in
    let ends = ends_after some event more (subst EndsLast is cut.ends) in
    let left = left_of (dead_later_on dead w some) (after_from w some) (event ∷ more) ends in
    let parts = ap length (ap (rest_without dead w) is ∙ rest_both dead w some (event ∷ more)) in
    let many = length-append (rest_without dead w some) (rest_without (dead_later_on dead w some) (after_from w some) (event ∷ more)) in
    let few = held.few in
    rest_goes limits dead w v some held.exits.later cut.world (members_live w victim) (legal_prefix limits w some (event ∷ more) (subst (AreLegal limits w) is cut.rest))
    (begins_prefix v.last some (event ∷ more) (subst (Begins v.last) is (begins_later v.last (at + 1) (suffix events at) held.exits.ready.forward cut.begins)))
    (omega (arith, few, left, parts, many))

-- The remaining trace is legal.
pub legal_without : (limits : Limits) (events : List Event) (at victim : ℕ) → IsCut limits events at → Holds limits events at victim → AreLegal limits first_world (up_to events at ++ exits_of events at victim ++ rest_of events at victim)
legal_without limits events at victim cut holds =
    subst (AreLegal limits first_world) (sym (append_assoc (up_to events at) (exits_of events at victim) (rest_of events at victim)))
    (legal_join limits first_world (up_to events at) (exits_of events at victim ++ rest_of events at victim) cut.legal
    (legal_join limits (cut_world events at) (exits_of events at victim) (rest_of events at victim) holds.exits.legal holds.rest.legal))
