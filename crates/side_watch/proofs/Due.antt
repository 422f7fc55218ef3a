-- Proves that the side events due at a time are the side events of the events up to that time.
use Rattle.std.proofs.Common.{◌≡◌, ℕ, suc, ◌+◌, ◌≤◌, List, [], ◌∷◌, ◌++◌, length, take, drop, refl, sym, ap, ◌∙◌, arith, Bool, true, false, cond, Option, None, Some}
use Rattle.std.specs.Prelude.{filter, nat_le, slice_index_or}
use Rattle.std.specs.List.{All}
use Rattle.std.specs.List.Sorted.{IsNonDecreasingBy}
use Rattle.std.proofs.lemmas.Bool.Decides.{nat_tests}
use Rattle.std.proofs.lemmas.Grind.{get_or_head}
use Rattle.std.proofs.Math.Seq.{take-add}
use Rattle.std.proofs.lemmas.List.{take-append-drop}
use Rattle.std.proofs.lemmas.List.Elements.{All-weaker, filter-append, filter_passes}
use Rattle.std.proofs.lemmas.List.Sorted.{IsNonDecreasingBy-drop}
use Rattle.psi_base.specs.declared.event.Event.{Event}
use Rattle.psi_spec.specs.World.{Limits, first_world, up_to}
use Rattle.psi_spec.specs.Refusal.{AreLegal}
use Rattle.pressure_spec.proofs.SampleLaws.{filter_all, filter_none}
use Rattle.proc_plan.specs.declared.side.Side.{Side}
use Rattle.proc_plan.specs.Sides.{sides_of}
use Rattle.proc_plan.proofs.SideMoments.{sides_up_to, sides_are_in_order}
use Rattle.side_watch.specs.Sides.{due_by}
use Rattle.side_watch.specs.Watch.{seen_events, IsNotAfter}

-- Whether the time of a side event is at most `at` (ns).
abbrev is_due : ℕ → Side → Bool
is_due at side = nat_le side.at at

not_due : (at first moment : ℕ) → nat_le first at ≡ false → first ≤ moment → nat_le moment at ≡ false
not_due at first moment off turn = grind (arith, nat_tests)

-- If the first of some side events in order of time isn't due, none is due.
none_due : (at : ℕ) (side : Side) (sides : List Side) → IsNonDecreasingBy (λ (side : Side). side.at) (side ∷ sides) → nat_le side.at at ≡ false → All (λ x. is_due at x ≡ false) sides
none_due at side sides order off = λ k d room.
    let turn = order 0 (suc k) d (omega arith) (omega (arith, room)) in
    let first : slice_index_or (side ∷ sides) 0 d ≡ side = get_or_head side sides 0 d refl in
    not_due at side.at (slice_index_or sides k d).at off (rw first at turn)

-- If the side events are in order of time, the longest prefix of due side events has all due side
-- events.
pub due_are : (at : ℕ) (sides : List Side) → IsNonDecreasingBy (λ (side : Side). side.at) sides → due_by at sides ≡ filter (is_due at) sides
due_are at [] order = refl
due_are at (side ∷ sides) order =
    elim (nat_le side.at at) as (λ b. nat_le side.at at ≡ b → cond b (side ∷ due_by at sides) [] ≡ cond b (side ∷ filter (is_due at) sides) (filter (is_due at) sides)) [
      | true ↦ λ _. ap (λ xs. side ∷ xs) (due_are at sides (IsNonDecreasingBy-drop (λ (side : Side). side.at) 1 (side ∷ sides) order))
      | false ↦ λ off. sym (filter_none (is_due at) sides (none_due at side sides order off))
    ] refl

still_due : (before at moment : ℕ) → before ≤ at → nat_le moment before ≡ true → nat_le moment at ≡ true
still_due before at moment turn on = grind (arith, nat_tests)

-- Side events that are due at an earlier time are also due at a later time.
due_again : (before at : ℕ) (sides : List Side) → before ≤ at → filter (is_due at) (filter (is_due before) sides) ≡ filter (is_due before) sides
due_again before at sides turn =
    filter_all (is_due at) (filter (is_due before) sides)
    (All-weaker (λ x. is_due before x ≡ true) (λ x. is_due at x ≡ true) (λ x on. still_due before at x.at turn on) (filter (is_due before) sides) (filter_passes (is_due before) sides))

-- The side events of the events up to an earlier time are due.
seen_due : (limits : Limits) (events : List Event) (moment : Option ℕ) (at : ℕ) → AreLegal limits first_world events → IsNotAfter moment at → filter (is_due at) (sides_of (seen_events events moment)) ≡ sides_of (seen_events events moment)
seen_due limits events None at legal turn = refl
seen_due limits events (Some before) at legal turn =
    let are = sides_up_to limits events legal before in
    ap (filter (is_due at)) are ∙ due_again before at (sides_of events) turn ∙ sym are

-- The side events that the watch has taken, followed by the due side events after them, are the
-- side events of the events up to the time.
pub taken_on : (limits : Limits) (events : List Event) (moment : Option ℕ) (at taken : ℕ) → AreLegal limits first_world events → IsNotAfter moment at → take taken (sides_of events) ≡ sides_of (seen_events events moment) →
    sides_of (seen_events events moment) ++ due_by at (drop taken (sides_of events)) ≡ sides_of (up_to events at)
taken_on limits events moment at taken legal turn prefix =
    let sides : List Side = sides_of events in
    let order = IsNonDecreasingBy-drop (λ (side : Side). side.at) taken sides (sides_are_in_order limits events legal) in
    let parts : sides ≡ sides_of (seen_events events moment) ++ drop taken sides = sym (take-append-drop taken sides) ∙ ap (λ xs. xs ++ drop taken sides) prefix in
    let split = filter-append (is_due at) (sides_of (seen_events events moment)) (drop taken sides) in
    sym (sides_up_to limits events legal at ∙ ap (filter (is_due at)) parts ∙ split
    ∙ ap (λ xs. xs ++ filter (is_due at) (drop taken sides)) (seen_due limits events moment at legal turn)
    ∙ ap (λ xs. sides_of (seen_events events moment) ++ xs) (sym (due_are at (drop taken sides) order)))

-- ---- the number of sides taken

-- The due side events are a prefix of all side events.
due_first : (at : ℕ) (sides : List Side) → take (length (due_by at sides)) sides ≡ due_by at sides
due_first at [] = refl
due_first at (side ∷ sides) =
    elim (nat_le side.at at) as (λ b. take (length (cond b (side ∷ due_by at sides) [])) (side ∷ sides) ≡ cond b (side ∷ due_by at sides) []) [
      | true ↦ ap (λ xs. side ∷ xs) (due_first at sides)
      | false ↦ refl
    ]

-- A prefix of the side events, followed by the due side events after it, is a prefix of the side
-- events.
pub take_due_on : (at taken : ℕ) (sides : List Side) → take (taken + length (due_by at (drop taken sides))) sides ≡ take taken sides ++ due_by at (drop taken sides)
take_due_on at taken sides =
    take-add taken (length (due_by at (drop taken sides))) sides ∙ ap (λ xs. take taken sides ++ xs) (due_first at (drop taken sides))
