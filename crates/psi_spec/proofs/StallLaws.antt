-- Proofs that stall time grows event by event, and with time.
use Rattle.std.proofs.Common.{◌≡◌, ℕ, zero, suc, Some, ◌+◌, ◌-◌, ◌≤◌, ◌<◌, List, [], ◌∷◌, ◌++◌, length, take, map, refl, sym, ◌∙◌, arith, ◌⊎◌, ⊎_elim}
use Rattle.std.specs.Prelude.{if◌then◌else◌, slice_get, slice_index_or}
use Rattle.std.specs.List.{range_with_len}
use Rattle.std.proofs.lemmas.List.{length-append, length-map, map-append, take-append-le, take_all, get_or_past, get_or_default, get_or_append_left}
use Rattle.std.proofs.Math.Seq.{get_or-append_seam, take-append_seam}
use Rattle.std.proofs.lemmas.List.FromFn.{sum_by-map-range_with_len_more}
use Rattle.psi_base.specs.declared.event.Event.{Event}
use Rattle.psi_base.specs.declared.event.State.{State}
use Rattle.psi_spec.specs.World.{after}
use Rattle.psi_spec.specs.Stall.{holds, irq_by, irq_from, irq_time, stall, stall_after, moment_of}
use Rattle.psi_spec.specs.Laws.{GrowsByEvent, GrowsWithTime, IrqByEvent}

-- functions that agree on a range of numbers map it to the same list
pub map_same : (f g : ℕ → ℕ) (from n : ℕ) → ((i : ℕ) → from ≤ i → i < from + n → f i ≡ g i) → map f (range_with_len from n) ≡ map g (range_with_len from n)
map_same f g from zero same = refl
map_same f g from (suc n) same =
    let here : f from ≡ g from = same from (omega arith) (omega arith) in
    let rest = map_same f g (from + 1) n (λ i low high. same i (omega (arith, low)) (omega (arith, high))) in
    cc (here, rest)

-- appending a list doesn't change the earlier elements
pub get_left : {A : Type 0} (xs ys : List A) (i : ℕ) → i < length xs → slice_get (xs ++ ys) i ≡ slice_get xs i
get_left [] ys i low = absurd (omega (arith, low))
get_left (x ∷ xs) ys zero low = refl
get_left (x ∷ xs) ys (suc i) low = get_left xs ys i (omega (arith, low))

pub get_seam : {A : Type 0} (xs : List A) (x : A) → slice_get (xs ++ x ∷ []) (length xs) ≡ Some x
get_seam [] x = refl
get_seam (y ∷ xs) x = get_seam xs x

abbrev times : List Event → List ℕ
times events = map (λ (event : Event). event.at) events

times-push : (events : List Event) (event : Event) → times (events ++ event ∷ []) ≡ times events ++ event.at ∷ []
times-push events event = map-append (λ (e : Event). e.at) events (event ∷ [])

-- appending an event doesn't change the times of earlier events
moment_kept : (events : List Event) (event : Event) (at i : ℕ) → i ≤ length events → slice_index_or (times (events ++ event ∷ [])) i at ≡ slice_index_or (times events) i event.at
moment_kept events event at i within =
    let len : length (times events) ≡ length events = length-map events (λ (e : Event). e.at) in
    let case : (i < length events) ⊎ (i ≡ length events) = grind arith in
    rw (times-push events event) (⊎_elim
    (λ below. let room : i < length (times events) = omega (arith, len) in get_or_append_left (times events) (event.at ∷ []) at i room ∙ get_or_default (times events) i at event.at room)
    (λ same. let here : i ≡ length (times events) = omega (arith, len) in
    rw (here, get_or-append_seam (times events) event.at [] at) (sym (get_or_past (times events) (length (times events)) event.at (omega arith))))
    case)

moment_past : (events : List Event) (event : Event) (at : ℕ) → slice_index_or (times (events ++ event ∷ [])) (length events + 1) at ≡ at
moment_past events event at =
    let len : length (times (events ++ event ∷ [])) ≡ length events + 1 = length-map (events ++ event ∷ []) (λ (e : Event). e.at) ∙ length-append events (event ∷ []) in
    get_or_past (times (events ++ event ∷ [])) (length events + 1) at (omega (arith, len))

-- appending an event doesn't change the stall time after earlier events
stall_kept : (state : State) (cpu slot : ℕ) (events : List Event) (event : Event) (at i : ℕ) → 1 ≤ i → i < 1 + length events → stall_after state cpu slot (events ++ event ∷ []) at i ≡ stall_after state cpu slot events event.at i
stall_kept state cpu slot events event at i low high =
    let prefix : take i (events ++ event ∷ []) ≡ take i events = take-append-le i events (event ∷ []) (omega (arith, high)) in
    let next : (i + 1) - 1 ≡ i = omega arith in
    let later : moment_of (events ++ event ∷ []) at (i + 1) ≡ moment_of events event.at (i + 1) = rw next (moment_kept events event at i (omega (arith, high))) in
    let now : moment_of (events ++ event ∷ []) at i ≡ moment_of events event.at i = moment_kept events event at (i - 1) (omega (arith, low, high)) in
    rw (prefix, later, now) refl

-- the stall time after the appended event, up to time `at`
stall_last : (state : State) (cpu slot : ℕ) (events : List Event) (event : Event) (at : ℕ) → stall_after state cpu slot (events ++ event ∷ []) at (1 + length events) ≡ (if holds state cpu slot (after (events ++ event ∷ [])) then at - event.at else 0)
stall_last state cpu slot events event at =
    let len : length (events ++ event ∷ []) ≡ length events + 1 = length-append events (event ∷ []) in
    let all : take (1 + length events) (events ++ event ∷ []) ≡ events ++ event ∷ [] = take_all (1 + length events) (events ++ event ∷ []) (omega (arith, len)) in
    let past : (1 + length events + 1) - 1 ≡ length events + 1 = omega arith in
    let here : (1 + length events) - 1 ≡ length (times events) = omega (arith, length-map events (λ (e : Event). e.at)) in
    let next : moment_of (events ++ event ∷ []) at (1 + length events + 1) ≡ at = rw past (moment_past events event at) in
    let now : moment_of (events ++ event ∷ []) at (1 + length events) ≡ event.at = rw (here, times-push events event) (get_or-append_seam (times events) event.at [] at) in
    rw (all, next, now) refl

pub by_event : GrowsByEvent
unfolding stall
by_event state cpu slot events event at =
    let len : length (events ++ event ∷ []) ≡ length events + 1 = length-append events (event ∷ []) in
    let more = sum_by-map-range_with_len_more (λ x. x) (stall_after state cpu slot (events ++ event ∷ []) at) 1 (length events) (1 + length events) refl in
    let same = map_same (stall_after state cpu slot (events ++ event ∷ []) at) (stall_after state cpu slot events event.at) 1 (length events) (stall_kept state cpu slot events event at) in
    rw (len, more, same, stall_last state cpu slot events event at) refl

pub with_time : GrowsWithTime
with_time state cpu slot events event at later from to =
    rw (by_event state cpu slot events event at, by_event state cpu slot events event later) (grind arith)

-- ---- interrupt time

-- appending an event doesn't change the interrupt time of earlier events
irq_kept : (cpu slot : ℕ) (events : List Event) (event : Event) (i : ℕ) → 1 ≤ i → i < 1 + length events → irq_by cpu slot (events ++ event ∷ []) i ≡ irq_by cpu slot events i
irq_kept cpu slot events event i low high =
    let prefix : take (i - 1) (events ++ event ∷ []) ≡ take (i - 1) events = take-append-le (i - 1) events (event ∷ []) (omega (arith, high)) in
    let here : slice_get (events ++ event ∷ []) (i - 1) ≡ slice_get events (i - 1) = get_left events (event ∷ []) (i - 1) (omega (arith, low, high)) in
    rw (prefix, here) refl

-- the interrupt time of the appended event
irq_last : (cpu slot : ℕ) (events : List Event) (event : Event) → irq_by cpu slot (events ++ event ∷ []) (1 + length events) ≡ irq_from cpu slot (after events) (Some event)
irq_last cpu slot events event =
    let before : (1 + length events) - 1 ≡ length events = omega arith in
    rw (before, take-append_seam events (event ∷ []), get_seam events event) refl

pub irq_by_event : IrqByEvent
unfolding irq_time
irq_by_event cpu slot events event =
    let len : length (events ++ event ∷ []) ≡ length events + 1 = length-append events (event ∷ []) in
    let more = sum_by-map-range_with_len_more (λ x. x) (irq_by cpu slot (events ++ event ∷ [])) 1 (length events) (1 + length events) refl in
    let same = map_same (irq_by cpu slot (events ++ event ∷ [])) (irq_by cpu slot events) 1 (length events) (irq_kept cpu slot events event) in
    rw (len, more, same, irq_last cpu slot events event) refl
