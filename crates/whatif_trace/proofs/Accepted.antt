-- Proves the laws about a trace from which the tasks of a group are removed.
use Rattle.std.proofs.Common.{◌≡◌, ℕ, ◌+◌, ◌^◌, ◌≤◌, ◌<◌, List, [], ◌∷◌, ◌++◌, refl, ap, ◌∙◌, sym, subst, arith, true, false, length}
use Rattle.std.specs.Prelude.{if◌then◌else◌, nat_lt}
use Rattle.std.proofs.lemmas.Bool.Decides.{nat_tests}
use Rattle.std.proofs.lemmas.List.{append-nil}
use Rattle.psi_base.specs.declared.event.Event.{Event}
use Rattle.psi_spec.specs.Trace.{AllFit, EndsLast, IsAccepted}
use Rattle.psi_spec.specs.World.{Limits, World, after, after_from, first_world, most_cpus, task_of, up_to}
use Rattle.psi_spec.proofs.Following.{after_from-append, last_end}
use Rattle.whatif_spec.specs.Without.{suffix, rest_without, without}
use Rattle.whatif_trace.specs.Laws.{ExitsLeaveNone, WithoutIsAccepted, WorldsWithout}
use Rattle.whatif_trace.specs.Rest.{IsWithout, dead_later_on}
use Rattle.whatif_trace.proofs.Fewer.{found_dead}
use Rattle.whatif_trace.proofs.Resting.{Begins}
use Rattle.whatif_trace.proofs.Spelling.{exits_fit, fit_prefix, fit_join, fit_rest, numbers_first, numbers_from, rest_fits}
use Rattle.whatif_trace.proofs.Together.{Holds, IsCut, cut_at, cut_world, dead_of, end_at, ended_at_end, exits_of, holds, legal_without, part_goes, rest_of, room_of, three_parts}

-- ---- the trace without the tasks is accepted

none_last : (prefix : List Event) (last : Event) → [] ≡ prefix ++ last ∷ [] → ⊥
none_last [] last is = cc is
none_last (event ∷ prefix) last is = cc is

some_event : (rest : List Event) (at : ℕ) → EndsLast rest → Begins (at + 1) rest → AllFit rest → at + 1 < 2 ^ 64
some_event [] at ends begins fit = absurd (none_last ends.0 (end_at ends.1) ends.2)
some_event (event ∷ rest) at ends begins fit = let early = fit.0.at in omega (arith, early, begins)

-- The time 1 ns after the cut fits in 64 bits, because the time of the next event does.
pub early_enough : (limits : Limits) (events : List Event) (at : ℕ) → IsCut limits events at → AllFit events → at + 1 < 2 ^ 64
early_enough limits events at cut fit = some_event (suffix events at) at cut.ends cut.begins (fit_rest (up_to events at) (suffix events at) (subst AllFit cut.whole fit))

-- The law for a cut before the end of the trace.
accepted_before : (limits : Limits) (events : List Event) (at victim : ℕ) → limits.cpus ≤ most_cpus → IsAccepted limits events → length (without events at victim) ≤ 4000000 → at < (after events).last → IsAccepted limits (without events at victim)
accepted_before limits events at victim cpus accepted few before =
    let cut = cut_at limits events at accepted.legal accepted.ends before in
    let same = three_parts events at victim before in
    let prefix = up_to events at in
    let exits = exits_of events at victim in
    let rest = rest_of events at victim in
    let all = holds limits events at victim cut (subst (λ es. length es ≤ 4000000) same few) in
    let legal = legal_without limits events at victim cut all in
    let parts = subst AllFit cut.whole accepted.fit in
    let numbers = numbers_from first_world prefix (fit_prefix prefix (suffix events at) parts) numbers_first in
    let fit = fit_join (prefix ++ exits) rest (fit_join prefix exits (fit_prefix prefix (suffix events at) parts) (exits_fit limits (at + 1) (room_of events at victim) (cut_world events at) (dead_of events at victim) cpus (early_enough limits events at cut accepted.fit) all.ready numbers)) (rest_fits (dead_of events at victim) (cut_world events at) (suffix events at) (fit_rest prefix (suffix events at) parts)) in
    let all_ended : (after (prefix ++ suffix events at)).ended ≡ true = ap (λ es. (after es).ended) (sym cut.whole) ∙ ended_at_end events accepted.ends in
    let ended : (after (prefix ++ exits ++ rest)).ended ≡ true =
    ap (λ (w : World). w.ended) (after_from-append first_world (prefix ++ exits) rest ∙ ap (λ w. after_from w rest) (after_from-append first_world prefix exits))
    ∙ all.rest.later.ended ∙ ap (λ (w : World). w.ended) (sym (after_from-append first_world prefix (suffix events at))) ∙ all_ended in
    subst (IsAccepted limits) (sym same) (record { fit = fit; legal = legal; ends = last_end limits first_world (prefix ++ exits ++ rest) refl legal ended })

pub same_at_end : (events : List Event) (at victim : ℕ) → nat_lt at (after events).last ≡ false → without events at victim ≡ events
unfolding without
same_at_end events at victim off = ap (λ b. if b then up_to events at ++ exits_of events at victim ++ rest_of events at victim else events) off

below : (at last : ℕ) → nat_lt at last ≡ true → at < last
below at last on = grind (arith, nat_tests)

pub without_is_accepted : WithoutIsAccepted
without_is_accepted limits events at victim cpus accepted few =
    elim (nat_lt at (after events).last) as (λ b. nat_lt at (after events).last ≡ b → IsAccepted limits (without events at victim)) [
      | true ↦ λ on. accepted_before limits events at victim cpus accepted few (below at (after events).last on)
      | false ↦ λ off. subst (IsAccepted limits) (sym (same_at_end events at victim off)) accepted
    ] refl

-- ---- the worlds of the trace without the tasks

held : (limits : Limits) (events : List Event) (at victim : ℕ) → IsAccepted limits events → at < (after events).last → length (without events at victim) ≤ 4000000 → Holds limits events at victim
held limits events at victim accepted before few = holds limits events at victim (cut_at limits events at accepted.legal accepted.ends before) (subst (λ es. length es ≤ 4000000) (three_parts events at victim before) few)

pub exits_leave_none : ExitsLeaveNone
exits_leave_none limits events at victim accepted before few pid is =
    let exits = (held limits events at victim accepted before few).exits in
    ap (λ (w : World). task_of w.tasks pid) (after_from-append first_world (up_to events at) (exits_of events at victim))
    ∙ found_dead (dead_of events at victim) (cut_world events at).tasks (after_from (cut_world events at) (exits_of events at victim)).tasks exits.later.tasks pid is

by_part : (limits : Limits) (events : List Event) (at victim : ℕ) → IsCut limits events at → Holds limits events at victim → (some more : List Event) → suffix events at ≡ some ++ more
    → IsWithout (dead_later_on (dead_of events at victim) (cut_world events at) some) (after_from (cut_world events at) some) (after_from (after_from (cut_world events at) (exits_of events at victim)) (rest_without (dead_of events at victim) (cut_world events at) some))
by_part limits events at victim cut held some (event ∷ more) is = (part_goes limits events at victim cut held some event more is).later
by_part limits events at victim cut held some [] is =
    let w = cut_world events at in
    let dead = dead_of events at victim in
    let v = after_from w (exits_of events at victim) in
    subst (λ es. IsWithout (dead_later_on dead w es) (after_from w es) (after_from v (rest_without dead w es))) (is ∙ append-nil some) held.rest.later

pub worlds_without : WorldsWithout
worlds_without limits events at victim accepted before few some more is =
    let cut = cut_at limits events at accepted.legal accepted.ends before in
    let held = held limits events at victim accepted before few in
    let w = cut_world events at in
    let dead = dead_of events at victim in
    let v = after_from w (exits_of events at victim) in
    let now : after (up_to events at ++ some) ≡ after_from w some = after_from-append first_world (up_to events at) some in
    let other : after (up_to events at ++ exits_of events at victim) ≡ v = after_from-append first_world (up_to events at) (exits_of events at victim) in
    let later : IsWithout (dead_later_on dead w some) (after_from w some) (after_from v (rest_without dead w some)) = by_part limits events at victim cut held some more is in
    subst (λ x. IsWithout (dead_later_on dead w some) x (after_from (after (up_to events at ++ exits_of events at victim)) (rest_without dead w some))) (sym now)
    (subst (λ x. IsWithout (dead_later_on dead w some) (after_from w some) (after_from x (rest_without dead w some))) (sym other) later)
