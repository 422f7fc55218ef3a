-- How interrupt time grows from one time to the next.
use Rattle.std.proofs.Common.{◌≡◌, ℕ, zero, suc, ◌+◌, ◌-◌, ◌≤◌, ◌<◌, List, [], ◌∷◌, ◌++◌, length, map, refl, sym, ap, ◌∙◌, arith, subst, true, false, cond, None, ◌==◌, ◌⊎◌, inl, inr, ⊎_elim, length-set}
use Rattle.std.specs.Prelude.{◌&&◌, if◌then◌else◌, nat_le, replicate, slice_index_or, sum}
use Rattle.std.proofs.lemmas.Bool.Decides.{nat_tests, eqb_tells}
use Rattle.std.proofs.lemmas.List.{get_or-set_same, get_or-set_other, length-replicate}
use Rattle.psi_base.specs.declared.event.Act.{Act}
use Rattle.psi_base.specs.declared.event.Act.TheVariants as act
use Rattle.psi_base.specs.declared.event.Event.{Event}
use Rattle.psi_counts.specs.declared.changes.Change.{Change}
use Rattle.psi_spec.specs.World.{World, Limits, after, first_world, irqs_after, is_on, most_cpus, up_to, longest_irq}
use Rattle.psi_spec.specs.Refusal.{AreLegal, cause_of}
use Rattle.psi_spec.specs.Stall.{has_running, irq_time_by, irq_time}
use Rattle.psi_spec.specs.Changes.{until_change}
use Rattle.psi_counts.specs.Legal.{changes_from}
use Rattle.psi_spec.proofs.RefusalLaws.{none_found_in}
use Rattle.psi_spec.proofs.StallLaws.{irq_by_event}
use Rattle.psi_counts.proofs.IrqLaws.{at_most, not_too_long, short}
use Rattle.plan_laws.specs.Moments.{IrqGrows, IrqIsWithin, NoIrqAtFirst}
use Rattle.plan_laws.specs.Plan.{IrqsFit, plan_of}
use Rattle.plan_laws.proofs.MomentsEvents.{after_others, by_legal, come_or_not, last-push}
use Rattle.plan_laws.proofs.PlanIrqs.{sum-push}
use Rattle.plan_laws.proofs.PlanLaws.{after-push, as_many, by_last, changes_same, changes_grow, touched_or_not, until_is}
use Rattle.plan_laws.proofs.PlanStates.{legal_prefix, legal_last, until_legal}
use Rattle.plan_laws.proofs.PlanUpTo.{ends_by, past_it, up_to_prefix}

-- ---- the times of the last interrupts

-- The time (ns) of the last `irq` line of processor `cpu`, or 0.
abbrev last_irq : World → ℕ → ℕ
last_irq w cpu = slice_index_or w.irqs cpu 0

as_many_after : (at : ℕ) (irqs : List ℕ) (a : Act) → length (irqs_after at irqs a) ≡ length irqs
as_many_after at irqs (act.Irq named ns) = length-set irqs named.0 at
as_many_after at irqs _ = refl

-- A world stores the time of the last `irq` line for each of `most_cpus` processors.
many_irqs : (events : List Event) → length (after events).irqs ≡ most_cpus
many_irqs events =
    by_last (λ es. length (after es).irqs ≡ most_cpus) (length-replicate {A = ℕ} most_cpus 0)
    (λ es event many. ap (λ (w : World). length w.irqs) (after-push es event) ∙ as_many_after event.at (after es).irqs event.act ∙ many)
    events

-- ---- one event

-- An act has no interrupt time of processor `cpu`, and leaves the time of its last `irq` line
-- unchanged.
record IsQuiet (w : World) (at : ℕ) (a : Act) (cpu : ℕ) : Type 0 where
  none : irq_time_by cpu a ≡ 0
  last : slice_index_or (irqs_after at w.irqs a) cpu 0 ≡ last_irq w cpu

-- An act has interrupt time of processor `cpu`: at most a second, and at most the time since the
-- processor's previous `irq` line.
record Shows (w : World) (at : ℕ) (a : Act) (cpu : ℕ) : Type 0 where
  second : irq_time_by cpu a ≤ longest_irq
  since : irq_time_by cpu a ≤ at - last_irq w cpu
  last : slice_index_or (irqs_after at w.irqs a) cpu 0 ≡ at

quiet_or_shows : (limits : Limits) (w : World) (at : ℕ) (a : Act) → cause_of limits w (record { at = at; act = a }) ≡ None → limits.cpus ≤ length w.irqs → (cpu : ℕ) → IsQuiet w at a cpu ⊎ Shows w at a cpu
quiet_or_shows limits w at (act.Irq named ns) legal many cpu =
    let bounds = short w.irqs at named.0 ns (not_too_long limits w _ legal) in
    let there = (none_found_in limits w _ legal).bad_cpu in
    let room : named.0 < length w.irqs = grind (arith, nat_tests, there, many) in
    ⊎_elim
    (λ same. inr (subst (Shows w at (act.Irq named ns)) same.1 (record {
      second = at_most (named.0 == named.0) ns longest_irq bounds.second;
      since = at_most (named.0 == named.0) ns (at - last_irq w named.0) bounds.since;
      last = get_or-set_same w.irqs named.0 at 0 room;
    })))
    (λ other. inl (record {
      none = ap (λ b. if b then ns else 0) other.0;
      last = get_or-set_other w.irqs named.0 cpu at 0 (λ is. other.1 (sym is));
    }))
    (eqb_tells named.0 cpu)
quiet_or_shows limits w at _ legal many cpu = inl (record { none = refl; last = refl })

-- The last of legal events satisfies `IsQuiet` or `Shows` for each processor.
event_shows : (limits : Limits) (events : List Event) (event : Event) → AreLegal limits first_world (events ++ event ∷ []) → limits.cpus ≤ most_cpus → (cpu : ℕ) → IsQuiet (after events) event.at event.act cpu ⊎ Shows (after events) event.at event.act cpu
event_shows limits events event legal few cpu =
    quiet_or_shows limits (after events) event.at event.act (legal_last limits first_world events event legal) (omega (arith, few, many_irqs events)) cpu

-- The time of a processor's last `irq` line after appending an event.
last_irq-push : (events : List Event) (event : Event) (cpu : ℕ) → last_irq (after (events ++ event ∷ [])) cpu ≡ slice_index_or (irqs_after event.at (after events).irqs event.act) cpu 0
last_irq-push events event cpu = ap (λ w. last_irq w cpu) (after-push events event)

-- ---- from time 0 on

-- The total `time` is at most the time of the last `irq` line of processor `cpu`, which is not
-- after the last event.
record EndsBy (time : ℕ) (w : World) (cpu : ℕ) : Type 0 where
  sum : time ≤ last_irq w cpu
  last : last_irq w cpu ≤ w.last

-- Totals that start at 0 and grow by at most the interrupt time of each event satisfy `EndsBy`.
all_end : (limits : Limits) → limits.cpus ≤ most_cpus → (cpu : ℕ) (time : List Event → ℕ) → time [] ≡ 0
    → ((es : List Event) (event : Event) → AreLegal limits first_world (es ++ event ∷ []) → time (es ++ event ∷ []) ≤ time es + irq_time_by cpu event.act)
    → (events : List Event) → AreLegal limits first_world events → EndsBy (time events) (after events) cpu
all_end limits few cpu time none grows = by_legal limits (λ es. EndsBy (time es) (after es) cpu) first push
  where
    at_first : (cpu : ℕ) → last_irq first_world cpu ≡ 0
    at_first cpu = no_moment most_cpus cpu
      where
        no_moment : (n cpu : ℕ) → slice_index_or {A = ℕ} (replicate n 0) cpu 0 ≡ 0
        no_moment zero cpu = refl
        no_moment (suc n) zero = refl
        no_moment (suc n) (suc cpu) = no_moment n cpu

    first : EndsBy (time []) first_world cpu
    first = record { sum = omega (arith, none); last = omega (arith, at_first cpu) }

    push : (es : List Event) (event : Event) → AreLegal limits first_world (es ++ event ∷ []) → EndsBy (time es) (after es) cpu → EndsBy (time (es ++ event ∷ [])) (after (es ++ event ∷ [])) cpu
    push es event legal before =
        let grown = grows es event legal in
        let now = last_irq-push es event cpu in
        let turn = after_others limits es event legal in
        let end = last-push es event in
        ⊎_elim
        (λ quiet. record {
          sum = omega (arith, before.sum, grown, now, quiet.none, quiet.last);
          last = omega (arith, before.last, now, quiet.last, turn, end);
        })
        (λ shows. record {
          sum = omega (arith, before.sum, before.last, grown, now, shows.since, shows.last, turn);
          last = omega (arith, now, shows.last, end);
        })
        (event_shows limits es event legal few cpu)

-- An event increases a group's interrupt time by at most the interrupt time of the event.
grows_by : (cpu slot : ℕ) (events : List Event) (event : Event) → irq_time cpu slot (events ++ event ∷ []) ≤ irq_time cpu slot events + irq_time_by cpu event.act
grows_by cpu slot events event =
    let part = at_most (is_on (after events).groups slot && has_running cpu slot (after events)) (irq_time_by cpu event.act) (irq_time_by cpu event.act) (omega arith) in
    omega (arith, irq_by_event cpu slot events event, part)

no_irq : (cpu slot : ℕ) → irq_time cpu slot [] ≡ 0
unfolding irq_time
no_irq cpu slot = refl

irq_ends : (limits : Limits) (events : List Event) → AreLegal limits first_world events → limits.cpus ≤ most_cpus → (cpu slot : ℕ) → EndsBy (irq_time cpu slot events) (after events) cpu
irq_ends limits events legal few cpu slot = all_end limits few cpu (irq_time cpu slot) (no_irq cpu slot) (λ es event _. grows_by cpu slot es event) events legal

pub irq_is_within : IrqIsWithin
irq_is_within limits events legal few cpu slot at =
    let parts = up_to_prefix limits first_world events at legal in
    let prefix = legal_prefix limits first_world (up_to events at) parts.0 (subst (AreLegal limits first_world) parts.1 legal) in
    let ends = irq_ends limits (up_to events at) prefix few cpu slot in
    omega (arith, ends.sum, ends.last, ends_by first_world events at (omega arith))

pub no_irq_at_first : NoIrqAtFirst
no_irq_at_first limits events legal few cpu slot = omega (arith, irq_is_within limits events legal few cpu slot 0)

-- ---- all interrupt time of a plan

-- The interrupt time (ns) of processor `cpu` in all its changes, whichever task was running.
abbrev known_all : ℕ → List Event → ℕ
known_all cpu events = sum (map (λ (change : Change). change.irq) (changes_from cpu first_world events))

known_all-push : (cpu : ℕ) (events : List Event) (event : Event) → known_all cpu (events ++ event ∷ []) ≤ known_all cpu events + irq_time_by cpu event.act
known_all-push cpu events event =
    ⊎_elim
    (λ off. let same = ap (λ cs. sum (map (λ (change : Change). change.irq) cs)) (changes_same cpu events event off) in omega (arith, same))
    (λ on.
    let grown = ap (λ cs. sum (map (λ (change : Change). change.irq) cs)) (changes_grow cpu events event on) ∙ sum-push (λ change. change.irq) (changes_from cpu first_world events) on.change in
    omega (arith, grown, on.irq))
    (touched_or_not (after events) event cpu)

pub plan_irqs_fit : (limits : Limits) (events : List Event) → AreLegal limits first_world events → limits.cpus ≤ most_cpus → (cpu : ℕ) → IrqsFit (plan_of cpu events)
plan_irqs_fit limits events legal few cpu k low =
    let until = until_is cpu events k (omega (arith, low, as_many cpu events)) in
    let ends = all_end limits few cpu (known_all cpu) refl (λ es event _. known_all-push cpu es event) (until_change cpu events k) (until_legal limits cpu events k legal) in
    let sum = ap (λ cs. sum (map (λ (change : Change). change.irq) cs)) until.changes in
    omega (arith, sum, ends.sum, ends.last, until.last)

-- ---- from one time to a later one

-- A total grew from `before` to `now` since time `at`: not at all, or by at most a second plus the
-- time from `at` to the last interrupts (`last`).
record Grew (before now at last : ℕ) : Type 0 where
  least : before ≤ now
  most : (now ≡ before) ⊎ ((at ≤ last) × (now ≤ before + longest_irq + (last - at)))

grew_not : (now at last : ℕ) → Grew now now at last
grew_not now at last = record { least = omega arith; most = inl refl }

-- An event without interrupt time preserves `Grew`.
grew_quietly : (before now next at last later : ℕ) → next ≡ now → later ≡ last → Grew before now at last → Grew before next at later
grew_quietly before now next at last later same still grew = rw (same, still) grew

-- An event with interrupt time preserves `Grew`.
grew_more : (before now next known at last moment : ℕ) → Grew before now at last → now ≤ next → next ≤ now + known → known ≤ longest_irq → known ≤ moment - last → last ≤ moment → at ≤ moment → Grew before next at moment
grew_more before now next known at last moment grew rises most second since turn past = record {
  least = omega (arith, grew.least, rises);
  most = inr (
    past,
    ⊎_elim
        (λ same. omega (arith, same, most, second))
        (λ more. omega (arith, more.0, more.1, most, since, turn, past))
        grew.most,
  );
}

abbrev GrewSince : ℕ → ℕ → ℕ → List Event → Type 0
GrewSince cpu slot at events = Grew (irq_time cpu slot (up_to events at)) (irq_time cpu slot events) at (last_irq (after events) cpu)

grew-push : (limits : Limits) → limits.cpus ≤ most_cpus → (cpu slot at : ℕ) (events : List Event) (event : Event) → AreLegal limits first_world (events ++ event ∷ []) → GrewSince cpu slot at events → GrewSince cpu slot at (events ++ event ∷ [])
grew-push limits few cpu slot at events event legal before =
    let first = legal_prefix limits first_world events (event ∷ []) legal in
    let now = last_irq-push events event cpu in
    let time = irq_by_event cpu slot events event in
    let turn = after_others limits events event legal in
    let ends = irq_ends limits events first few cpu slot in
    ⊎_elim
    (λ come. rw come.all (grew_not (irq_time cpu slot (events ++ event ∷ [])) at (last_irq (after (events ++ event ∷ [])) cpu)))
    (λ not. rw not.others (
    ⊎_elim
    (λ quiet.
    let part = at_most (is_on (after events).groups slot && has_running cpu slot (after events)) (irq_time_by cpu event.act) 0 (omega (arith, quiet.none)) in
    grew_quietly _ (irq_time cpu slot events) _ at (last_irq (after events) cpu) _ (omega (arith, time, part)) (now ∙ quiet.last) before)
    (λ shows.
    subst (Grew _ _ at) (sym (now ∙ shows.last))
    (grew_more _ (irq_time cpu slot events) _ (irq_time_by cpu event.act) at (last_irq (after events) cpu) event.at before (omega (arith, time)) (grows_by cpu slot events event) shows.second shows.since (omega (arith, ends.last, turn)) (omega (arith, not.late))))
    (event_shows limits events event legal few cpu)))
    (come_or_not limits events event legal at)

-- Restricting events to a time and then to an earlier time gives the events up to the earlier time.
up_to_both : (events : List Event) (at later : ℕ) → at ≤ later → up_to (up_to events later) at ≡ up_to events at
up_to_both [] at later from = refl
up_to_both (event ∷ events) at later from =
    let rest = up_to_both events at later from in
    elim (nat_le event.at later) as (λ b. nat_le event.at later ≡ b → up_to (cond b (event ∷ up_to events later) (up_to events later)) at ≡ cond (nat_le event.at at) (event ∷ up_to events at) (up_to events at)) [
      | true ↦ λ _. ap (λ es. cond (nat_le event.at at) (event ∷ es) es) rest
      | false ↦ λ off.
          let late = past_it later event.at off in
          let not : nat_le event.at at ≡ false = grind (arith, nat_tests, late, from) in
          rw not rest
    ] refl

pub irq_grows : IrqGrows
irq_grows limits events legal few cpu slot at later from =
    let prefix : List Event = up_to events later in
    let parts = up_to_prefix limits first_world events later legal in
    let legally : AreLegal limits first_world prefix = legal_prefix limits first_world prefix parts.0 (subst (AreLegal limits first_world) parts.1 legal) in
    let start : GrewSince cpu slot at [] = grew_not (irq_time cpu slot []) at (last_irq first_world cpu) in
    let grew = by_legal limits (GrewSince cpu slot at) start (grew-push limits few cpu slot at) prefix legally in
    let ends = irq_ends limits prefix legally few cpu slot in
    let by = ends_by first_world events later (omega arith) in
    let same = ap (irq_time cpu slot) (up_to_both events at later from) in (
      omega (arith, grew.least, same),
      ⊎_elim (λ still. omega (arith, still, same)) (λ more. omega (arith, more.0, more.1, same, ends.last, by)) grew.most,
    )
