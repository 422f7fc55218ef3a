-- Proves that the victims of kills are removed from a trace round by round.
use Rattle.std.proofs.Common.{◌≡◌, ⊎_elim, ℕ, ◌+◌, ◌<◌, ◌≤◌, suc, List, [], ◌∷◌, ◌++◌, length, nat_lt, refl, ap, ◌∙◌, subst, arith, None, Some, Bool, true, false, if◌then◌else◌}
use Rattle.std.specs.Prelude.{Result, Ok, Err, slice_get}
use Rattle.psi_base.specs.declared.event.Cause.{Cause}
use Rattle.psi_base.specs.declared.event.Event.{Event}
use Rattle.psi_base.specs.declared.event.Refusal.{Refusal}
use Rattle.psi_base.specs.Gives.{FaultOf}
use Rattle.psi_base.specs.declared.event.Fault.{Fault}
use Rattle.psi_base.specs.declared.event.Fault.TheVariants as fault
use Rattle.psi_spec.specs.Refusal.{AreLegal, cause_of}
use Rattle.psi_spec.specs.Trace.{IsAccepted, Trace, limits_of}
use Rattle.psi_spec.specs.World.{Limits, World, after_event, after_from, first_world, most_events}
use Rattle.plan_laws.proofs.PlanStates.{legal_after}
use Rattle.proc_plan.specs.Plans.{IsRefusal, IsRefusedAt, PlansView, Represent}
use Rattle.proc_plan.proofs.Taking.{lines_of}
use Rattle.ruleset_json.specs.declared.types.Rule.{Rule}
use Rattle.kill_spec.specs.declared.kill.Kill.{Kill}
use Rattle.run_spec.specs.Outputs.{of_ms, timing_of}
use Rattle.run_spec.specs.Whatif.{after_rounds, all_kills, bounded_trace, last_trace, most_rounds, without_kill}
use Rattle.run_spec.specs.declared.command.Options.{Options}
use Rattle.run_spec.proofs.LastTrace.{last_outgrown, last_without_kill, one_round}
use Rattle.whatif_spec.specs.Without.{without}
use Rattle.whatif_trace.specs.Bounded.{bounded}
use Rattle.whatif_trace.specs.declared.removal.TooLarge.{TooLarge}
use Rattle.whatif_trace.proofs.Together.{ended_at_end}
use Rattle.whatif_rounds.specs.Rounds.{AreLastPlans, ArePlansOf, IsOutgrown, IsTraceAt, MayReplay}

-- ---- the plans of an accepted trace

-- Each event in a legal list is legal after the events before it.
legal_there : (limits : Limits) (w : World) (prefix : List Event) (event : Event) (suffix : List Event) → AreLegal limits w (prefix ++ event ∷ suffix) → cause_of limits (after_from w prefix) event ≡ None
legal_there limits w [] event suffix legal = legal.0
legal_there limits w (first ∷ prefix) event suffix legal = legal_there limits (after_event w first) prefix event suffix legal.1

no_cause : (limits : Limits) (events : List Event) (line : ℕ) (why : Cause) → IsAccepted limits events → IsRefusedAt limits events line why → ⊥
no_cause limits events line why accepted refused =
    let none = legal_there limits first_world refused.prefix refused.event refused.suffix (subst (AreLegal limits first_world) refused.events_are accepted.legal) in
    let some = refused.cause in
    cc (none, some)

-- Accepted events are never rejected.
pub never_refused : (limits : Limits) (events : List Event) (refusal : Refusal) → IsAccepted limits events → IsRefusal limits events (fault.Refused refusal) → ⊥
never_refused limits events refusal accepted refused =
    ⊎_elim (λ at. no_cause limits events refusal.line refusal.cause accepted at) (λ lacks. lacks.open_ (ended_at_end events accepted.ends)) refused

-- Plans that represent an accepted trace are plans of that trace.
pub are_plans : (plans : PlansView) (options : Options) (trace : Trace) → MayReplay options → IsTraceAt options trace → Represent plans trace.cpus trace.events → ArePlansOf plans options trace
are_plans plans options trace may is represents = record {
  counted = is.counted;
  represents = represents;
  accepted = is.accepted;
  some = omega (arith, may.some);
  short = omega (arith, may.short);
  due = omega (arith, may.interval);
}

-- An accepted trace has at most `most_events` events.
few_events : (limits : Limits) (events : List Event) → IsAccepted limits events → length events ≤ most_events
few_events limits events accepted =
    let world = legal_after limits events accepted.legal in
    omega (arith, world.few_lines, lines_of events)

-- ---- one round

-- The events, or their number if they are too many.
abbrev bounded_if : Bool → List Event → Result (List Event) TooLarge
bounded_if b events = if b then Err (record { events = length events }) else Ok events

-- The trace, or the number of its events if they are too many.
abbrev trace_if : Bool → Trace → Result Trace ℕ
trace_if b trace = if b then Err (length trace.events) else Ok trace

kept_if : (b : Bool) (trace : Trace) (events left : List Event) → bounded_if b events ≡ Ok left → trace_if b (record trace { events = events }) ≡ Ok (record trace { events = left })
kept_if true trace events left is = absurd (let no : ⊥ = cc is in no)
kept_if false trace events left is =
    let same : events ≡ left = cc is in
    ap (λ (es : List Event). let kept : Result Trace ℕ = Ok (record trace { events = es }) in kept) same

large_if : (b : Bool) (trace : Trace) (events : List Event) (large : TooLarge) → bounded_if b events ≡ Err large → trace_if b (record trace { events = events }) ≡ Err large.events
large_if true trace events large is =
    let same : record { events = length events } ≡ large = cc is in
    ap (λ (l : TooLarge). let lost : Result Trace ℕ = Err l.events in lost) same
large_if false trace events large is = absurd (let no : ⊥ = cc is in no)

-- If few enough events remain, the check of the events and the check of the trace both succeed.
kept_bounds : (trace : Trace) (events left : List Event) → bounded events ≡ Ok left → bounded_trace (record trace { events = events }) ≡ Ok (record trace { events = left })
kept_bounds trace events left is = kept_if (nat_lt most_events (length events)) trace events left is

-- If too many events remain, the check of the events and the check of the trace both fail with
-- their number.
large_bounds : (trace : Trace) (events : List Event) (large : TooLarge) → bounded events ≡ Err large → bounded_trace (record trace { events = events }) ≡ Err large.events
large_bounds trace events large is = large_if (nat_lt most_events (length events)) trace events large is

-- `events` are the events of the trace that remain after `count` rounds.
pub record HasLeft (options : Options) (rules : List Rule) (trace : Trace) (count : ℕ) (events : List Event) : Type 0 where
  pub so_far : after_rounds trace (timing_of options) rules count ≡ Ok (record trace { events = events })
  pub accepted : IsAccepted (limits_of (of_ms options.tick_ms) trace.cpus) events

-- After 0 rounds, all events remain.
pub none_taken : (options : Options) (rules : List Rule) (trace : Trace) → IsTraceAt options trace → HasLeft options rules trace 0 trace.events
unfolding after_rounds
none_taken options rules trace is = record { so_far = refl; accepted = is.accepted }

-- Computes the result of a round that finds a kill.
round_by : (options : Options) (rules : List Rule) (trace : Trace) (count : ℕ) (events : List Event) (kill : Kill) → HasLeft options rules trace count events
    → slice_get (all_kills (record trace { events = events }) (timing_of options) rules) count ≡ Some kill
    → after_rounds trace (timing_of options) rules (suc count) ≡ bounded_trace (record trace { events = without events kill.at kill.victim.0 })
round_by options rules trace count events kill so found =
    one_round trace (record trace { events = events }) (timing_of options) rules count so.so_far
    ∙ ap (λ k. bounded_trace (without_kill (record trace { events = events }) k)) found

-- After one more round, the events without the tasks of the killed group remain.
pub one_taken : (options : Options) (rules : List Rule) (trace : Trace) (count : ℕ) (events left : List Event) (kill : Kill) → HasLeft options rules trace count events
    → slice_get (all_kills (record trace { events = events }) (timing_of options) rules) count ≡ Some kill
    → bounded (without events kill.at kill.victim.0) ≡ Ok left → IsAccepted (limits_of (of_ms options.tick_ms) trace.cpus) left
    → HasLeft options rules trace (count + 1) left
one_taken options rules trace count events left kill so found is accepted =
    let next : suc count ≡ count + 1 = omega arith in record {
      so_far = subst (λ n. after_rounds trace (timing_of options) rules n ≡ Ok (record trace { events = left })) next
          (round_by options rules trace count events kill so found ∙ kept_bounds trace (without events kill.at kill.victim.0) left is);
      accepted = accepted;
    }

-- If a round leaves too many events, the rounds end with the number of these events.
pub too_large : (options : Options) (rules : List Rule) (trace : Trace) (count : ℕ) (events : List Event) (kill : Kill) (large : TooLarge) → count < most_rounds → HasLeft options rules trace count events
    → slice_get (all_kills (record trace { events = events }) (timing_of options) rules) count ≡ Some kill
    → bounded (without events kill.at kill.victim.0) ≡ Err large
    → last_trace trace (timing_of options) rules ≡ Err large.events
too_large options rules trace count events kill large low so found is =
    last_outgrown trace (timing_of options) rules (suc count) large.events (omega (arith, low))
    (round_by options rules trace count events kill so found ∙ large_bounds trace (without events kill.at kill.victim.0) large is)

-- A failed round satisfies `IsOutgrown`. Nothing is required if memory ran out.
pub outgrown_at : (options : Options) (rules : List Rule) (trace : Trace) (count : ℕ) (events : List Event) (kill : Kill) (found : Fault TooLarge) → count < most_rounds → HasLeft options rules trace count events
    → slice_get (all_kills (record trace { events = events }) (timing_of options) rules) count ≡ Some kill
    → FaultOf found (bounded (without events kill.at kill.victim.0)) → IsOutgrown options rules trace found
outgrown_at options rules trace count events kill (fault.Refused large) low so has is = too_large options rules trace count events kill large low so has is
outgrown_at options rules trace count events kill (fault.NoMemory _) low so has is = tt

-- ---- the last round

-- If a round finds no kill, its plans are the plans of the last trace.
pub last_here : (options : Options) (rules : List Rule) (trace : Trace) (count : ℕ) (events : List Event) (plans : PlansView) → count ≤ most_rounds → HasLeft options rules trace count events
    → slice_get (all_kills (record trace { events = events }) (timing_of options) rules) count ≡ None → ArePlansOf plans options (record trace { events = events })
    → AreLastPlans options rules trace plans
last_here options rules trace count events plans low so none are = (
  record trace { events = events },
  last_without_kill trace (record trace { events = events }) (timing_of options) rules count low (few_events (limits_of (of_ms options.tick_ms) trace.cpus) events so.accepted) so.so_far none,
  refl,
  are,
)

-- After the last possible round, the plans of the remaining trace are the plans of the last trace.
pub last_at_end : (options : Options) (rules : List Rule) (trace : Trace) (count : ℕ) (events : List Event) (plans : PlansView) → MayReplay options → IsTraceAt options trace → count ≡ most_rounds → HasLeft options rules trace count events
    → Represent plans trace.cpus events → AreLastPlans options rules trace plans
last_at_end options rules trace count events plans may is all so represents = (
  record trace { events = events },
  subst (λ n. after_rounds trace (timing_of options) rules n ≡ Ok (record trace { events = events })) all so.so_far,
  refl,
  are_plans plans options (record trace { events = events }) may (record { counted = is.counted; accepted = so.accepted }) represents,
)
