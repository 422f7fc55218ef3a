-- Proves properties of a worker pool that advances by several ticks at once and returns their
-- tables in order.
use Rattle.std.proofs.Common.{◌≡◌, ℕ, zero, suc, ◌+◌, ◌-◌, ◌*◌, ◌/◌, ◌<◌, ◌≤◌, ◌^◌, List, [], ◌∷◌, drop, length, map, refl, sym, ap, ◌∙◌, subst, arith}
use Rattle.std.specs.Prelude.{Some, min, slice_get}
use Rattle.std.specs.List.{range_with_len}
use Rattle.std.proofs.Math.Nat.{le-div_iff_mul-le}
use Rattle.std.proofs.lemmas.Option.{slice_get-get_or}
use Rattle.std.proofs.lemmas.List.{length-drop}
use Rattle.std.proofs.lemmas.List.FromFn.{fill_by_all, get_or-map-range_with_len, length-map-range_with_len}
use Rattle.psi_spec.specs.Trace.{Trace, limits_of}
use Rattle.psi_spec.specs.Within.{last_moment}
use Rattle.plan_laws.proofs.PlanStates.{legal_after}
use Rattle.pressure_spec.specs.Ticks.{tick_moment}
use Rattle.run_spec.specs.Replay.{Timing, tick_count}
use Rattle.run_spec.specs.Text.{end_of}
use Rattle.proc_plan.specs.Clocks.{OnPlan}
use Rattle.proc_plan.specs.Plans.{PlansView, plan_at}
use Rattle.replay_workers.specs.declared.ticks.Ticks.{Ticks}
use Rattle.replay_workers.specs.Crew.{AreAt, AreNotPast, CrewView, last_of, moment_in, moments_of}
use Rattle.plan_laws.proofs.PlanTimes.{changes_more}
use Rattle.replay_rules.specs.Planned.{IsPlanned}
use Rattle.replay_ticks.specs.declared.run_timing.RunTiming.{RunTiming}
use Rattle.replay_ticks.specs.Replays.{IsAhead, IsReady, IsToGo, moments_after}

-- ---- times of ticks

-- Each tick of a trace is at or before the end of the trace.
within_end : (length end n : ℕ) → 0 < length → n ≤ end / length → n * length ≤ end
within_end length end n some few = (le-div_iff_mul-le some).0 few

-- The time of each tick of a trace is at most the latest possible time.
pub moment_early : (plans : PlansView) (trace : Trace) (timing : Timing) (n : ℕ) → IsPlanned plans trace timing → n ≤ tick_count trace timing → tick_moment timing.length n ≤ last_moment
moment_early plans trace timing n planned few =
    let before = within_end timing.length (end_of trace.events) n planned.some few in
    let world = legal_after (limits_of timing.length trace.cpus) trace.events planned.accepted.legal in
    omega (arith, before, world.early, planned.short)

-- If the worker pool's ticks start with a tick of the trace, their times are times of the trace's
-- ticks.
pub moments_are : (ticks : Ticks) (length i n : ℕ) → ticks.first ≡ tick_moment length (i + 1) → ticks.length ≡ length → ticks.count ≡ n → moments_of ticks ≡ moments_after length i n
moments_are ticks length i n first apart many =
    let all = moments_after length i n in
    ap (λ k. map (moment_in ticks) (range_with_len 0 k)) many
    ∙ sym (fill_by_all (moment_in ticks) all n 0 (length-map-range_with_len (tick_moment length) (i + 1) n)
    (λ k below.
    let far : (i + 1 + k) * length ≡ (i + 1) * length + k * length = grind arith in
    get_or-map-range_with_len (tick_moment length) (i + 1) n k (i + 1 + k) 0 below refl ∙ far ∙ rw (← first, ← apart) refl))

-- Computes the time of the last of these ticks.
pub last_is : (ticks : Ticks) (length i n : ℕ) → 0 < n → ticks.first ≡ tick_moment length (i + 1) → ticks.length ≡ length → ticks.count ≡ n → last_of ticks ≡ tick_moment length (i + n)
last_is ticks length i n some first apart many =
    let here : (i + 1) * length + (n - 1) * length ≡ (i + n) * length =
    let sum : (i + 1) * length + (n - 1) * length ≡ (i + 1 + (n - 1)) * length = grind arith in
    let same : i + 1 + (n - 1) ≡ i + n = omega (arith, some) in
    sum ∙ ap (λ k. k * length) same in
    rw (first, apart, many) here

-- Computes the time of the first of these ticks.
first_of : (length i n : ℕ) → 0 < n → slice_get (moments_after length i n) 0 ≡ Some (tick_moment length (i + 1))
first_of length i n some =
    let many = length-map-range_with_len (tick_moment length) (i + 1) n in
    slice_get-get_or (moments_after length i n) 0 0 (omega (arith, many, some)) ∙ ap Some (get_or-map-range_with_len (tick_moment length) (i + 1) n 0 (i + 1) 0 some (omega arith))

after_the_first : (length i n : ℕ) → drop 1 (moments_after length i n) ≡ moments_after length (i + 1) (n - 1)
after_the_first length i zero = refl
after_the_first length i (suc n) = ap (moments_after length (i + 1)) (let same : n ≡ suc n - 1 = omega arith in same)

-- ---- clocks

pub not_past_later : (plans : PlansView) (clocks : List OnPlan) (at later : ℕ) → at ≤ later → AreNotPast plans clocks at → AreNotPast plans clocks later
not_past_later plans clocks at later forward not_past = record {
  on_plans = not_past.on_plans;
  not_past = λ cpu below.
      let made = not_past.not_past cpu below in
      let more = changes_more (plan_at plans cpu) at later forward in
      omega (arith, made, more);
}

at_is_not_past : (plans : PlansView) (clocks : List OnPlan) (at : ℕ) → AreAt plans clocks at → AreNotPast plans clocks at
at_is_not_past plans clocks at there = record {
  on_plans = there.on_plans;
  not_past = λ cpu below. let made = there.there cpu below in omega (arith, made);
}

-- ---- advancing by several ticks

-- The ticks by which the worker pool must advance after tick `i`: all remaining ticks, but at most
-- the number for which it has room.
pub record AreNext (ticks : Ticks) (crew : CrewView) (run_timing : RunTiming) (i : ℕ) : Type 0 where
  pub first : ticks.first ≡ tick_moment run_timing.length (i + 1)
  pub length : ticks.length ≡ run_timing.length
  pub count : ticks.count ≡ min (run_timing.last - i) crew.room

next_many : (ticks : Ticks) (plans : PlansView) (crew : CrewView) (run_timing : RunTiming) (trace : Trace) (timing : Timing) (i : ℕ) → IsToGo plans crew run_timing trace timing i → AreNext ticks crew run_timing i → i + ticks.count ≤ tick_count trace timing
next_many ticks plans crew run_timing trace timing i is next =
    let last = is.paced.last in
    let left = is.left in
    let count = next.count in
    grind (arith, last, left, count)

first_next : (ticks : Ticks) (plans : PlansView) (crew : CrewView) (run_timing : RunTiming) (trace : Trace) (timing : Timing) (i : ℕ) → IsToGo plans crew run_timing trace timing i → AreNext ticks crew run_timing i → ticks.first ≡ tick_moment timing.length (i + 1)
first_next ticks plans crew run_timing trace timing i is next = next.first ∙ ap (λ l. tick_moment l (i + 1)) is.paced.length

-- The time of the first of these ticks fits in 64 bits.
pub next_fits : (plans : PlansView) (crew : CrewView) (run_timing : RunTiming) (trace : Trace) (timing : Timing) (i : ℕ) → IsToGo plans crew run_timing trace timing i → tick_moment run_timing.length (i + 1) < 2 ^ 64
next_fits plans crew run_timing trace timing i is =
    let left = is.left in
    let early = moment_early plans trace timing (i + 1) is.planned (omega (arith, left)) in
    let same = ap (λ l. tick_moment l (i + 1)) is.paced.length in
    omega (arith, early, same)

-- There is at least one such tick.
pub next_some : (ticks : Ticks) (plans : PlansView) (crew : CrewView) (run_timing : RunTiming) (trace : Trace) (timing : Timing) (i : ℕ) → IsToGo plans crew run_timing trace timing i → 1 ≤ crew.room → AreNext ticks crew run_timing i → 0 < ticks.count
next_some ticks plans crew run_timing trace timing i is roomy next =
    let last = is.paced.last in
    let left = is.left in
    let count = next.count in
    grind (arith, last, left, count, roomy)

-- If no table is ready, no processor has made a change later than the first of these ticks.
pub next_following : (ticks : Ticks) (plans : PlansView) (crew : CrewView) (run_timing : RunTiming) (trace : Trace) (timing : Timing) (i : ℕ) → IsToGo plans crew run_timing trace timing i → length crew.ready ≡ 0 → AreNext ticks crew run_timing i → AreNotPast crew.plans crew.clocks ticks.first
next_following ticks plans crew run_timing trace timing i is none next =
    let first = first_next ticks plans crew run_timing trace timing i is next in
    let here : i + length crew.ready ≡ i = omega (arith, none) in
    let apart : tick_moment timing.length (i + 1) ≡ tick_moment timing.length i + timing.length = grind arith in
    let not_past = subst (λ n. AreNotPast plans crew.clocks (tick_moment timing.length n)) here is.ahead.not_past in
    subst (λ p. AreNotPast p crew.clocks ticks.first) (sym is.ahead.same)
    (not_past_later plans crew.clocks (tick_moment timing.length i) ticks.first (omega (arith, first, apart)) not_past)

-- The time of the last of these ticks is at most the latest possible time.
pub next_early : (ticks : Ticks) (plans : PlansView) (crew : CrewView) (run_timing : RunTiming) (trace : Trace) (timing : Timing) (i : ℕ) → IsToGo plans crew run_timing trace timing i → 1 ≤ crew.room → AreNext ticks crew run_timing i → last_of ticks ≤ last_moment
next_early ticks plans crew run_timing trace timing i is roomy next =
    let some = next_some ticks plans crew run_timing trace timing i is roomy next in
    let last = last_is ticks timing.length i ticks.count some (first_next ticks plans crew run_timing trace timing i is next) (next.length ∙ is.paced.length) refl in
    let early = moment_early plans trace timing (i + ticks.count) is.planned (next_many ticks plans crew run_timing trace timing i is next) in
    omega (arith, last, early)

-- After the worker pool has advanced by these ticks, the table of the next tick is ready.
pub next_ready : (ticks : Ticks) (plans : PlansView) (crew new : CrewView) (run_timing : RunTiming) (trace : Trace) (timing : Timing) (i : ℕ) → IsToGo plans crew run_timing trace timing i → 1 ≤ crew.room → AreNext ticks crew run_timing i → new.plans ≡ crew.plans → new.ready ≡ moments_of ticks → AreAt new.plans new.clocks (last_of ticks)
    → IsReady plans new trace timing i
next_ready ticks plans crew new run_timing trace timing i is roomy next same ready there =
    let some = next_some ticks plans crew run_timing trace timing i is roomy next in
    let first = first_next ticks plans crew run_timing trace timing i is next in
    let apart = next.length ∙ is.paced.length in
    let last = last_is ticks timing.length i ticks.count some first apart refl in
    let moments = ready ∙ moments_are ticks timing.length i ticks.count first apart refl in
    let many : length new.ready ≡ ticks.count = ap length moments ∙ length-map-range_with_len (tick_moment timing.length) (i + 1) ticks.count in
    let own : new.plans ≡ plans = same ∙ is.ahead.same in
    let here = at_is_not_past plans new.clocks (last_of ticks) (subst (λ p. AreAt p new.clocks (last_of ticks)) own there) in
    let end : last_of ticks ≡ tick_moment timing.length (i + length new.ready) = last ∙ ap (λ n. tick_moment timing.length (i + n)) (sym many) in
    record {
      ahead = record {
        same = own;
        ready = moments ∙ ap (moments_after timing.length i) (sym many);
        within = omega (arith, many, next_many ticks plans crew run_timing trace timing i is next);
        not_past = subst (AreNotPast plans new.clocks) end here;
      };
      some = omega (arith, many, some);
    }

-- ---- advancing to the next tick alone

-- The time of the next tick is at most the latest possible time.
pub tick_early : (plans : PlansView) (crew : CrewView) (run_timing : RunTiming) (trace : Trace) (timing : Timing) (i at : ℕ) → IsToGo plans crew run_timing trace timing i → at ≡ tick_moment run_timing.length (i + 1) → at ≤ last_moment
tick_early plans crew run_timing trace timing i at is moment =
    let left = is.left in
    let early = moment_early plans trace timing (i + 1) is.planned (omega (arith, left)) in
    let same = ap (λ l. tick_moment l (i + 1)) is.paced.length in
    omega (arith, early, same, moment)

-- If no table is ready, no processor has made a change later than the next tick.
pub tick_after : (plans : PlansView) (crew : CrewView) (run_timing : RunTiming) (trace : Trace) (timing : Timing) (i at : ℕ) → IsToGo plans crew run_timing trace timing i → length crew.ready ≡ 0 → at ≡ tick_moment run_timing.length (i + 1) → AreNotPast crew.plans crew.clocks at
tick_after plans crew run_timing trace timing i at is none moment =
    let here : i + length crew.ready ≡ i = omega (arith, none) in
    let same : at ≡ tick_moment timing.length (i + 1) = moment ∙ ap (λ l. tick_moment l (i + 1)) is.paced.length in
    let apart : tick_moment timing.length (i + 1) ≡ tick_moment timing.length i + timing.length = grind arith in
    let not_past = subst (λ n. AreNotPast plans crew.clocks (tick_moment timing.length n)) here is.ahead.not_past in
    subst (λ p. AreNotPast p crew.clocks at) (sym is.ahead.same)
    (not_past_later plans crew.clocks (tick_moment timing.length i) at (omega (arith, same, apart)) not_past)

-- After the worker pool has advanced to the next tick, the table of that tick is ready.
pub tick_ready : (plans : PlansView) (crew new : CrewView) (run_timing : RunTiming) (trace : Trace) (timing : Timing) (i at : ℕ) → IsToGo plans crew run_timing trace timing i → at ≡ tick_moment run_timing.length (i + 1) → new.plans ≡ crew.plans → new.ready ≡ at ∷ [] → AreAt new.plans new.clocks at
    → IsReady plans new trace timing i
tick_ready plans crew new run_timing trace timing i at is moment same ready there =
    let left = is.left in
    let here : at ≡ tick_moment timing.length (i + 1) = moment ∙ ap (λ l. tick_moment l (i + 1)) is.paced.length in
    let many : length new.ready ≡ 1 = ap length ready in
    let own : new.plans ≡ plans = same ∙ is.ahead.same in
    let next : i + 1 ≡ i + length new.ready = omega (arith, many) in
    record {
      ahead = record {
        same = own;
        ready = ready ∙ ap (λ m. m ∷ []) here ∙ ap (moments_after timing.length i) (sym many);
        within = omega (arith, many, left);
        not_past = subst (AreNotPast plans new.clocks) (here ∙ ap (tick_moment timing.length) next) (at_is_not_past plans new.clocks at (subst (λ p. AreAt p new.clocks at) own there));
      };
      some = omega (arith, many);
    }

-- ---- one table

-- The first ready table is the table of the next tick.
pub first_is : (plans : PlansView) (crew : CrewView) (trace : Trace) (timing : Timing) (i at : ℕ) → IsReady plans crew trace timing i → at ≡ tick_moment timing.length (i + 1) → slice_get crew.ready 0 ≡ Some at
first_is plans crew trace timing i at is moment =
    ap (λ moments. slice_get moments 0) is.ahead.ready ∙ first_of timing.length i (length crew.ready) is.some ∙ ap Some (sym moment)

-- After the worker pool has returned the table of the next tick, it is ahead for the following
-- ticks.
pub handed_out : (plans : PlansView) (crew new : CrewView) (trace : Trace) (timing : Timing) (i : ℕ) → IsReady plans crew trace timing i → new ≡ record crew { ready = drop 1 crew.ready } → IsAhead plans new trace timing (i + 1)
handed_out plans crew new trace timing i is same =
    let left : drop 1 crew.ready ≡ moments_after timing.length (i + 1) (length crew.ready - 1) = ap (drop 1) is.ahead.ready ∙ after_the_first timing.length i (length crew.ready) in
    let many : length (drop 1 crew.ready) ≡ length crew.ready - 1 = length-drop 1 crew.ready in
    let some = is.some in
    let within = is.ahead.within in
    let far : i + length crew.ready ≡ i + 1 + length (drop 1 crew.ready) = omega (arith, many, some) in
    subst (λ (c : CrewView). IsAhead plans c trace timing (i + 1)) (sym same)
    (record {
      same = is.ahead.same;
      ready = left ∙ ap (moments_after timing.length (i + 1)) (sym many);
      within = omega (arith, far, within);
      not_past = subst (λ n. AreNotPast plans crew.clocks (tick_moment timing.length n)) far is.ahead.not_past;
    })
