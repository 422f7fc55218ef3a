-- Proves that the lines of the worker pool's samples are valid `live` lines of the tick.
use Rattle.std.proofs.Common.{◌≡◌, ℕ, zero, suc, ◌+◌, ◌-◌, ◌<◌, ◌≤◌, List, [], ◌∷◌, ◌++◌, length, get_or, refl, sym, ap, ◌∙◌, subst, arith, Option, None, Some}
use Rattle.std.specs.Prelude.{nat_le}
use Rattle.std.specs.List.{All, flat_map, range_with_len}
use Rattle.std.proofs.lemmas.List.{length-drop}
use Rattle.std.proofs.lemmas.List.Sums.{count_by-le-length, length-filter}
use Rattle.psi_base.specs.declared.event.Slot.{Slot}
use Rattle.psi_spec.specs.Changes.{RiseWithin, changes_of, count_at, times_after}
use Rattle.psi_spec.specs.declared.machine.GroupLife.{GroupLife}
use Rattle.psi_spec.specs.Stall.{number_of_slot}
use Rattle.psi_spec.specs.Trace.{Trace, limits_of}
use Rattle.psi_spec.specs.Within.{last_moment}
use Rattle.psi_counts.specs.declared.changes.Change.{Change}
use Rattle.psi_counts.specs.Clock.{ClockView, IsInTime, opened}
use Rattle.plan_laws.specs.Plan.{AreInOrder, IsClock, IsPlan, PlanView, changes_up_to, last_change, plan_of}
use Rattle.plan_laws.proofs.PlanClocks.{clock_is_in_time, clock_shows_planned}
use Rattle.plan_laws.proofs.PlanLaws.{changes_are_numbered}
use Rattle.plan_laws.proofs.PlanPlanned.{planned_after}
use Rattle.plan_laws.proofs.PlanUpTo.{counts_by_plan}
use Rattle.pressure_spec.specs.Ticks.{tick_moment}
use Rattle.run_spec.specs.Lines.{live_line}
use Rattle.run_spec.specs.Live.{AreCounts, IsLiveOf, IsLiveText, LiveWatch, changes_until, live_lines, live_slot_at, sample_lines}
use Rattle.run_spec.specs.Replay.{Timing, tick_count}
use Rattle.run_laws.specs.Live.{live_slot}
use Rattle.run_laws.proofs.LiveSlots.{slot_by_lives}
use Rattle.proc_plan.specs.Plans.{PlansView, plan_at}
use Rattle.proc_plan.proofs.Finishing.{standing_plans}
use Rattle.clock_row.specs.declared.reader.Sample.{Sample}
use Rattle.replay_workers.specs.Crew.{AreAt, AreSampled, CrewView, IsSampled, WatchView, clocks_at, counts_sampled, watch_at}
use Rattle.replay_rules.specs.Planned.{IsPlanned}
use Rattle.replay_ticks.specs.declared.run_timing.RunTiming.{RunTiming}
use Rattle.replay_ticks.specs.Replays.{AreIdle, AreInTime, GoesByTick, IsLiveTick, IsPaced, IsReached, IsSlotAt, IsWatching, requested_by, watched_path, handed, samples_text, watched_at, watches_text}

-- ---- numbers that never decrease

-- The lower bound of rising numbers is at most their upper bound.
rise_ends : (low high : ℕ) (numbers : List ℕ) → RiseWithin low numbers high → low ≤ high
rise_ends low high [] rise = rise
rise_ends low high (number ∷ numbers) rise =
    let first = rise.0 in
    let rest = rise_ends number high numbers rise.1 in
    omega (arith, first, rest)

-- Equal bounds can be exchanged.
rise_between : (low high down up : ℕ) (numbers : List ℕ) → low ≡ down → high ≡ up → RiseWithin low numbers high → RiseWithin down numbers up
rise_between low high down up numbers from to rise = subst (λ n. RiseWithin down numbers n) to (subst (λ n. RiseWithin n numbers high) from rise)

-- ---- times of changes

-- The times of a plan's changes never decrease.
rises : (plan : PlanView) → AreInOrder plan → (k n : ℕ) → k + n ≤ length plan.changes → last_change plan k ≤ last_change plan (k + n)
rises plan order k zero within =
    let same : k ≡ k + 0 = omega arith in
    subst (λ m. last_change plan k ≤ last_change plan m) same (omega arith)
rises plan order k (suc n) within =
    let before = rises plan order k n (omega (arith, within)) in
    let one = order (k + n) (omega (arith, within)) in
    let same : k + n + 1 ≡ k + suc n = omega arith in
    subst (λ m. last_change plan k ≤ last_change plan m) same (omega (arith, before, one))

-- If a change is at or before time `at`, each earlier change is at or before `at`.
early_enough : (plan : PlanView) (k last at : ℕ) → AreInOrder plan → k ≤ last → last ≤ length plan.changes → last_change plan last ≤ at → last_change plan k ≤ at
early_enough plan k last at order low within past =
    let same : k + (last - k) ≡ last = omega (arith, low) in
    let far = rises plan order k (last - k) (omega (arith, low, within)) in
    let there : last_change plan (k + (last - k)) ≡ last_change plan last = ap (last_change plan) same in
    omega (arith, far, there, past)

-- ---- one sample

-- Advancing a clock after some changes of a trace gives the times after these changes.
sample_times : (plans : PlansView) (trace : Trace) (timing : Timing) (clock : ClockView) (slot cpu k at : ℕ) → IsPlanned plans trace timing → cpu < trace.cpus → IsClock clock (plan_at plans cpu) slot k → last_change (plan_at plans cpu) k ≤ at
    → opened clock at ≡ times_after cpu slot trace.events k at
sample_times plans trace timing clock slot cpu k at planned below is past =
    let plan_is = standing_plans plans trace.cpus trace.events planned.represents cpu below in
    let own : IsClock clock (plan_of cpu trace.events) slot k = subst (λ plan. IsClock clock plan slot k) plan_is is in
    let there : last_change (plan_of cpu trace.events) k ≤ at = subst (λ plan. last_change plan k ≤ at) plan_is past in
    let many = (changes_are_numbered cpu trace.events).2 in
    let within : k ≤ length (changes_of cpu trace.events) = omega (arith, own.within, many) in
    clock_shows_planned clock (plan_of cpu trace.events) slot k at own there
    ∙ planned_after (limits_of timing.length trace.cpus) trace.events planned.accepted.legal cpu slot k at within there

-- The samples of a processor were taken while it made the changes of its plan up to a time.
pub record AreBeside (plans : PlansView) (slot cpu low high at : ℕ) (samples : List Sample) : Type 0 where
  pub clocks : All (λ (sample : Sample). IsClock sample.clock (plan_at plans cpu) slot sample.count) samples
  pub rise : RiseWithin low (counts_sampled samples) high
  pub whole : IsPlan (plan_at plans cpu)
  pub within : high ≤ length (plan_at plans cpu).changes
  pub past : last_change (plan_at plans cpu) high ≤ at

beside_rest : (plans : PlansView) (slot cpu low high at : ℕ) (sample : Sample) (samples : List Sample) → AreBeside plans slot cpu low high at (sample ∷ samples) → AreBeside plans slot cpu sample.count high at samples
beside_rest plans slot cpu low high at sample samples are = record {
  clocks = λ k d below. are.clocks (suc k) d (omega (arith, below));
  rise = are.rise.1;
  whole = are.whole;
  within = are.within;
  past = are.past;
}

-- The first of these samples includes only changes up to that time.
first_past : (plans : PlansView) (slot cpu low high at : ℕ) (sample : Sample) (samples : List Sample) → AreBeside plans slot cpu low high at (sample ∷ samples) → last_change (plan_at plans cpu) sample.count ≤ at
first_past plans slot cpu low high at sample samples are =
    early_enough (plan_at plans cpu) sample.count high at are.whole.order (rise_ends sample.count high (counts_sampled samples) are.rise.1) are.within are.past

-- The lines of these samples are the lines for their numbers of changes.
sampled_text : (plans : PlansView) (trace : Trace) (timing : Timing) (slot cpu low high at : ℕ) (samples : List Sample) → IsPlanned plans trace timing → cpu < trace.cpus → AreBeside plans slot cpu low high at samples
    → samples_text at cpu samples ≡ sample_lines trace slot at cpu (counts_sampled samples)
sampled_text plans trace timing slot cpu low high at [] planned below are = refl
sampled_text plans trace timing slot cpu low high at (sample ∷ samples) planned below are =
    let past = first_past plans slot cpu low high at sample samples are in
    let times = sample_times plans trace timing sample.clock slot cpu sample.count at planned below (are.clocks zero sample (omega arith)) past in
    let rest = sampled_text plans trace timing slot cpu sample.count high at samples planned below (beside_rest plans slot cpu low high at sample samples are) in
    ap (λ seven. live_line at cpu sample.count seven ++ samples_text at cpu samples) times
    ∙ ap (λ text. live_line at cpu sample.count (times_after cpu slot trace.events sample.count at) ++ text) rest

-- If the first clock and all other clocks can be advanced to `at`, all clocks in the list can.
in_time_cons : (at : ℕ) (sample : Sample) (samples : List Sample) → IsInTime sample.clock at → All (λ (sample : Sample). IsInTime sample.clock at) samples → All (λ (sample : Sample). IsInTime sample.clock at) (sample ∷ samples)
in_time_cons at sample samples first rest = λ k d below. by_place k d below
  where
    by_place : (k : ℕ) (d : Sample) → k < length (sample ∷ samples) → IsInTime (get_or (sample ∷ samples) k d).clock at
    by_place zero d below = first
    by_place (suc k) d below = rest k d (omega (arith, below))

-- The clocks of these samples can be advanced to that time.
sampled_in_time : (plans : PlansView) (slot cpu low high at : ℕ) (samples : List Sample) → at ≤ last_moment → AreBeside plans slot cpu low high at samples → All (λ (sample : Sample). IsInTime sample.clock at) samples
sampled_in_time plans slot cpu low high at [] early are = λ k d below. absurd (omega (arith, below))
sampled_in_time plans slot cpu low high at (sample ∷ samples) early are =
    in_time_cons at sample samples
    (clock_is_in_time sample.clock (plan_at plans cpu) slot sample.count at are.whole (are.clocks zero sample (omega arith)) (first_past plans slot cpu low high at sample samples are) early)
    (sampled_in_time plans slot cpu sample.count high at samples early (beside_rest plans slot cpu low high at sample samples are))

-- ---- all processors

-- The number of changes up to a time is at most the number of all changes.
up_to_within : (plan : PlanView) (at : ℕ) → changes_up_to plan at ≤ length plan.changes
up_to_within plan at =
    let passed = length-filter (λ (change : Change). nat_le change.at at) plan.changes in
    let most = count_by-le-length (λ (change : Change). nat_le change.at at) plan.changes in
    omega (arith, passed, most)

-- The samples of a processor were taken while it made its changes up to the reached tick.
beside_cpu : (plans : PlansView) (old new : CrewView) (slot cpu requested low at : ℕ) → IsSampled (plan_at plans cpu) slot requested low (clocks_at new.clocks cpu).made (watch_at old.watches cpu) (watch_at new.watches cpu) → AreAt plans new.clocks at → cpu < length new.clocks
    → AreBeside plans slot cpu low (clocks_at new.clocks cpu).made at (watch_at new.watches cpu).samples
beside_cpu plans old new slot cpu requested low at is there below =
    let plan = plan_at plans cpu in
    let made = there.there cpu below in
    record {
      clocks = is.clocks;
      rise = is.rise;
      whole = there.on_plans.whole cpu below;
      within = subst (λ k. k ≤ length plan.changes) (sym made) (up_to_within plan at);
      past = subst (λ k. last_change plan k ≤ at) (sym made) (there.past cpu below);
    }

-- Two functions that agree on a range give the same concatenated text.
same_pieces : (f g : ℕ → List ℕ) (from count : ℕ) → ((i : ℕ) → from ≤ i → i < from + count → f i ≡ g i) → flat_map f (range_with_len from count) ≡ flat_map g (range_with_len from count)
same_pieces f g from zero same = refl
same_pieces f g from (suc count) same =
    ap (λ text. text ++ flat_map f (range_with_len (from + 1) count)) (same from (omega arith) (omega arith))
    ∙ ap (λ text. g from ++ text) (same_pieces f g (from + 1) count (λ i low high. same i (omega (arith, low)) (omega (arith, high))))

-- A function that is empty on a range gives an empty text.
no_pieces : (f : ℕ → List ℕ) (from count : ℕ) → ((i : ℕ) → f i ≡ []) → flat_map f (range_with_len from count) ≡ []
no_pieces f from zero none = refl
no_pieces f from (suc count) none = ap (λ text. text ++ flat_map f (range_with_len (from + 1) count)) (none from) ∙ no_pieces f (from + 1) count none

-- ---- a slot is watched

-- The worker pool has advanced to tick i + 1, at which a slot is watched.
pub record HasReached (plans : PlansView) (old new : CrewView) (trace : Trace) (timing : Timing) (i at : ℕ) : Type 0 where
  pub planned : IsPlanned plans trace timing
  pub left : i < tick_count trace timing
  pub same : old.plans ≡ plans
  pub at_is : at ≡ tick_moment timing.length (i + 1)
  pub there : AreAt plans new.clocks at
  pub ready : new.ready ≡ at ∷ []
  pub requested : new.requested ≡ old.requested

-- A processor has made exactly its changes up to the tick.
made_now : (plans : PlansView) (old new : CrewView) (trace : Trace) (timing : Timing) (i at cpu : ℕ) → HasReached plans old new trace timing i at → cpu < trace.cpus → (clocks_at new.clocks cpu).made ≡ changes_until trace timing.length cpu (i + 1)
made_now plans old new trace timing i at cpu is below =
    let inside : cpu < length new.clocks = omega (arith, below, is.planned.represents.each, is.there.on_plans.each) in
    let next : i + 1 ≡ suc i = omega arith in
    let plan_is = standing_plans plans trace.cpus trace.events is.planned.represents cpu below in
    let count = (counts_by_plan (limits_of timing.length trace.cpus) trace.events is.planned.accepted.legal cpu at).0 in
    let here : count_at cpu trace.events at ≡ changes_until trace timing.length cpu (i + 1) =
    ap (count_at cpu trace.events) (is.at_is ∙ ap (tick_moment timing.length) next) ∙ ap (changes_until trace timing.length cpu) (sym next) in
    is.there.there cpu inside ∙ ap (λ plan. changes_up_to plan at) plan_is ∙ sym count ∙ here

length-counts : (samples : List Sample) → length (counts_sampled samples) ≡ length samples
length-counts [] = refl
length-counts (sample ∷ samples) = ap (λ n. suc n) (length-counts samples)

-- The samples of a slot at a tick have valid numbers of changes.
counts_allowed : (plans : PlansView) (old new : CrewView) (trace : Trace) (timing : Timing) (i at slot cpu requested : ℕ) → HasReached plans old new trace timing i at → cpu < trace.cpus →
    (clocks_at old.clocks cpu).made ≡ changes_until trace timing.length cpu i →
    IsSampled (plan_at plans cpu) slot requested (clocks_at old.clocks cpu).made (clocks_at new.clocks cpu).made (watch_at old.watches cpu) (watch_at new.watches cpu) →
    AreCounts trace timing.length (i + 1) cpu requested (counts_sampled (watch_at new.watches cpu).samples)
counts_allowed plans old new trace timing i at slot cpu requested is below before sampled =
    let back : i ≡ i + 1 - 1 = omega arith in
    record {
      many = length-counts (watch_at new.watches cpu).samples ∙ sampled.many;
      rise = rise_between (clocks_at old.clocks cpu).made (clocks_at new.clocks cpu).made (changes_until trace timing.length cpu (i + 1 - 1)) (changes_until trace timing.length cpu (i + 1)) (counts_sampled (watch_at new.watches cpu).samples) (before ∙ ap (changes_until trace timing.length cpu) back) (made_now plans old new trace timing i at cpu is below) sampled.rise;
    }

-- The lines of these samples are valid `live` lines of the slot.
slot_lines : (plans : PlansView) (old new : CrewView) (trace : Trace) (timing : Timing) (watch : LiveWatch) (i at : ℕ) (slot : Slot) → HasReached plans old new trace timing i at → GoesByTick (Some watch) 0 old trace timing.length i → old.requested ≡ watch.count → AreSampled (Some slot) old new →
    IsLiveOf trace timing.length (i + 1) watch.count (Some slot.0) (watches_text (tick_moment timing.length (i + 1)) trace.cpus new.watches)
slot_lines plans old new trace timing watch i at slot is by_tick requested sampled =
    let own : (cpu : ℕ) → cpu < trace.cpus → IsSampled (plan_at plans cpu) slot.0 watch.count (clocks_at old.clocks cpu).made (clocks_at new.clocks cpu).made (watch_at old.watches cpu) (watch_at new.watches cpu) = λ cpu below.
    subst (λ n. IsSampled (plan_at plans cpu) slot.0 n (clocks_at old.clocks cpu).made (clocks_at new.clocks cpu).made (watch_at old.watches cpu) (watch_at new.watches cpu)) requested
    (subst (λ (p : PlansView). IsSampled (plan_at p cpu) slot.0 old.requested (clocks_at old.clocks cpu).made (clocks_at new.clocks cpu).made (watch_at old.watches cpu) (watch_at new.watches cpu)) is.same
    (sampled cpu (let each = ap (λ (p : PlansView). length p.plans) is.same in omega (arith, below, each, is.planned.represents.each)))) in
    let counts : ℕ → List ℕ = λ cpu. counts_sampled (watch_at new.watches cpu).samples in
    let text = same_pieces (λ cpu. samples_text at cpu (watch_at new.watches cpu).samples) (λ cpu. sample_lines trace slot.0 at cpu (counts cpu)) 0 trace.cpus
    (λ cpu _ below.
    let inside : cpu < length new.clocks = omega (arith, below, is.planned.represents.each, is.there.on_plans.each) in
    let there : cpu < trace.cpus = omega (arith, below) in
    sampled_text plans trace timing slot.0 cpu (clocks_at old.clocks cpu).made (clocks_at new.clocks cpu).made at (watch_at new.watches cpu).samples is.planned there (beside_cpu plans old new slot.0 cpu watch.count (clocks_at old.clocks cpu).made at (own cpu there) is.there inside)) in (
      counts,
      λ cpu below. counts_allowed plans old new trace timing i at slot.0 cpu watch.count is below (by_tick.1 cpu below) (own cpu below),
      subst (λ m. watches_text m trace.cpus new.watches ≡ live_lines trace slot.0 m counts) is.at_is text,
    )

-- The clocks of these samples can be advanced to the tick.
slot_in_time : (plans : PlansView) (old new : CrewView) (trace : Trace) (timing : Timing) (i at : ℕ) (slot : Slot) → HasReached plans old new trace timing i at → at ≤ last_moment → AreSampled (Some slot) old new → AreInTime trace.cpus new.watches at
slot_in_time plans old new trace timing i at slot is early sampled = λ cpu below.
    let inside : cpu < length new.clocks = omega (arith, below, is.planned.represents.each, is.there.on_plans.each) in
    let own = subst (λ (p : PlansView). IsSampled (plan_at p cpu) slot.0 old.requested (clocks_at old.clocks cpu).made (clocks_at new.clocks cpu).made (watch_at old.watches cpu) (watch_at new.watches cpu)) is.same
    (sampled cpu (let each = ap (λ (p : PlansView). length p.plans) is.same in omega (arith, below, each, is.planned.represents.each))) in
    sampled_in_time plans slot.0 cpu (clocks_at old.clocks cpu).made (clocks_at new.clocks cpu).made at (watch_at new.watches cpu).samples early (beside_cpu plans old new slot.0 cpu old.requested (clocks_at old.clocks cpu).made at own is.there inside)

-- ---- nothing is watched

-- Without samples there are no lines.
pub idle_text : (watches : List WatchView) (at cpus : ℕ) → AreIdle watches → watches_text at cpus watches ≡ []
idle_text watches at cpus idle = no_pieces (λ cpu. samples_text at cpu (watch_at watches cpu).samples) 0 cpus (λ cpu. ap (samples_text at cpu) (idle cpu))

no_samples : (samples : List Sample) (at : ℕ) → samples ≡ [] → All (λ (sample : Sample). IsInTime sample.clock at) samples
no_samples samples at none = λ k d below. absurd (let no = ap length none in omega (arith, below, no))

pub idle_in_time : (watches : List WatchView) (at cpus : ℕ) → AreIdle watches → AreInTime cpus watches at
idle_in_time watches at cpus idle = λ cpu below. no_samples (watch_at watches cpu).samples at (idle cpu)

-- ---- the tick

-- A worker pool that advanced without a watched path satisfies `IsReached`.
pub reached_unwatched : (slot : Option Slot) (old new : CrewView) (trace : Trace) (timing : Timing) (i : ℕ) → timing.watch ≡ None → AreIdle new.watches → new.requested ≡ old.requested → IsReached slot old new trace timing i
reached_unwatched slot old new trace timing i none idle requested = record {
  live = λ _. record {
    watched = None;
    slot = rw none refl;
    sampled = idle;
    text = subst (λ watch. IsLiveText trace timing.length watch (i + 1) (watches_text (tick_moment timing.length (i + 1)) trace.cpus new.watches)) (sym none) (idle_text new.watches (tick_moment timing.length (i + 1)) trace.cpus idle);
    in_time = idle_in_time new.watches (tick_moment timing.length (i + 1)) trace.cpus idle;
  };
  requested = requested;
  by_tick = subst (λ watch. GoesByTick watch 1 new trace timing.length (i + 1)) (sym none) idle;
}

-- The lines of the samples are valid `live` lines, whether or not a live group has the watched
-- path.
lines_of : (plans : PlansView) (old new : CrewView) (trace : Trace) (timing : Timing) (watch : LiveWatch) (i at : ℕ) (slot : Option Slot) → HasReached plans old new trace timing i at → GoesByTick (Some watch) 0 old trace timing.length i → old.requested ≡ watch.count → AreSampled slot old new →
    IsLiveOf trace timing.length (i + 1) watch.count (number_of_slot slot) (watches_text (tick_moment timing.length (i + 1)) trace.cpus new.watches)
lines_of plans old new trace timing watch i at None is by_tick requested sampled = idle_text new.watches (tick_moment timing.length (i + 1)) trace.cpus sampled
lines_of plans old new trace timing watch i at (Some slot) is by_tick requested sampled = slot_lines plans old new trace timing watch i at slot is by_tick requested sampled

times_of : (plans : PlansView) (old new : CrewView) (trace : Trace) (timing : Timing) (i at : ℕ) (slot : Option Slot) → HasReached plans old new trace timing i at → at ≤ last_moment → AreSampled slot old new → AreInTime trace.cpus new.watches at
times_of plans old new trace timing i at None is early sampled = idle_in_time new.watches at trace.cpus sampled
times_of plans old new trace timing i at (Some slot) is early sampled = slot_in_time plans old new trace timing i at slot is early sampled

-- The samples of the watched slot are valid `live` samples of the tick.
live_tick : (plans : PlansView) (old new : CrewView) (trace : Trace) (timing : Timing) (watch : LiveWatch) (i at : ℕ) (slot : Option Slot) → timing.watch ≡ Some watch → HasReached plans old new trace timing i at → at ≤ last_moment →
    GoesByTick (Some watch) 0 old trace timing.length i → old.requested ≡ watch.count → AreSampled slot old new → IsSlotAt slot trace timing (i + 1) → IsLiveTick old new trace timing (i + 1)
live_tick plans old new trace timing watch i at slot watches is early by_tick requested sampled found =
    let here : number_of_slot slot ≡ live_slot_at trace.events watch.path (tick_moment timing.length (i + 1)) = found ∙ ap (λ w. watched_at trace (watched_path w) (tick_moment timing.length (i + 1))) watches in
    let lines = subst (λ s. IsLiveOf trace timing.length (i + 1) watch.count s (watches_text (tick_moment timing.length (i + 1)) trace.cpus new.watches)) here (lines_of plans old new trace timing watch i at slot is by_tick requested sampled) in
    record {
      watched = slot;
      slot = found;
      sampled = sampled;
      text = subst (λ w. IsLiveText trace timing.length w (i + 1) (watches_text (tick_moment timing.length (i + 1)) trace.cpus new.watches)) (sym watches) lines;
      in_time = subst (AreInTime trace.cpus new.watches) is.at_is (times_of plans old new trace timing i at slot is early sampled);
    }

-- A worker pool that advanced to the tick with a watched path satisfies `IsReached`.
pub reached_watched : (plans : PlansView) (old new : CrewView) (trace : Trace) (timing : Timing) (watch : LiveWatch) (i at : ℕ) (slot : Option Slot) → timing.watch ≡ Some watch → HasReached plans old new trace timing i at → at ≤ last_moment →
    GoesByTick (Some watch) 0 old trace timing.length i → old.requested ≡ watch.count → AreSampled slot old new → IsReached slot old new trace timing i
reached_watched plans old new trace timing watch i at slot watches is early by_tick requested sampled = record {
  live = live_tick plans old new trace timing watch i at slot watches is early by_tick requested sampled;
  requested = is.requested;
  by_tick = subst (λ w. GoesByTick w 1 new trace timing.length (i + 1)) (sym watches)
      (ap length is.ready, λ cpu below. made_now plans old new trace timing i at cpu is below);
}

-- ---- the table is returned

sampled_kept : (watched : Option Slot) (old new : CrewView) → AreSampled watched old new → AreSampled watched old (handed new)
sampled_kept None old new sampled = sampled
sampled_kept (Some slot) old new sampled = sampled

live_kept : (old new : CrewView) (trace : Trace) (timing : Timing) (i : ℕ) → IsLiveTick old new trace timing i → IsLiveTick old (handed new) trace timing i
live_kept old new trace timing i is = record {
  watched = is.watched;
  slot = is.slot;
  sampled = sampled_kept is.watched old new is.sampled;
  text = is.text;
  in_time = is.in_time;
}

by_tick_kept : (watch : Option LiveWatch) (crew : CrewView) (trace : Trace) (tick i : ℕ) → GoesByTick watch 1 crew trace tick i → GoesByTick watch 0 (handed crew) trace tick i
by_tick_kept None crew trace tick i is = is
by_tick_kept (Some watch) crew trace tick i is = (length-drop 1 crew.ready ∙ ap (λ n. n - 1) is.0, is.1)

-- After a reached tick's table is returned, the worker pool's samples are the tick's samples.
pub live_next : (slot : Option Slot) (old mid new : CrewView) (trace : Trace) (timing : Timing) (i : ℕ) → IsReached slot old mid trace timing i → new ≡ handed mid → IsSlotAt slot trace timing (i + 1) → IsLiveTick old new trace timing (i + 1)
live_next slot old mid new trace timing i is same found = subst (λ (crew : CrewView). IsLiveTick old crew trace timing (i + 1)) (sym same) (live_kept old mid trace timing (i + 1) (is.live found))

-- After it has returned the table, the worker pool still watches the same path.
pub watching_next : (slot : Option Slot) (old mid new : CrewView) (live : Option (List ℕ)) (trace : Trace) (timing : Timing) (i : ℕ) → IsWatching old live trace timing i → IsReached slot old mid trace timing i → new ≡ handed mid → IsWatching new live trace timing (i + 1)
watching_next slot old mid new live trace timing i was is same =
    subst (λ (crew : CrewView). IsWatching crew live trace timing (i + 1)) (sym same)
    (record {
      path = was.path;
      requested = is.requested ∙ was.requested;
      by_tick = by_tick_kept timing.watch mid trace timing.length (i + 1) is.by_tick;
    })

-- ---- before the first tick

by_tick_new : (watch : Option LiveWatch) (crew : CrewView) (trace : Trace) (tick : ℕ) → crew.ready ≡ [] → AreIdle crew.watches → ((cpu : ℕ) → cpu < trace.cpus → (clocks_at crew.clocks cpu).made ≡ 0) → GoesByTick watch 0 crew trace tick 0
by_tick_new None crew trace tick none idle fresh = idle
by_tick_new (Some watch) crew trace tick none idle fresh = (ap length none, fresh)

-- A new worker pool watches the path of the options.
pub watching_new : (crew : CrewView) (live : Option (List ℕ)) (trace : Trace) (timing : Timing) → live ≡ watched_path timing.watch → crew.requested ≡ requested_by timing.watch → crew.ready ≡ [] → AreIdle crew.watches →
    ((cpu : ℕ) → cpu < trace.cpus → (clocks_at crew.clocks cpu).made ≡ 0) → IsWatching crew live trace timing 0
watching_new crew live trace timing path requested none idle fresh = record {
  path = path;
  requested = requested;
  by_tick = by_tick_new timing.watch crew trace timing.length none idle fresh;
}

-- ---- what holds between two ticks

-- The watched path is the path of the options.
pub watch_is : (crew : CrewView) (live : Option (List ℕ)) (path : List ℕ) (trace : Trace) (timing : Timing) (i : ℕ) → live ≡ Some path → IsWatching crew live trace timing i → (watch : LiveWatch) × (timing.watch ≡ Some watch) × (watch.path ≡ path)
watch_is crew live path trace timing i named is = by_watch timing.watch refl
  where
    by_watch : (watch : Option LiveWatch) → timing.watch ≡ watch → (found : LiveWatch) × (timing.watch ≡ Some found) × (found.path ≡ path)
    by_watch None none = absurd (let is_none = sym named ∙ is.path ∙ ap watched_path none in let no : ⊥ = cc in no)
    by_watch (Some watch) some = (watch, some, let paths = sym (is.path ∙ ap watched_path some) ∙ named in cc)

-- If the replay has no watched path, the options have none.
pub watch_none : (crew : CrewView) (live : Option (List ℕ)) (trace : Trace) (timing : Timing) (i : ℕ) → live ≡ None → IsWatching crew live trace timing i → timing.watch ≡ None
watch_none crew live trace timing i none is = by_watch timing.watch refl
  where
    by_watch : (watch : Option LiveWatch) → timing.watch ≡ watch → timing.watch ≡ None
    by_watch None is_none = is_none
    by_watch (Some watch) some = absurd (let is_some = sym none ∙ is.path ∙ ap watched_path some in let no : ⊥ = cc in no)

-- If a table is ready, no path is watched.
pub unwatched_ready : (crew : CrewView) (live : Option (List ℕ)) (trace : Trace) (timing : Timing) (i : ℕ) → 0 < length crew.ready → IsWatching crew live trace timing i → timing.watch ≡ None
unwatched_ready crew live trace timing i some is = by_watch timing.watch refl
  where
    by_watch : (watch : Option LiveWatch) → timing.watch ≡ watch → timing.watch ≡ None
    by_watch None is_none = is_none
    by_watch (Some watch) is_some = absurd (let by_tick = subst (λ w. GoesByTick w 0 crew trace timing.length i) is_some is.by_tick in omega (arith, some, by_tick.0))

-- If no path is watched, there are no samples.
pub idle_unwatched : (crew : CrewView) (live : Option (List ℕ)) (trace : Trace) (timing : Timing) (i : ℕ) → timing.watch ≡ None → IsWatching crew live trace timing i → AreIdle crew.watches
idle_unwatched crew live trace timing i none is = subst (λ watch. GoesByTick watch 0 crew trace timing.length i) none is.by_tick

-- The number of samples of the worker pool is the number in the options.
pub requested_is : (crew : CrewView) (live : Option (List ℕ)) (trace : Trace) (timing : Timing) (i : ℕ) (watch : LiveWatch) → timing.watch ≡ Some watch → IsWatching crew live trace timing i → crew.requested ≡ watch.count
requested_is crew live trace timing i watch some is = is.requested ∙ ap requested_by some

-- If a path is watched, the worker pool has advanced exactly to the last tick.
pub by_tick_is : (crew : CrewView) (live : Option (List ℕ)) (trace : Trace) (timing : Timing) (i : ℕ) (watch : LiveWatch) → timing.watch ≡ Some watch → IsWatching crew live trace timing i → GoesByTick (Some watch) 0 crew trace timing.length i
by_tick_is crew live trace timing i watch some is = subst (λ w. GoesByTick w 0 crew trace timing.length i) some is.by_tick

-- The time of the next tick by `run_timing` is its time by `timing`.
pub moment_same : (run_timing : RunTiming) (trace : Trace) (timing : Timing) (i : ℕ) → IsPaced run_timing trace timing → tick_moment run_timing.length (i + 1) ≡ tick_moment timing.length (i + 1)
moment_same run_timing trace timing i paced = ap (λ length. tick_moment length (i + 1)) paced.length

-- Each processor has made exactly its changes up to time `at` (ns).
abbrev pub AreThere : PlansView → CrewView → ℕ → Type 0
AreThere plans crew at = AreAt plans crew.clocks at

-- The slot found is the slot that is watched at the next tick.
pub slot_is : (plans : PlansView) (lives : List GroupLife) (crew : CrewView) (live : Option (List ℕ)) (path : List ℕ) (trace : Trace) (timing : Timing) (i at : ℕ) (slot : Option Slot) → IsPlanned plans trace timing → IsWatching crew live trace timing i → live ≡ Some path → lives ≡ plans.lives
    → at ≡ tick_moment timing.length (i + 1) → number_of_slot slot ≡ live_slot 0 lives path at → IsSlotAt slot trace timing (i + 1)
slot_is plans lives crew live path trace timing i at slot planned is named same at_is found =
    let by_lives = slot_by_lives (limits_of timing.length trace.cpus) trace.events planned.accepted.legal path at in
    found ∙ ap (λ groups. live_slot 0 groups path at) (same ∙ planned.represents.lives) ∙ sym by_lives ∙ ap (live_slot_at trace.events path) at_is
    ∙ ap (λ watched. watched_at trace watched (tick_moment timing.length (i + 1))) (sym named ∙ is.path)

-- If no path is watched, there is no watched slot.
pub no_slot : (crew : CrewView) (live : Option (List ℕ)) (trace : Trace) (timing : Timing) (i : ℕ) → IsWatching crew live trace timing i → live ≡ None → IsSlotAt None trace timing (i + 1)
no_slot crew live trace timing i is none = ap (λ watched. watched_at trace watched (tick_moment timing.length (i + 1))) (sym none ∙ is.path)
