-- Proves that each tick up to a kill prints the same lines after the tasks of the victim are
-- removed.
use Rattle.std.proofs.Common.{◌≡◌, ℕ, zero, suc, ◌+◌, ◌-◌, ◌/◌, ◌≤◌, ◌<◌, List, [], ◌∷◌, refl, ap, ◌∙◌, arith, cond, true, false, length, map}
use Rattle.std.specs.Prelude.{if◌then◌else◌, take}
use Rattle.std.specs.List.{flat_map, range_with_len}
use Rattle.std.proofs.Math.Nat.{mul-le-mul_right}
use Rattle.psi_base.specs.declared.event.Event.{Event}
use Rattle.psi_spec.specs.declared.machine.GroupLife.{GroupLife}
use Rattle.psi_spec.specs.Groups.{live_groups}
use Rattle.psi_spec.specs.Stall.{irq_time, stall}
use Rattle.psi_spec.specs.Collected.{triggers_of}
use Rattle.psi_spec.specs.Trace.{Trace}
use Rattle.psi_spec.specs.World.{after, up_to}
use Rattle.pressure_spec.specs.Share.{irq_quantity}
use Rattle.pressure_spec.specs.Ticks.{Tick, is_evaluation, tick_moment, tick_of, ticks_of, times_with}
use Rattle.pressure_spec.specs.Samples.{fired_at, group_averages, totals_after}
use Rattle.ruleset_json.specs.declared.types.Rule.{Rule}
use Rattle.kill_spec.specs.Readings.{Reading}
use Rattle.kill_spec.specs.Kills as deciding
use Rattle.kill_spec.specs.Evaluations.{evaluations, group_seen, host_of, reading_at, readings_until}
use Rattle.run_spec.specs.Replay.{Beside, Timing, files_text, fired_in, kills_in, lives_of, reports, tick_count, tick_text}
use Rattle.whatif_spec.specs.Without.{without}
use Rattle.whatif_rounds.specs.Until.{SameUntilKill}
use Rattle.whatif_rounds.proofs.Same.{IsSame, is_same}

-- ---- times

-- The times of ticks never decrease.
pub tick_before : (length j i : ℕ) → j ≤ i → tick_moment length j ≤ tick_moment length i
tick_before length j i low = mul-le-mul_right length low

-- Two functions that agree on a range give the same list.
map_same : {A : Type 0} (f g : ℕ → A) (from n : ℕ) → ((i : ℕ) → i < from + n → f i ≡ g i) → map f (range_with_len from n) ≡ map g (range_with_len from n)
map_same f g from zero same = refl
map_same f g from (suc n) same = rw (same from (omega arith), map_same f g (from + 1) n (λ i high. same i (omega (arith, high)))) refl

-- ---- ticks

-- A tick, computed from the events up to its time and the list of all groups.
abbrev tick_by : ℕ → List Event → List GroupLife → ℕ → Tick
tick_by cpus prefix groups at = record {
  at = at;
  table = map (λ slot. map (λ cpu. times_with (λ state. stall state cpu slot prefix at) (irq_time cpu slot prefix)) (range_with_len 0 cpus)) (range_with_len 0 (length groups));
}

same_tick : (cpus : ℕ) (events other : List Event) (at length i : ℕ) → IsSame events other at → tick_moment length i ≤ at → tick_of cpus other length i ≡ tick_of cpus events length i
same_tick cpus events other at length i same low =
    ap (λ prefix. tick_by cpus prefix (after other).groups (tick_moment length i)) (same.early (tick_moment length i) low)
    ∙ ap (λ groups. tick_by cpus (up_to events (tick_moment length i)) groups (tick_moment length i)) same.groups

same_ticks : (cpus : ℕ) (events other : List Event) (at length i : ℕ) → IsSame events other at → tick_moment length i ≤ at → ticks_of cpus other length i ≡ ticks_of cpus events length i
unfolding ticks_of
same_ticks cpus events other at length i same low =
    map_same (tick_of cpus other length) (tick_of cpus events length) 1 i (λ j high. let before = tick_before length j i (omega (arith, high)) in same_tick cpus events other at length j same (omega (arith, before, low)))

one_before : (length i at : ℕ) → tick_moment length i ≤ at → tick_moment length (i - 1) ≤ at
one_before length i at low = let before = tick_before length (i - 1) i (omega arith) in omega (arith, before, low)

-- ---- signals

same_fired : (trace : Trace) (events : List Event) (timing : Timing) (at i : ℕ) → IsSame trace.events events at → tick_moment timing.length i ≤ at → fired_in (record trace { events = events }) timing i ≡ fired_in trace timing i
same_fired trace events timing at i same low =
    ap (λ groups. fired_at trace.cpus groups (triggers_of events) (ticks_of trace.cpus events timing.length (i - 1)) (tick_of trace.cpus events timing.length i)) same.groups
    ∙ ap (λ triggers. fired_at trace.cpus (lives_of trace) triggers (ticks_of trace.cpus events timing.length (i - 1)) (tick_of trace.cpus events timing.length i)) same.triggers
    ∙ ap (λ ticks. fired_at trace.cpus (lives_of trace) (triggers_of trace.events) ticks (tick_of trace.cpus events timing.length i)) (same_ticks trace.cpus trace.events events at timing.length (i - 1) same (one_before timing.length i at low))
    ∙ ap (λ tick. fired_at trace.cpus (lives_of trace) (triggers_of trace.events) (ticks_of trace.cpus trace.events timing.length (i - 1)) tick) (same_tick trace.cpus trace.events events at timing.length i same low)

-- ---- readings

-- A reading, computed from the events up to its time, the list of all groups and the ticks up to
-- it.
abbrev reading_by : ℕ → List Event → List GroupLife → List Tick → ℕ → Reading
reading_by cpus prefix groups ticks at = record {
  at = at;
  host = host_of prefix;
  groups = map (λ (group : List ℕ × ℕ). group_seen prefix (take irq_quantity (group_averages cpus groups ticks group.1).averages) group.1) (live_groups (after prefix).groups);
}

same_reading : (cpus : ℕ) (events other : List Event) (at length i : ℕ) → IsSame events other at → tick_moment length i ≤ at → reading_at cpus other length i ≡ reading_at cpus events length i
unfolding reading_at
same_reading cpus events other at length i same low =
    ap (λ prefix. reading_by cpus prefix (after other).groups (ticks_of cpus other length i) (tick_moment length i)) (same.early (tick_moment length i) low)
    ∙ ap (λ groups. reading_by cpus (up_to events (tick_moment length i)) groups (ticks_of cpus other length i) (tick_moment length i)) same.groups
    ∙ ap (λ ticks. reading_by cpus (up_to events (tick_moment length i)) (after events).groups ticks (tick_moment length i)) (same_ticks cpus events other at length i same low)

same_evaluations : (cpus : ℕ) (events other : List Event) (at length interval count : ℕ) → IsSame events other at → tick_moment length count ≤ at → map (reading_at cpus other length) (evaluations interval length count) ≡ map (reading_at cpus events length) (evaluations interval length count)
same_evaluations cpus events other at length interval zero same low = refl
same_evaluations cpus events other at length interval (suc count) same low =
    let before = tick_before length count (count + 1) (omega arith) in
    let rest = same_evaluations cpus events other at length interval count same (omega (arith, before, low)) in
    elim (is_evaluation interval length (suc count)) as (λ b. map (reading_at cpus other length) (cond b (suc count ∷ evaluations interval length count) (evaluations interval length count)) ≡ map (reading_at cpus events length) (cond b (suc count ∷ evaluations interval length count) (evaluations interval length count))) [
      | true ↦ rw (same_reading cpus events other at length (suc count) same low, rest) refl
      | false ↦ rest
    ]

same_readings : (cpus : ℕ) (events other : List Event) (at length interval count : ℕ) → IsSame events other at → tick_moment length count ≤ at → readings_until cpus other length interval count ≡ readings_until cpus events length interval count
unfolding readings_until
same_readings cpus events other at length interval count same low = same_evaluations cpus events other at length interval count same low

-- ---- kills

same_kills : (trace : Trace) (events : List Event) (timing : Timing) (rules : List Rule) (at i : ℕ) → IsSame trace.events events at → tick_moment timing.length i ≤ at → kills_in (record trace { events = events }) timing rules i ≡ kills_in trace timing rules i
same_kills trace events timing rules at i same low =
    ap (λ groups. if is_evaluation timing.interval timing.length i then deciding.kills groups rules (reading_at trace.cpus events timing.length i) (readings_until trace.cpus events timing.length timing.interval (i - 1)) else []) same.groups
    ∙ ap (λ reading. if is_evaluation timing.interval timing.length i then deciding.kills (lives_of trace) rules reading (readings_until trace.cpus events timing.length timing.interval (i - 1)) else []) (same_reading trace.cpus trace.events events at timing.length i same low)
    ∙ ap (λ readings. if is_evaluation timing.interval timing.length i then deciding.kills (lives_of trace) rules (reading_at trace.cpus trace.events timing.length i) readings else []) (same_readings trace.cpus trace.events events at timing.length timing.interval (i - 1) same (one_before timing.length i at low))

-- ---- reports

-- The reports, computed from the events up to the time of the tick, the list of all groups and the
-- ticks up to it.
abbrev reports_by : Trace → Timing → ℕ → List Event → List GroupLife → List Tick → List ℕ
reports_by trace timing i prefix groups ticks =
    flat_map (λ (group : List ℕ × ℕ). files_text trace.version (tick_moment timing.length i) group.0 group.1 (totals_after trace.cpus groups ticks group.1) (group_averages trace.cpus groups ticks group.1).averages) (live_groups (after prefix).groups)

same_reports : (trace : Trace) (events : List Event) (timing : Timing) (at i : ℕ) → IsSame trace.events events at → tick_moment timing.length i ≤ at → reports (record trace { events = events }) timing i ≡ reports trace timing i
same_reports trace events timing at i same low =
    ap (λ prefix. reports_by trace timing i prefix (after events).groups (ticks_of trace.cpus events timing.length i)) (same.early (tick_moment timing.length i) low)
    ∙ ap (λ groups. reports_by trace timing i (up_to trace.events (tick_moment timing.length i)) groups (ticks_of trace.cpus events timing.length i)) same.groups
    ∙ ap (λ ticks. reports_by trace timing i (up_to trace.events (tick_moment timing.length i)) (lives_of trace) ticks) (same_ticks trace.cpus trace.events events at timing.length i same low)

-- ---- a tick

same_count : (trace : Trace) (events : List Event) (timing : Timing) (at : ℕ) → IsSame trace.events events at → tick_count (record trace { events = events }) timing ≡ tick_count trace timing
same_count trace events timing at same = ap (λ end. end / timing.length) same.last

same_text : (trace : Trace) (events : List Event) (timing : Timing) (beside : Beside) (at i : ℕ) → IsSame trace.events events at → tick_moment timing.length i ≤ at → tick_text (record trace { events = events }) timing beside i ≡ tick_text trace timing beside i
unfolding tick_text
same_text trace events timing beside at i same low =
    rw (same_fired trace events timing at i same low, same_kills trace events timing beside.rules at i same low, same_reports trace events timing at i same low, same_count trace events timing at same, same.groups, same.triggers) refl

pub same_until_kill : SameUntilKill
same_until_kill limits trace timing beside at victim accepted few =
    let same = is_same limits trace.events at victim accepted few in
    (same_count trace (without trace.events at victim) timing at same, λ i low. same_text trace (without trace.events at victim) timing beside at i same low)
