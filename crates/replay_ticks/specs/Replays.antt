-- Defines the state of a replay between two ticks, and the effect of replaying the next tick.
use Rattle.std.specs.Prelude.{◌≡◌, ℕ, ◌+◌, ◌<◌, ◌≤◌, List, [], drop, length, map, Bool, true, false, if◌then◌else◌, Option, None, Some, Result, Ok, Err}
use Rattle.std.specs.List.{All, flat_map, range_with_len}
use Rattle.std.specs.Io.KnownBytes.{Appends, Keeps}
use Rattle.outside.specs.Outside.{AppendsPrefix}
use Rattle.psi_base.specs.declared.event.Slot.{Slot}
use Rattle.psi_spec.specs.Header.{version_of}
use Rattle.psi_spec.specs.LegalGroups.{IsPathOrder}
use Rattle.psi_spec.specs.Stall.{number_of_slot}
use Rattle.psi_spec.specs.Trace.{Trace}
use Rattle.psi_counts.specs.Clock.{IsInTime, opened}
use Rattle.pressure_spec.specs.Ticks.{is_report, tick_moment}
use Rattle.run_spec.specs.Lines.{live_line}
use Rattle.run_spec.specs.Live.{IsLiveText, LiveWatch, changes_until, live_slot_at}
use Rattle.run_spec.specs.Replay.{Timing, group_report, kills_until, reports, root_group, signals_until, tick_count, tick_text}
use Rattle.ruleset_json.specs.declared.types.Rule.{Rule}
use Rattle.ruleset_json.specs.RuleRanges.{FitsRules}
use Rattle.group_tree.specs.Tree.{numbers_of}
use Rattle.replay_rules.specs.Planned.{HasTicked, IsPlanned}
use Rattle.replay_rules.specs.Judged.{HasJudged, JudgeView}
use Rattle.proc_plan.specs.Plans.{PlansView}
use Rattle.aggregate.specs.Table.{HasSizes}
use Rattle.tick_engine.specs.Engine.{EngineView}
use Rattle.clock_row.specs.declared.reader.Sample.{Sample}
use Rattle.replay_workers.specs.Crew.{AreNotPast, AreSampled, CrewView, WatchView, clocks_at, watch_at}
use Rattle.replay_ticks.specs.declared.run_timing.RunTiming.{RunTiming}
use Rattle.replay_ticks.specs.declared.replay.TickFault.{TickFault}

-- The state of a replay. `plans` has the plans of the trace, and `crew` is the worker pool with the
-- clocks of all processors. `rows` is the table of times at the last tick, `engine` has the
-- averages and triggers, and `judge` has the state of the rules. `order` has all slots sorted by
-- path. `run_timing` says which ticks have reports, and `live` is the watched path. `made`,
-- `signals` and `kills` are the numbers of replayed ticks, of trigger signals and of kills.
pub record ReplayView : Type 0 where
  pub plans : PlansView
  pub crew : CrewView
  pub rows : List (List (List ℕ))
  pub engine : EngineView
  pub judge : JudgeView
  pub order : List Slot
  pub run_timing : RunTiming
  pub live : Option (List ℕ)
  pub made : ℕ
  pub signals : ℕ
  pub kills : ℕ

-- `run_timing` has the trace version, the ticks and the report period for a replay of `trace` with
-- the options in `timing`.
pub record IsPaced (run_timing : RunTiming) (trace : Trace) (timing : Timing) : Type 0 where
  pub version : version_of run_timing.version ≡ trace.version
  pub length : run_timing.length ≡ timing.length
  pub report : run_timing.report ≡ timing.report
  pub last : run_timing.last ≡ tick_count trace timing

-- The table `rows` has an entry for each group and each processor of the trace.
abbrev pub HasPlaces : PlansView → List (List (List ℕ)) → Type 0
HasPlaces plans rows = HasSizes (length plans.plans) (length plans.lives) rows

-- ---- ticks computed ahead

-- The times (ns) of the `count` ticks after tick `i`.
abbrev pub moments_after : ℕ → ℕ → ℕ → List ℕ
moments_after length i count = map (tick_moment length) (range_with_len (i + 1) count)

-- The worker pool has advanced to tick `i` or further. `crew.ready` has the times (ns) of the ticks
-- after tick `i` whose tables are ready. No processor has applied a change later than the last of
-- these ticks. If `crew.ready` is empty, no change is later than tick `i`.
pub record IsAhead (plans : PlansView) (crew : CrewView) (trace : Trace) (timing : Timing) (i : ℕ) : Type 0 where
  pub same : crew.plans ≡ plans
  pub ready : crew.ready ≡ moments_after timing.length i (length crew.ready)
  pub within : i + length crew.ready ≤ tick_count trace timing
  pub not_past : AreNotPast plans crew.clocks (tick_moment timing.length (i + length crew.ready))

-- The preconditions for advancing the worker pool over more ticks after tick `i`.
pub record IsToGo (plans : PlansView) (crew : CrewView) (run_timing : RunTiming) (trace : Trace) (timing : Timing) (i : ℕ) : Type 0 where
  pub planned : IsPlanned plans trace timing
  pub paced : IsPaced run_timing trace timing
  pub left : i < tick_count trace timing
  pub ahead : IsAhead plans crew trace timing i

-- The table of times at tick i + 1 is ready.
pub record IsReady (plans : PlansView) (crew : CrewView) (trace : Trace) (timing : Timing) (i : ℕ) : Type 0 where
  pub ahead : IsAhead plans crew trace timing i
  pub some : 0 < length crew.ready

-- ---- live samples of a watched path

-- The watched path, or `None` if no path is watched.
abbrev pub watched_path : Option LiveWatch → Option (List ℕ)
watched_path None = None
watched_path (Some watch) = Some watch.path

-- The number of live samples per processor and interval, or 0 if no path is watched.
abbrev pub requested_by : Option LiveWatch → ℕ
requested_by None = 0
requested_by (Some watch) = watch.count

-- The slot of the live group with the watched path at time `at` (ns). `None` if no path is watched,
-- or if there is no such group.
abbrev pub watched_at : Trace → Option (List ℕ) → ℕ → Option ℕ
watched_at trace None at = None
watched_at trace (Some path) at = live_slot_at trace.events path at

-- `slot` is the slot of the group with the watched path at tick `i`, or `None` if there is no such
-- group.
abbrev pub IsSlotAt : Option Slot → Trace → Timing → ℕ → Type 0
IsSlotAt slot trace timing i = number_of_slot slot ≡ watched_at trace (watched_path timing.watch) (tick_moment timing.length i)

-- There are no live samples of any processor.
abbrev pub AreIdle : List WatchView → Type 0
AreIdle watches = (cpu : ℕ) → (watch_at watches cpu).samples ≡ []

-- With a watched path, the worker pool advances by one tick at a time. `count` tables are ready,
-- and each processor has applied exactly its changes up to tick `i`, for ticks of `tick` ns.
-- Without a watched path, there are no samples.
abbrev pub GoesByTick : Option LiveWatch → ℕ → CrewView → Trace → ℕ → ℕ → Type 0
GoesByTick None count crew trace tick i = AreIdle crew.watches
GoesByTick (Some watch) count crew trace tick i =
    (length crew.ready ≡ count)
    × ((cpu : ℕ) → cpu < trace.cpus → (clocks_at crew.clocks cpu).made ≡ changes_until trace tick cpu i)

-- After tick `i`, the worker pool is ready to sample the watched path with the number of samples in
-- `timing`. If a path is watched, the pool has advanced exactly to tick `i`.
pub record IsWatching (crew : CrewView) (live : Option (List ℕ)) (trace : Trace) (timing : Timing) (i : ℕ) : Type 0 where
  pub path : live ≡ watched_path timing.watch
  pub requested : crew.requested ≡ requested_by timing.watch
  pub by_tick : GoesByTick timing.watch 0 crew trace timing.length i

-- The output lines of the live samples of processor `cpu`, at the tick at time `at` (ns).
abbrev pub samples_text : ℕ → ℕ → List Sample → List ℕ
samples_text at cpu samples = flat_map (λ (sample : Sample). live_line at cpu sample.count (opened sample.clock at)) samples

-- The output lines of the live samples of the first `cpus` processors, at the tick at time `at`
-- (ns).
abbrev pub watches_text : ℕ → ℕ → List WatchView → List ℕ
watches_text at cpus watches = flat_map (λ cpu. samples_text at cpu (watch_at watches cpu).samples) (range_with_len 0 cpus)

-- The clock in each live sample of the first `cpus` processors can be advanced to time `at` (ns).
abbrev pub AreInTime : ℕ → List WatchView → ℕ → Type 0
AreInTime cpus watches at =
    (cpu : ℕ) → cpu < cpus → All (λ (sample : Sample). IsInTime sample.clock at) (watch_at watches cpu).samples

-- While the worker pool applied the changes up to tick `i`, it sampled the slot that is watched at
-- that tick. The lines of these samples are valid `live` lines of the tick.
pub record IsLiveTick (old new : CrewView) (trace : Trace) (timing : Timing) (i : ℕ) : Type 0 where
  pub watched : Option Slot
  pub slot : IsSlotAt watched trace timing i
  pub sampled : AreSampled watched old new
  pub text : IsLiveText trace timing.length timing.watch i (watches_text (tick_moment timing.length i) trace.cpus new.watches)
  pub in_time : AreInTime trace.cpus new.watches (tick_moment timing.length i)

-- The worker pool after it has returned the table of its first ready tick.
abbrev pub handed : CrewView → CrewView
handed crew = record crew { ready = drop 1 crew.ready }

-- ---- replaying one tick

-- The preconditions for updating averages and triggers at tick i + 1, whose time is `at` (ns).
pub record IsToSample (plans : PlansView) (crew : CrewView) (rows : List (List (List ℕ))) (engine : EngineView) (trace : Trace)
    (timing : Timing) (i at : ℕ) : Type 0 where
  pub planned : IsPlanned plans trace timing
  pub left : i < tick_count trace timing
  pub at_is : at ≡ tick_moment timing.length (i + 1)
  pub ready : IsReady plans crew trace timing i
  pub sizes : HasPlaces plans rows
  pub ticked : HasTicked engine trace timing i

-- The engine (the state of averages and triggers) has been updated up to tick `number`, counted
-- from 1.
pub record IsTickSampled (plans : PlansView) (crew : CrewView) (rows : List (List (List ℕ))) (engine : EngineView) (trace : Trace)
    (timing : Timing) (number : ℕ) : Type 0 where
  pub ahead : IsAhead plans crew trace timing number
  pub sizes : HasPlaces plans rows
  pub ticked : HasTicked engine trace timing number

-- The preconditions for writing the lines of tick `number`, counted from 1. The engine has been
-- updated up to this tick, and its time is `at` (ns).
pub record IsToPut (plans : PlansView) (engine : EngineView) (order : List Slot) (run_timing : RunTiming) (trace : Trace)
    (timing : Timing)
    (number at : ℕ) : Type 0 where
  pub planned : IsPlanned plans trace timing
  pub paced : IsPaced run_timing trace timing
  pub some : 0 < number
  pub at_is : at ≡ tick_moment timing.length number
  pub ticked : HasTicked engine trace timing number
  pub by_path : IsPathOrder plans.lives (numbers_of order)

-- The preconditions for writing the root group's pressure files at tick `number`, counted from 1.
-- The engine has been updated up to this tick.
pub record IsToPutRoot (plans : PlansView) (engine : EngineView) (run_timing : RunTiming) (trace : Trace) (timing : Timing)
    (number : ℕ) : Type 0 where
  pub planned : IsPlanned plans trace timing
  pub paced : IsPaced run_timing trace timing
  pub within : number ≤ tick_count trace timing
  pub ticked : HasTicked engine trace timing number

-- The lines of the pressure reports at tick `number`. Empty if no reports are due at that tick.
abbrev pub due_text : Trace → Timing → ℕ → List ℕ
due_text trace timing number =
    if is_report timing.report timing.length (tick_count trace timing) number then reports trace timing number else []

-- ---- the whole replay

-- The worker pool has advanced to tick i + 1. If `slot` is the slot that is watched at that tick,
-- the pool sampled this slot, and its samples give valid `live` lines of the tick. With a watched
-- path, only the table of that tick is ready.
pub record IsReached (slot : Option Slot) (old new : CrewView) (trace : Trace) (timing : Timing) (i : ℕ) : Type 0 where
  pub live : IsSlotAt slot trace timing (i + 1) → IsLiveTick old new trace timing (i + 1)
  pub requested : new.requested ≡ old.requested
  pub by_tick : GoesByTick timing.watch 1 new trace timing.length (i + 1)

-- The output lines of tick `i`. `live` are its `live` lines.
abbrev pub tick_lines : Trace → Timing → List Rule → ℕ → List ℕ → List ℕ
tick_lines trace timing rules i live = tick_text trace timing (record { live = λ _. live; rules = rules }) i

-- `replay` has the state of the replay of `trace` with these rules after its first `i` ticks.
pub record IsReplay (replay : ReplayView) (trace : Trace) (timing : Timing) (rules : List Rule) (i : ℕ) : Type 0 where
  pub planned : IsPlanned replay.plans trace timing
  pub paced : IsPaced replay.run_timing trace timing
  pub made : replay.made ≡ i
  pub within : i ≤ tick_count trace timing
  pub ahead : IsAhead replay.plans replay.crew trace timing i
  pub watching : IsWatching replay.crew replay.live trace timing i
  pub sizes : HasPlaces replay.plans replay.rows
  pub engine : HasTicked replay.engine trace timing i
  pub judge : HasJudged replay.judge trace timing rules i
  pub fit : FitsRules rules
  pub order : IsPathOrder replay.plans.lives (numbers_of replay.order)
  pub signals : replay.signals ≡ signals_until trace timing i
  pub kills : replay.kills ≡ kills_until trace timing rules i

-- `replay` is the state of some replay of a trace after some of its ticks.
abbrev pub IsSomeReplay : ReplayView → Type 0
IsSomeReplay replay = (trace : Trace) × (timing : Timing) × (rules : List Rule) × (i : ℕ) × IsReplay replay trace timing rules i

-- The precondition for replaying another tick: the trace has a next tick.
abbrev pub IsTickLeft : ReplayView → Type 0
IsTickLeft replay =
    (trace : Trace) × (timing : Timing) × (rules : List Rule) × (i : ℕ) × IsReplay replay trace timing rules i
    × (i < tick_count trace timing)

-- The effect of replaying the next tick without output. If the returned Boolean is `true`, there
-- was a next tick, up to which live samples were taken. If it is `false`, there was no next tick,
-- and nothing changed.
abbrev pub Passes : Trace → Timing → List Rule → ℕ → ReplayView → ReplayView → Bool → Type 0
Passes trace timing rules i old new true =
    (i < tick_count trace timing) × IsReplay new trace timing rules (i + 1) × IsLiveTick old.crew new.crew trace timing (i + 1)
Passes trace timing rules i old new false = (i ≡ tick_count trace timing) × (new ≡ old)

-- The root group's pressure files at tick `i`.
abbrev pub root_report : Trace → Timing → ℕ → List ℕ
root_report trace timing i = group_report trace timing i root_group

-- The effect of replaying the next tick with output. `Ok true`: the lines of the tick were appended
-- to the output. Its `live` lines are the lines of the samples that the worker pool took up to the
-- tick. `Ok false`: there was no next tick, and nothing was written. `Err`: only a prefix of the
-- lines was written.
abbrev pub TickGives : Trace → Timing → List Rule → ℕ → ReplayView → ReplayView → Option (List ℕ) → Option (List ℕ)
    → Result Bool TickFault → Type 0
TickGives trace timing rules i old new had has (Ok true) =
    (i < tick_count trace timing) × IsReplay new trace timing rules (i + 1) × IsLiveTick old.crew new.crew trace timing (i + 1)
    × Appends had has (tick_lines trace timing rules (i + 1) (watches_text (tick_moment timing.length (i + 1)) trace.cpus new.crew.watches))
TickGives trace timing rules i old new had has (Ok false) = (i ≡ tick_count trace timing) × Keeps had has
    × IsReplay new trace timing rules i
TickGives trace timing rules i old new had has (Err fault) =
    (i < tick_count trace timing)
    × ((live : List ℕ) × IsLiveText trace timing.length timing.watch (i + 1) live
    × AppendsPrefix had has (tick_lines trace timing rules (i + 1) live))
