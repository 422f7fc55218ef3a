-- Defines the output of `replay`. At each tick, `replay` prints live lines, a line for each trigger
-- that fires, a line for each kill if an evaluation of the rules is due, and the pressure files of
-- all live groups if a report is due.
use Rattle.std.specs.Prelude.{◌≡◌, ℕ, ◌-◌, ◌≤◌, List, [], ◌++◌, length, sum_by, ◌==◌, Option, None, Some, if◌then◌else◌, slice_get, slice_index, slice_index_or, codes}
use Rattle.std.specs.List.{flat_map, range_with_len}
use Rattle.psi_base.specs.declared.event.TriggerSpec.{TriggerSpec}
use Rattle.psi_spec.specs.declared.machine.GroupLife.{GroupLife}
use Rattle.psi_spec.specs.Fields.{resources}
use Rattle.psi_spec.specs.Grammar.{One, Two, Version}
use Rattle.psi_spec.specs.World.{after, up_to}
use Rattle.psi_spec.specs.Groups.{live_groups, path_at}
use Rattle.psi_spec.specs.Collected.{triggers_of}
use Rattle.psi_spec.specs.Trace.{Trace}
use Rattle.pressure_spec.specs.Share.{irq_quantity}
use Rattle.pressure_spec.specs.Ticks.{is_evaluation, is_report, tick_moment, tick_of, ticks_of, ticks_until}
use Rattle.pressure_spec.specs.Samples.{fired_at, group_averages, totals_after}
use Rattle.ruleset_json.specs.declared.types.Rule.{Rule}
use Rattle.kill_spec.specs.declared.kill.Kill.{Kill}
use Rattle.kill_spec.specs.Kills as deciding
use Rattle.kill_spec.specs.Evaluations.{reading_at, readings_until}
use Rattle.run_spec.specs.Lines.{end_line, event_line, irq_report, kill_line, report_text}
use Rattle.run_spec.specs.Text.{end_of}
use Rattle.run_spec.specs.Live.{IsLiveText, LiveWatch}

-- The parameters of a replay. `length` is the length of a tick (ns), and `interval` is the interval
-- of evaluations (ns). `report` is the period of reports (ns), or 0 if only the last tick has a
-- report. `watch` is the group that `--live` watches, or `None`.
pub record Timing : Type 0 where
  pub length : ℕ
  pub report : ℕ
  pub interval : ℕ
  pub watch : Option LiveWatch

-- The inputs of a replay other than its trace and its timing. `live` maps the number of a tick to
-- the text of the live lines at this tick, and `rules` are the rulesets.
pub record Beside : Type 0 where
  pub live : ℕ → List ℕ
  pub rules : List Rule

-- The inputs of a replay with the rulesets `rules` and without live lines.
abbrev pub with_rules : List Rule → Beside
with_rules rules = record { live = λ _. []; rules = rules }

-- `tick_count trace timing`: the number of ticks of a trace.
abbrev pub tick_count : Trace → Timing → ℕ
tick_count trace timing = ticks_until timing.length (end_of trace.events)

-- `lives_of trace`: all groups that the trace ever creates, indexed by slot.
abbrev pub lives_of : Trace → List GroupLife
lives_of trace = (after trace.events).groups

-- ---- the signals of triggers

-- `fired_in trace timing i`: the numbers of the triggers that fire at tick `i`.
abbrev pub fired_in : Trace → Timing → ℕ → List ℕ
fired_in trace timing i =
    fired_at trace.cpus (lives_of trace) (triggers_of trace.events) (ticks_of trace.cpus trace.events timing.length (i - 1))
    (tick_of trace.cpus trace.events timing.length i)

-- `signal_line at lives number trigger`: the line for the trigger with the number `number`, which
-- fires at time `at` (ns). `lives` are all groups of the trace, with their paths. The line is empty
-- if `trigger` is `None`.
abbrev pub signal_line : ℕ → List GroupLife → ℕ → Option TriggerSpec → List ℕ
signal_line at lives number None = []
signal_line at lives number (Some trigger) = event_line at number (path_at lives trigger.slot.0) trigger

-- `signal_lines at lives triggers numbers`: the lines for the triggers with the numbers `numbers`,
-- which all fire at time `at` (ns). `lives` are all groups of the trace, with their paths.
abbrev pub signal_lines : ℕ → List GroupLife → List TriggerSpec → List ℕ → List ℕ
signal_lines at lives triggers numbers = flat_map (λ number. signal_line at lives number (slice_get triggers number)) numbers

-- `signals_until trace timing count`: how often triggers fire at the first `count` ticks, in total.
abbrev pub signals_until : Trace → Timing → ℕ → ℕ
signals_until trace timing count = sum_by (λ i. length (fired_in trace timing i)) (range_with_len 1 count)

-- ---- the kills of the rules

-- `kills_in trace timing rules i`: the kills at tick `i`. The list is empty if no evaluation is due
-- at this tick. The kills depend on the values of the groups at this tick and at all earlier
-- evaluations.
abbrev pub kills_in : Trace → Timing → List Rule → ℕ → List Kill
kills_in trace timing rules i =
    if is_evaluation timing.interval timing.length i
    then deciding.kills (lives_of trace) rules (reading_at trace.cpus trace.events timing.length i)
    (readings_until trace.cpus trace.events timing.length timing.interval (i - 1))
    else []

-- `kill_lines lives kills`: the lines for the kills, in order. `lives` are all groups of the trace,
-- with the paths of the victims.
abbrev pub kill_lines : List GroupLife → List Kill → List ℕ
kill_lines lives kills =
    flat_map (λ (kill : Kill). kill_line kill.at kill.rule kill.action (path_at lives kill.victim.0)) kills

-- `kills_until trace timing rules count`: the number of kills at the first `count` ticks.
abbrev pub kills_until : Trace → Timing → List Rule → ℕ → ℕ
kills_until trace timing rules count = sum_by (λ i. length (kills_in trace timing rules i)) (range_with_len 1 count)

-- ---- reports of pressure

-- `resource_files at path slot totals averages`: the reports on the resources of the group with the
-- path `path` and the slot `slot` (0 for the root) at time `at` (ns). `totals` and `averages` are
-- the group's totals (ns) and averages.
abbrev pub resource_files : ℕ → List ℕ → ℕ → List ℕ → List (List ℕ) → List ℕ
resource_files at path slot totals averages = flat_map (λ res. report_text at path res (slot == 0) totals averages) resources

-- `irq_files version at path totals averages`: the report on the interrupts of the group with the
-- path `path` at time `at` (ns), for a trace of version 2. The report is empty for version 1, which
-- has no interrupts. `totals` and `averages` are the group's totals (ns) and averages.
abbrev pub irq_files : Version → ℕ → List ℕ → List ℕ → List (List ℕ) → List ℕ
irq_files One at path totals averages = []
irq_files Two at path totals averages = irq_report at path (slice_index_or averages irq_quantity []) (slice_index totals irq_quantity)

-- `files_text version at path slot totals averages`: all reports on the group with the path `path`
-- and the slot `slot` (0 for the root) at time `at` (ns), for a trace of the version `version`.
-- There is one for each resource, and for version 2 one for interrupts. `totals` and `averages` are
-- the group's totals (ns) and averages.
abbrev pub files_text : Version → ℕ → List ℕ → ℕ → List ℕ → List (List ℕ) → List ℕ
files_text version at path slot totals averages =
    resource_files at path slot totals averages ++ irq_files version at path totals averages

-- `group_report trace timing i group`: all reports on a group at tick `i`. `group` is the pair of
-- the group's path and slot.
abbrev pub group_report : Trace → Timing → ℕ → List ℕ × ℕ → List ℕ
group_report trace timing i group =
    files_text trace.version (tick_moment timing.length i) group.0 group.1
    (totals_after trace.cpus (lives_of trace) (ticks_of trace.cpus trace.events timing.length i) group.1)
    (group_averages trace.cpus (lives_of trace) (ticks_of trace.cpus trace.events timing.length i) group.1).averages

-- `live_groups_at trace timing i`: the paths and slots of the groups that are live at tick `i`,
-- sorted by the bytes of the paths.
abbrev pub live_groups_at : Trace → Timing → ℕ → List (List ℕ × ℕ)
live_groups_at trace timing i = live_groups (after (up_to trace.events (tick_moment timing.length i))).groups

-- `reports trace timing i`: the reports on all groups that are live at tick `i`, in the byte order
-- of paths.
abbrev pub reports : Trace → Timing → ℕ → List ℕ
reports trace timing i = flat_map (group_report trace timing i) (live_groups_at trace timing i)

-- ---- the complete output of `replay`

-- `tick_text trace timing beside i`: the output of tick `i`. It consists of the live lines, a line
-- for each trigger that fires, a line for each kill, and the reports if a report is due.
unfoldable pub tick_text : Trace → Timing → Beside → ℕ → List ℕ
tick_text trace timing beside i =
    beside.live i
    ++ signal_lines (tick_moment timing.length i) (lives_of trace) (triggers_of trace.events) (fired_in trace timing i)
    ++ kill_lines (lives_of trace) (kills_in trace timing beside.rules i)
    ++ (if is_report timing.report timing.length (tick_count trace timing) i then reports trace timing i else [])

-- `ticks_text trace timing beside count`: the output of the first `count` ticks.
abbrev pub ticks_text : Trace → Timing → Beside → ℕ → List ℕ
ticks_text trace timing beside count = flat_map (tick_text trace timing beside) (range_with_len 1 count)

-- `last_line trace timing beside`: the last line of the output. It contains the end time (ns), and
-- the numbers of ticks, of signals of triggers, and of kills.
abbrev pub last_line : Trace → Timing → Beside → List ℕ
last_line trace timing beside =
    end_line (end_of trace.events) (tick_count trace timing) (signals_until trace timing (tick_count trace timing))
    (kills_until trace timing beside.rules (tick_count trace timing))

-- `replay_text trace timing beside`: the output of `replay`, if `beside` has the live lines and the
-- rulesets.
unfoldable pub replay_text : Trace → Timing → Beside → List ℕ
replay_text trace timing beside = ticks_text trace timing beside (tick_count trace timing) ++ last_line trace timing beside

-- `IsReplayText trace timing rules text`: `text` is a possible output of `replay`. Its live lines
-- at each tick are some lines that `IsLiveText` allows.
abbrev pub IsReplayText : Trace → Timing → List Rule → List ℕ → Type 0
IsReplayText trace timing rules text =
    (live : ℕ → List ℕ) × ((i : ℕ) → 1 ≤ i → i ≤ tick_count trace timing → IsLiveText trace timing.length timing.watch i (live i))
    × (text ≡ replay_text trace timing (record { live = live; rules = rules }))

-- ---- the output of `stress`

-- The path and the slot of the root.
abbrev pub root_group : List ℕ × ℕ
root_group = (codes "/", 0)

-- `stress_text trace timing`: the output of `stress`. It consists of the reports on the root at the
-- last tick, and the last line. If there is no tick, there are no reports.
abbrev pub stress_text : Trace → Timing → List ℕ
stress_text trace timing =
    (if tick_count trace timing == 0 then [] else group_report trace timing (tick_count trace timing) root_group)
    ++ last_line trace timing (with_rules [])
