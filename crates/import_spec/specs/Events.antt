-- Defines the trace events of one line of an ftrace text. The events depend on the world (the tasks
-- and groups) after the events of the earlier lines.
use Rattle.std.specs.Prelude.{ℕ, ◌+◌, ◌-◌, ◌*◌, max, List, [], ◌∷◌, ◌++◌, length, nat_lt, nat_le, ◌==◌, ◌&&◌, not, Bool, false, if◌then◌else◌, codes, Option, None, Some, is_some, unwrap_or, Result, Ok, Err}
use Rattle.std.specs.List.{list_any}
use Rattle.std.specs.FinMap as tasks_by
use Rattle.psi_base.specs.declared.event.Pid.{Pid}
use Rattle.psi_base.specs.declared.event.Cpu.{Cpu}
use Rattle.psi_base.specs.declared.event.How.{How}
use Rattle.psi_base.specs.declared.event.How.TheVariants.{Idle, Preempt}
use Rattle.psi_base.specs.declared.event.Act.{Act}
use Rattle.psi_base.specs.declared.event.Act.TheVariants as act
use Rattle.psi_base.specs.declared.event.Event.{Event}
use Rattle.psi_base.specs.Missing.{is_some_and}
use Rattle.psi_spec.specs.declared.machine.Mode.{Mode}
use Rattle.psi_spec.specs.declared.machine.Mode.TheVariants.{Blocked, Ready, Running, Waiting}
use Rattle.psi_spec.specs.declared.machine.Task.{Task}
use Rattle.psi_spec.specs.Names.{names}
use Rattle.psi_spec.specs.World.{Tasks, World, after_from, events_at, first_world, is_active, is_ready, is_running_on, most_tasks, running_on, task_of}
use Rattle.import_spec.specs.declared.cause.ImportCause.{ImportCause}
use Rattle.import_spec.specs.declared.cause.ImportCause.TheVariants as cause
use Rattle.import_spec.specs.declared.seen.Seen.{Seen}
use Rattle.import_spec.specs.declared.seen.Seen.TheVariants as seen
use Rattle.import_spec.specs.declared.seen.Sighting.{Sighting}
use Rattle.import_spec.specs.Marked.{read_line}

-- ---- the acts of a line (what its events do)

-- The act (what an event does) that creates a task in the root group.
abbrev pub made : Pid → Cpu → Act
made pid cpu = act.Fork pid (codes "/") cpu

-- The acts (what events do) for a wakeup line of task `pid`. The task is created if it doesn't
-- exist, and woken if it is blocked. The list is empty if the task is ready or running.
abbrev pub wakeup_acts : Pid → Cpu → Option Task → List Act
wakeup_acts pid cpu None = made pid cpu ∷ []
wakeup_acts pid cpu (Some task) = if is_active task.mode then [] else act.Wake pid cpu ∷ []

-- The acts (what events do) for a migration line of task `pid`. A task that is ready on another
-- processor migrates to processor `cpu`. The list is empty for any other task.
abbrev pub migration_acts : Pid → Cpu → Option Task → List Act
migration_acts pid cpu None = []
migration_acts pid cpu (Some task) =
    if is_ready task.mode && not (task.cpu.0 == cpu.0) then act.Migrate pid cpu ∷ [] else []

-- The acts (what events do) that make the existing task `pid` ready on processor `cpu`. A blocked
-- task is woken there, a task that is ready on another processor migrates, and a running task is
-- preempted and then migrates.
abbrev pub coming_acts : Pid → Cpu → Cpu → Mode → List Act
coming_acts pid cpu from Blocked = act.Wake pid cpu ∷ []
coming_acts pid cpu from Waiting = act.Wake pid cpu ∷ []
coming_acts pid cpu from Ready = if from.0 == cpu.0 then [] else act.Migrate pid cpu ∷ []
coming_acts pid cpu from Running = act.Switch from None Preempt ∷ act.Migrate pid cpu ∷ []

-- The acts (what events do) that make task `pid` ready on processor `cpu`. A missing task (`None`)
-- is created there.
abbrev pub arrival_acts : Pid → Cpu → Option Task → List Act
arrival_acts pid cpu None = made pid cpu ∷ []
arrival_acts pid cpu (Some task) = coming_acts pid cpu task.cpu task.mode

-- The acts (what events do) that make the next task of a switch line ready on processor `cpu`. The
-- list is empty if the line names no next task.
abbrev pub next_acts : Tasks → Cpu → Option Pid → List Act
next_acts tasks cpu None = []
next_acts tasks cpu (Some pid) = arrival_acts pid cpu (task_of tasks pid.0)

-- Whether the optional task is running on processor `cpu`.
abbrev pub runs_there : Tasks → Cpu → Option Pid → Bool
runs_there tasks cpu None = false
runs_there tasks cpu (Some pid) = is_some_and (task_of tasks pid.0) (is_running_on cpu.0)

-- `leaving tasks cpu previous how`: how the running task leaves processor `cpu`. This is `how`, as
-- in the switch line, if the line's previous task is running there. If not, it is preemption.
abbrev pub leaving : Tasks → Cpu → Option Pid → How → How
leaving tasks cpu previous how = if runs_there tasks cpu previous then how else Preempt

-- The acts (what events do) that start the next task on the idle processor `cpu`. The list is empty
-- if there is no next task.
abbrev pub start_acts : Cpu → Option Pid → List Act
start_acts cpu None = []
start_acts cpu (Some pid) = act.Switch cpu (Some pid) Idle ∷ []

-- `turn_acts tasks cpu previous next how`: the acts (what events do) of a switch on processor
-- `cpu`. The running task leaves, if there is one, and the task `next` starts, if there is one.
abbrev pub turn_acts : Tasks → Cpu → Option Pid → Option Pid → How → List Act
turn_acts tasks cpu previous next how =
    if is_some (running_on tasks cpu.0) then act.Switch cpu next (leaving tasks cpu previous how) ∷ []
    else start_acts cpu next

-- The acts (what events do) for a switch line. The list is empty if the next task is running on the
-- processor already. Otherwise the next task is made ready there, the running task leaves, and the
-- next task starts. Making the next task ready doesn't change which task is running there.
abbrev pub switch_acts : Tasks → Cpu → Option Pid → Option Pid → How → List Act
switch_acts tasks cpu previous next how =
    if runs_there tasks cpu next then [] else next_acts tasks cpu next ++ turn_acts tasks cpu previous next how

-- The acts (what events do) for an imported line. `tasks` are the live tasks before the line.
abbrev pub acts_of : Tasks → Seen → List Act
acts_of tasks (seen.Switch cpu previous next how) = switch_acts tasks cpu previous next how
acts_of tasks (seen.Wakeup pid cpu) = wakeup_acts pid cpu (task_of tasks pid.0)
acts_of tasks (seen.Migration pid cpu) = migration_acts pid cpu (task_of tasks pid.0)

-- ---- the time of a line, and the causes of its rejection

-- The progress of an import: the time (ns) of the first marked line, if any; the trace time (ns) of
-- the last marked line, or 0; and the world (the tasks and groups) after the events of the earlier
-- lines. A marked line contains the name of an imported tracepoint.
pub record Reached : Type 0 where
  pub first : Option ℕ
  pub moment : ℕ
  pub world : World

-- The progress of an import before the first line.
abbrev pub unreached : Reached
unreached = record { first = None; moment = 0; world = first_world }

-- The time (ns) of the first marked line (a line with the name of an imported tracepoint). If no
-- earlier line is marked, the current line is the first, and its time is `at`.
abbrev pub first_time : Reached → ℕ → ℕ
first_time reached at = unwrap_or reached.first at

-- `line_moment reached at`: the trace time (ns) of a line with the time `at` (ns). It is the time
-- since the first marked line, but at least the trace time of the previous marked line. A marked
-- line contains the name of an imported tracepoint.
abbrev pub line_moment : Reached → ℕ → ℕ
line_moment reached at = max reached.moment (at - first_time reached at)

-- The default length of a tick (ns): 2 s.
abbrev pub default_tick : ℕ
default_tick = 2000000000

-- The latest time (ns) of a trace with the default tick: a million ticks.
abbrev pub latest_moment : ℕ
latest_moment = 1000000 * default_tick

-- The maximum number of imported events, without the `end` event.
abbrev pub most_imported : ℕ
most_imported = 3999999

-- The processor that a line requires: the processor of a switch, or the target processor of a
-- wakeup or migration.
abbrev pub needed_cpu : Seen → Cpu
needed_cpu (seen.Switch cpu previous next how) = cpu
needed_cpu (seen.Wakeup pid cpu) = cpu
needed_cpu (seen.Migration pid cpu) = cpu

-- Whether one of the acts (what events do) creates a task.
abbrev pub make_task : List Act → Bool
make_task acts = list_any (λ (what : Act). is_some (names what).new_task) acts

-- `acts_cause cpus w moment cpu acts`: the first cause for which a line is rejected, or `None`. The
-- line has the acts `acts` (what its events do), the trace time `moment` (ns) and the processor
-- `cpu`. `w` is the world (the tasks and groups) before the line.
abbrev pub acts_cause : ℕ → World → ℕ → Cpu → List Act → Option ImportCause
acts_cause cpus w moment cpu acts =
    if nat_le cpus cpu.0 then Some cause.BadCpu
    else if nat_lt latest_moment moment then Some cause.TooLate
    else if make_task acts && nat_le most_tasks (tasks_by.len w.tasks) then Some cause.TooManyTasks
    else if nat_lt most_imported (w.lines + length acts) then Some cause.TooManyEvents
    else None

-- ---- the result of one line

-- The result of a line: its events, and the progress of the import after the line.
pub record LineEvents : Type 0 where
  pub events : List Event
  pub reached : Reached

-- `events_or reached at moment acts cause`: the result of a line that ftrace printed at the time
-- `at` (ns). The events of the line do `acts`, and have the time `moment` (ns) in the trace. If
-- there is a cause of rejection, the result is this cause.
abbrev pub events_or : Reached → ℕ → ℕ → List Act → Option ImportCause → Result LineEvents ImportCause
events_or reached at moment acts (Some why) = Err why
events_or reached at moment acts None = Ok (record {
  events = events_at moment acts;
  reached = record {
    first = Some (first_time reached at);
    moment = moment;
    world = after_from reached.world (events_at moment acts);
  };
})

-- `line_events_at cpus reached at what`: the result of a line that reports `what` at the time `at`
-- (ns) on a machine with `cpus` processors. If the line is rejected, the result is the cause.
unfoldable pub line_events_at : ℕ → Reached → ℕ → Seen → Result LineEvents ImportCause
line_events_at cpus reached at what =
    events_or reached at (line_moment reached at) (acts_of reached.world.tasks what)
    (acts_cause cpus reached.world (line_moment reached at) (needed_cpu what) (acts_of reached.world.tasks what))

-- The result of a parsed line, or the cause of its rejection. A line without the name of an
-- imported tracepoint has no events, and doesn't change the progress of the import.
abbrev pub events_read : ℕ → Reached → Result (Option Sighting) ImportCause → Result LineEvents ImportCause
events_read cpus reached (Err why) = Err why
events_read cpus reached (Ok None) = Ok (record { events = []; reached = reached })
events_read cpus reached (Ok (Some sighting)) = line_events_at cpus reached sighting.at sighting.seen

-- Parses a line without its newline, and returns the result of the line or the cause of its
-- rejection.
unfoldable pub events_of_line : ℕ → Reached → List ℕ → Result LineEvents ImportCause
events_of_line cpus reached line = events_read cpus reached (read_line line)
