-- States the laws of imports. The output is an accepted trace. After a switch, the processor runs
-- the next task. After a wakeup, the task isn't blocked.
use Rattle.std.specs.Prelude.{◌≡◌, ◌≢◌, ℕ, List, [], ◌∷◌, ◌++◌, true, Option, None, Some, option_map, Result, Ok, Err}
use Rattle.psi_base.specs.declared.event.Cpu.{Cpu}
use Rattle.psi_base.specs.declared.event.Event.{Event}
use Rattle.psi_base.specs.declared.event.How.{How}
use Rattle.psi_base.specs.declared.event.Pid.{Pid}
use Rattle.psi_base.specs.Path.{parts_at}
use Rattle.psi_base.specs.Missing.{is_some_and}
use Rattle.psi_spec.specs.declared.machine.Task.{Task}
use Rattle.psi_spec.specs.Fields.{IsAmong}
use Rattle.psi_spec.specs.Grammar.{One, Version}
use Rattle.psi_spec.specs.Trace.{IsCpuCount, accepts_with, text_of}
use Rattle.psi_spec.specs.Laws.{IsTrace}
use Rattle.psi_spec.specs.World.{Tasks, after, is_active, running_on, task_of}
use Rattle.import_spec.specs.declared.cause.ImportCause.{ImportCause}
use Rattle.import_spec.specs.declared.seen.Seen.TheVariants as seen
use Rattle.import_spec.specs.declared.seen.Sighting.{Sighting}
use Rattle.import_spec.specs.Marked.{read_line}
use Rattle.import_spec.specs.Events.{LineEvents, Reached, default_tick, events_of_line, unreached}
use Rattle.import_spec.specs.Import.{import_of, import_trace}

-- If the import accepts a text for 1 to 64 processors, every program that accepts version 1 accepts
-- the imported trace, with the default tick.
abbrev pub ImportedIsTrace : Type 0
ImportedIsTrace =
    (cpus : ℕ) (bytes : List ℕ) (events : List Event) (versions : List Version) → IsCpuCount cpus → import_of cpus bytes ≡ Ok events
    → IsAmong One versions
    → IsTrace (accepts_with versions default_tick) (text_of (import_trace cpus events)) (import_trace cpus events)

-- `after_events line_events next`: calls `next` with the progress of an import after an accepted
-- line. Returns `None` if the line is rejected.
abbrev pub after_events : Result LineEvents ImportCause → (Reached → Option Reached) → Option Reached
after_events (Err why) next = None
after_events (Ok line_events) next = next line_events.reached

-- `reached_by cpus reached lines`: the progress of an import after these complete lines, starting
-- from `reached`, or `None` if a line is rejected.
abbrev pub reached_by : ℕ → Reached → List (List ℕ) → Option Reached
reached_by cpus reached [] = Some reached
reached_by cpus reached (line ∷ lines) = after_events (events_of_line cpus reached line) (λ suffix. reached_by cpus suffix lines)

-- `GivesAfter cpus lines line sighting line_events`: all lines in `lines` are accepted. The marked
-- line `line`, which follows them, contains `sighting` (a time and an event of the kernel) and adds
-- the events `line_events`.
pub record GivesAfter (cpus : ℕ) (lines : List (List ℕ)) (line : List ℕ) (sighting : Sighting) (line_events : LineEvents) : Type 0 where
  pub counted : IsCpuCount cpus
  pub reached : Reached
  pub suffix : reached_by cpus unreached lines ≡ Some reached
  pub shows : read_line line ≡ Ok (Some sighting)
  pub gives : events_of_line cpus reached line ≡ Ok line_events

-- Returns the task that runs on processor `cpu`, or `None`.
abbrev pub runner : Tasks → ℕ → Option Pid
runner tasks cpu = option_map (λ (e : ℕ × Task). let pid : Pid = record { 0 = e.0 } in pid) (running_on tasks cpu)

-- After the line of a switch, its processor runs the next task that the line names, or no task.
abbrev pub SwitchRunsNext : Type 0
SwitchRunsNext =
    (cpus : ℕ) (lines : List (List ℕ)) (line : List ℕ) (at : ℕ) (cpu : Cpu) (previous next : Option Pid) (how : How)
    (line_events : LineEvents)
    → GivesAfter cpus lines line (record { at = at; seen = seen.Switch cpu previous next how }) line_events
    → runner line_events.reached.world.tasks cpu.0 ≡ next

-- After the line of a wakeup, its task is live and isn't blocked.
abbrev pub WakeupWakes : Type 0
WakeupWakes = (cpus : ℕ) (lines : List (List ℕ)) (line : List ℕ) (at : ℕ) (pid : Pid) (cpu : Cpu) (line_events : LineEvents)
    → GivesAfter cpus lines line (record { at = at; seen = seen.Wakeup pid cpu }) line_events
    → is_some_and (task_of line_events.reached.world.tasks pid.0) (λ task. is_active task.mode) ≡ true

-- `IsWritten cpus lines line events`: the events of the complete line `line`, which follows
-- `lines`, form one section of the written events `events`. The events before this section lead to
-- the world before the line, and the events up to its end to the world after the line. So a law
-- about the world after a line also holds after a prefix of the written events.
pub record IsWritten (cpus : ℕ) (lines : List (List ℕ)) (line : List ℕ) (events : List Event) : Type 0 where
  pub prefix : List Event
  pub suffix : List Event
  pub reached : Reached
  pub line_events : LineEvents
  pub before : reached_by cpus unreached lines ≡ Some reached
  pub gives : events_of_line cpus reached line ≡ Ok line_events
  pub written : events ≡ prefix ++ line_events.events ++ suffix
  pub there : reached.world ≡ after prefix
  pub world : line_events.reached.world ≡ after (prefix ++ line_events.events)

-- The events of each complete line of an accepted text form one section of the written events
-- (`IsWritten`).
abbrev pub LinesAreWritten : Type 0
LinesAreWritten = (cpus : ℕ) (bytes : List ℕ) (events : List Event) (lines more : List (List ℕ)) (line : List ℕ)
    → import_of cpus bytes ≡ Ok events → parts_at 10 bytes ≡ lines ++ line ∷ more → more ≢ []
    → IsWritten cpus lines line events
