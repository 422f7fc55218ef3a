-- Defines task events (`TaskAct`), which name no group and create no task, and the conversion of a
-- task event to an event of a trace.
use Rattle.std.specs.Prelude.{ℕ, Bool, true, false, Option, Some}
use Rattle.psi_base.specs.declared.event.Pid.{Pid}
use Rattle.psi_base.specs.declared.event.Act.{Act}
use Rattle.psi_base.specs.declared.event.Act.TheVariants as act
use Rattle.psi_base.specs.declared.event.Event.{Event}
use Rattle.psi_spec.specs.Refusal.{is_exit}
use Rattle.trace_player.specs.declared.task_act.TaskAct.{TaskAct}
use Rattle.trace_player.specs.declared.task_act.TaskAct.TheVariants as task_act

-- Converts a task event (`TaskAct`) to an `Act`, which says what an event does.
abbrev pub as_act : TaskAct → Act
as_act (task_act.Wake pid cpu) = act.Wake pid cpu
as_act (task_act.Switch cpu next how) = act.Switch cpu next how
as_act (task_act.Stall pid) = act.Stall pid
as_act (task_act.Unstall pid) = act.Unstall pid
as_act (task_act.Migrate pid cpu) = act.Migrate pid cpu

-- `as_event at what`: the event at time `at` (ns) that does what the task event `what` does.
abbrev pub as_event : ℕ → TaskAct → Event
as_event at what = record { at = at; act = as_act what }

-- Returns whether an `Act` is a task event: it names no group and creates no task.
abbrev pub is_task_act : Act → Bool
is_task_act (act.Wake pid cpu) = true
is_task_act (act.Switch cpu next how) = true
is_task_act (act.Stall pid) = true
is_task_act (act.Unstall pid) = true
is_task_act (act.Migrate pid cpu) = true
is_task_act _ = false

-- Returns whether a task event (`TaskAct`) makes the running task exit.
abbrev pub exits : TaskAct → Bool
exits (task_act.Switch cpu next how) = is_exit how
exits _ = false

-- The pid of the task that a task event (`TaskAct`) names. For a switch, it is the pid of the next
-- task, or `None` if the processor becomes idle.
abbrev pub pid_of : TaskAct → Option Pid
pid_of (task_act.Wake pid cpu) = Some pid
pid_of (task_act.Switch cpu next how) = next
pid_of (task_act.Stall pid) = Some pid
pid_of (task_act.Unstall pid) = Some pid
pid_of (task_act.Migrate pid cpu) = Some pid
