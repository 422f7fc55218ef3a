-- Defines the processors that a task event affects. A task event is a wakeup, switch, stall,
-- unstall or migration; it names no group and creates no task.
use Rattle.std.specs.Prelude.{◌==◌, if◌then◌else◌, Option, None, Some}
use Rattle.psi_base.specs.declared.event.Cpu.{Cpu}
use Rattle.psi_spec.specs.declared.machine.Task.{Task}
use Rattle.trace_player.specs.declared.task_act.TaskAct.{TaskAct}
use Rattle.trace_player.specs.declared.task_act.TaskAct.TheVariants as task_act

-- `cpu_in task`: the processor of `task`, or `None` if there is no task.
abbrev pub cpu_in : Option Task → Option Cpu
cpu_in None = None
cpu_in (Some task) = Some task.cpu

-- `unless_on other task`: the processor of `task`, or `None` if there is no task or its processor
-- is `other`.
abbrev pub unless_on : Cpu → Option Task → Option Cpu
unless_on other None = None
unless_on other (Some task) = if task.cpu.0 == other.0 then None else Some task.cpu

-- `cpus_touched act old`: the processors that the event `act` affects, at most two. `old` is the
-- task that the event changes, in its state before the event.
abbrev pub cpus_touched : TaskAct → Option Task → Option Cpu × Option Cpu
cpus_touched (task_act.Wake pid cpu) old = (Some cpu, unless_on cpu old)
cpus_touched (task_act.Switch cpu next how) old = (Some cpu, None)
cpus_touched (task_act.Stall pid) old = (cpu_in old, None)
cpus_touched (task_act.Unstall pid) old = (cpu_in old, None)
cpus_touched (task_act.Migrate pid cpu) old = (Some cpu, unless_on cpu old)
