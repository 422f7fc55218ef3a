-- Defines the first cause for rejecting an event, for each kind of event. Each function takes only
-- the parts of the scheduler state that the check reads.
use Rattle.std.specs.Prelude.{◌≡◌, ℕ, List, nat_lt, nat_le, not, Bool, true, false, ◌&&◌, if◌then◌else◌, Option, None, Some, is_some}
use Rattle.std.specs.FinMap as tasks_by
use Rattle.psi_base.specs.declared.event.Cpu.{Cpu}
use Rattle.psi_base.specs.declared.event.Pid.{Pid}
use Rattle.psi_base.specs.declared.event.How.{How}
use Rattle.psi_base.specs.declared.event.Act.{Act}
use Rattle.psi_base.specs.declared.event.Act.TheVariants as act
use Rattle.psi_base.specs.declared.event.Event.{Event}
use Rattle.psi_base.specs.declared.event.Cause.{Cause}
use Rattle.psi_base.specs.declared.event.Cause.TheVariants as cause
use Rattle.psi_base.specs.declared.event.Fault.{Fault}
use Rattle.psi_base.specs.declared.event.Fault.TheVariants as fault
use Rattle.psi_base.specs.Missing.{is_some_and}
use Rattle.psi_spec.specs.declared.machine.Task.{Task}
use Rattle.psi_spec.specs.declared.machine.GroupLife.{GroupLife}
use Rattle.psi_spec.specs.World.{World, Limits, Tasks, task_of, running_on, task_part, is_active, is_ready, is_ready_on, is_running, slot_of, most_tasks, most_events, most_pressures}
use Rattle.psi_spec.specs.Refusal.{has_member, irq_too_long, is_window, is_wrong, is_exit, lacks_group}
use Rattle.group_tree.specs.Tree.{add_cause, pressure_cause, remove_cause}
use Rattle.task_table.specs.Named.{next_task}

-- `or_cause first second`: the cause `first`, or `second` if `first` is `None`.
abbrev pub or_cause : Option Cause → Option Cause → Option Cause
or_cause None other = other
or_cause (Some why) other = Some why

-- `empty_cause groups tasks path`: the first cause for rejecting the removal of the group with the
-- path `path`. The causes of the tree of groups are checked first, and then `GroupBusy`, which
-- means that a live task is in the group.
abbrev pub empty_cause : List GroupLife → Tasks → List ℕ → Option Cause
empty_cause groups tasks path =
    or_cause (remove_cause groups path) (if has_member tasks (slot_of groups path) then Some cause.GroupBusy else None)

-- `path_cause lacks_group`: the cause for rejecting an event that names a group, or `None`.
-- `lacks_group` is whether no live group has the path.
abbrev pub path_cause : Bool → Option Cause
path_cause lacks_group = if lacks_group then Some cause.UnknownGroup else None

-- `fork_cause cpus lacks_group live task cpu`: the first cause for rejecting a fork of a task on
-- processor `cpu`. `cpus` is the number of processors, and `live` is the number of live tasks.
-- `lacks_group` is whether no live group has the path. `task` is the live task that already has the
-- new pid, or `None`.
abbrev pub fork_cause : ℕ → Bool → ℕ → Option Task → ℕ → Option Cause
fork_cause cpus lacks_group live task cpu =
    if nat_le most_tasks live then Some cause.TooManyTasks else
    if lacks_group then Some cause.UnknownGroup else
    if is_some task then Some cause.TaskExists else
    if nat_le cpus cpu then Some cause.BadCpu else None

-- `wake_cause cpus task cpu`: the first cause for rejecting a wakeup of `task` on processor `cpu`,
-- one of `cpus` processors. The causes are: no such task, no such processor, or a task that isn't
-- blocked.
abbrev pub wake_cause : ℕ → Option Task → ℕ → Option Cause
wake_cause cpus task cpu =
    if not (is_some task) then Some cause.UnknownTask else
    if nat_le cpus cpu then Some cause.BadCpu else
    if is_some_and task (λ task. is_active task.mode) then Some cause.NotBlocked else None

-- `how_cause how running`: the first cause for rejecting the way `how` in which the running task
-- leaves its processor. `idle` requires that no task is running, and each other way requires a
-- running task. A task in a memory stall can't exit.
abbrev pub how_cause : How → Option (ℕ × Task) → Option Cause
how_cause how running =
    if is_wrong how running then Some cause.WrongHow else
    if is_exit how && is_some_and (task_part running) (λ task. task.stalled) then Some cause.InStall else None

-- `next_cause cpus cpu next task`: the first cause for rejecting that `task` with the pid `next`
-- starts on processor `cpu`. The causes are: no such task, no such processor (`cpus` is the number
-- of processors), or a task that isn't ready there.
abbrev pub next_cause : ℕ → ℕ → Option Pid → Option Task → Option Cause
next_cause cpus cpu None task = if nat_le cpus cpu then Some cause.BadCpu else None
next_cause cpus cpu (Some pid) task =
    if not (is_some task) then Some cause.UnknownTask else
    if nat_le cpus cpu then Some cause.BadCpu else
    if not (is_some_and task (is_ready_on cpu)) then Some cause.NotReady else None

-- `switch_cause cpus cpu next task how running`: the first cause for rejecting a context switch on
-- processor `cpu`. The next task is checked first (`next_cause`), and then the way `how` in which
-- the task `running` leaves the processor (`how_cause`).
abbrev pub switch_cause : ℕ → ℕ → Option Pid → Option Task → How → Option (ℕ × Task) → Option Cause
switch_cause cpus cpu next task how running = or_cause (next_cause cpus cpu next task) (how_cause how running)

-- `stall_cause task`: the first cause for rejecting the start of a memory stall. The causes are: no
-- such task, a task that isn't running, or a task that is already in a stall.
abbrev pub stall_cause : Option Task → Option Cause
stall_cause task =
    if not (is_some task) then Some cause.UnknownTask else
    if is_some_and task (λ task. not (is_running task.mode)) then Some cause.NotRunning else
    if is_some_and task (λ task. task.stalled) then Some cause.InStall else None

-- `unstall_cause task`: the first cause for rejecting the end of a memory stall. The causes are: no
-- such task, a task that isn't running, or a task that isn't in a stall.
abbrev pub unstall_cause : Option Task → Option Cause
unstall_cause task =
    if not (is_some task) then Some cause.UnknownTask else
    if is_some_and task (λ task. not (is_running task.mode)) then Some cause.NotRunning else
    if is_some_and task (λ task. not task.stalled) then Some cause.NotInStall else None

-- `migrate_cause cpus task cpu`: the first cause for rejecting a migration of `task` to processor
-- `cpu`. The causes are: no such task, no such processor (`cpus` is the number of processors), or a
-- task that isn't ready.
abbrev pub migrate_cause : ℕ → Option Task → ℕ → Option Cause
migrate_cause cpus task cpu =
    if not (is_some task) then Some cause.UnknownTask else
    if nat_le cpus cpu then Some cause.BadCpu else
    if is_some_and task (λ task. not (is_ready task.mode)) then Some cause.NotReady else None

-- `move_cause lacks_group task`: the first cause for rejecting a move of `task` to a group.
-- `lacks_group` is whether no live group has the path. The causes are: no such group, or no such
-- task.
abbrev pub move_cause : Bool → Option Task → Option Cause
move_cause lacks_group task =
    if lacks_group then Some cause.UnknownGroup else
    if not (is_some task) then Some cause.UnknownTask else None

-- `trigger_cause lacks_group triggers threshold window`: the first cause for rejecting a new
-- trigger. The causes are: `triggers`, the number of earlier triggers, is 256; no such group
-- (`lacks_group`); or a threshold or window (us) out of range.
abbrev pub trigger_cause : Bool → ℕ → ℕ → ℕ → Option Cause
trigger_cause lacks_group triggers threshold window =
    if nat_le 256 triggers then Some cause.TooManyTriggers else
    if lacks_group then Some cause.UnknownGroup else
    if not (is_window threshold window) then Some cause.BadWindow else None

-- `irq_cause cpus irqs at cpu ns`: the first cause for rejecting an `irq` line at the time `at`
-- (ns). The causes are: no such processor (`cpus` is the number of processors), or an interrupt
-- time `ns` (ns) of more than a second or of more than the time since the processor's last `irq`
-- line. `irqs` has the time (ns) of each processor's last `irq` line.
abbrev pub irq_cause : ℕ → List ℕ → ℕ → Cpu → ℕ → Option Cause
irq_cause cpus irqs at cpu ns =
    if nat_le cpus cpu.0 then Some cause.BadCpu else
    if irq_too_long irqs at (act.Irq cpu ns) then Some cause.IrqTooLong else None

-- `account_cause groups pressures path`: the first cause for rejecting a `pressure` line, which
-- turns the accounting of the group with the path `path` on or off. `pressures` is the number of
-- earlier `pressure` lines.
abbrev pub account_cause : List GroupLife → ℕ → List ℕ → Option Cause
account_cause groups pressures path = if nat_le most_pressures pressures then Some cause.TooManyPressures else pressure_cause groups path

-- `act_cause cpus groups tasks irqs triggers pressures at act`: the first cause for rejecting the
-- event `act` at the time `at` (ns). The checks that apply to every event, such as the check of its
-- time, aren't included. `cpus` is the number of processors, `irqs` has the time (ns) of each
-- processor's last `irq` line, and `triggers` and `pressures` are the numbers of earlier triggers
-- and `pressure` lines.
abbrev pub act_cause : ℕ → List GroupLife → Tasks → List ℕ → ℕ → ℕ → ℕ → Act → Option Cause
act_cause cpus groups tasks irqs triggers pressures at (act.Group path) = add_cause groups path
act_cause cpus groups tasks irqs triggers pressures at (act.Remove path) = empty_cause groups tasks path
act_cause cpus groups tasks irqs triggers pressures at (act.Prefer path preference) = path_cause (lacks_group groups (Some path))
act_cause cpus groups tasks irqs triggers pressures at (act.Fork pid path cpu) =
    fork_cause cpus (lacks_group groups (Some path)) (tasks_by.len tasks) (task_of tasks pid.0) cpu.0
act_cause cpus groups tasks irqs triggers pressures at (act.Wake pid cpu) = wake_cause cpus (task_of tasks pid.0) cpu.0
act_cause cpus groups tasks irqs triggers pressures at (act.Switch cpu next how) =
    switch_cause cpus cpu.0 next (next_task tasks next) how (running_on tasks cpu.0)
act_cause cpus groups tasks irqs triggers pressures at (act.Stall pid) = stall_cause (task_of tasks pid.0)
act_cause cpus groups tasks irqs triggers pressures at (act.Unstall pid) = unstall_cause (task_of tasks pid.0)
act_cause cpus groups tasks irqs triggers pressures at (act.Migrate pid cpu) = migrate_cause cpus (task_of tasks pid.0) cpu.0
act_cause cpus groups tasks irqs triggers pressures at (act.Move pid path) =
    move_cause (lacks_group groups (Some path)) (task_of tasks pid.0)
act_cause cpus groups tasks irqs triggers pressures at (act.Mem path current swap scan) = path_cause (lacks_group groups (Some path))
act_cause cpus groups tasks irqs triggers pressures at (act.Host mem_total swap_total swap_free) = None
act_cause cpus groups tasks irqs triggers pressures at (act.Trigger path res level threshold_us window_us) =
    trigger_cause (lacks_group groups (Some path)) triggers threshold_us window_us
act_cause cpus groups tasks irqs triggers pressures at (act.Irq cpu ns) = irq_cause cpus irqs at cpu ns
act_cause cpus groups tasks irqs triggers pressures at (act.Pressure path on) = account_cause groups pressures path
act_cause cpus groups tasks irqs triggers pressures at act.End = None

-- `groups_cause groups act`: the first cause for rejecting the event `act` that depends only on the
-- tree of groups.
abbrev pub groups_cause : List GroupLife → Act → Option Cause
groups_cause groups (act.Group path) = add_cause groups path
groups_cause groups (act.Remove path) = remove_cause groups path
groups_cause groups (act.Pressure path on) = pressure_cause groups path
groups_cause groups _ = None

-- `line_cause limits w at`: the first cause for rejecting an event at the time `at` (ns),
-- regardless of what the event does.
abbrev pub line_cause : Limits → World → ℕ → Option Cause
line_cause limits w at =
    if w.ended then Some cause.AfterEnd else
    if nat_lt at w.last then Some cause.TimeBack else
    if nat_lt limits.latest at then Some cause.TimeTooLate else
    if nat_le most_events w.lines then Some cause.TooManyEvents else None

-- `event_cause limits w event`: the first cause for rejecting an event. The causes that don't
-- depend on what the event does (`line_cause`) are checked first.
abbrev pub event_cause : Limits → World → Event → Option Cause
event_cause limits w event =
    or_cause (line_cause limits w event.at) (act_cause limits.cpus w.groups w.tasks w.irqs w.triggers w.pressures event.at event.act)

-- `makes_group act`: whether the event `act` creates a group.
abbrev pub makes_group : Act → Bool
makes_group (act.Group path) = true
makes_group _ = false

-- `takes_memory act`: whether the event `act` allocates memory, because it creates a task or a
-- group.
abbrev pub takes_memory : Act → Bool
takes_memory (act.Fork pid path cpu) = true
takes_memory (act.Group path) = true
takes_memory _ = false

-- `IsFault why act fault`: `fault` reports the cause `why`. `NoMemory` is possible only if `why` is
-- `None` and the event allocates memory.
abbrev pub IsFault : Option Cause → Act → Fault Cause → Type 0
IsFault why a (fault.Refused cause) = why ≡ Some cause
IsFault why a (fault.NoMemory _) = (why ≡ None) × (takes_memory a ≡ true)
