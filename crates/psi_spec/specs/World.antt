-- The world (the tasks and groups of a machine and the state of its trace), and the effect of each
-- event on it.
use Rattle.std.specs.Prelude.{ℕ, ◌+◌, List, [], ◌∷◌, ◌++◌, map, filter, nat_le, ◌==◌, ◌&&◌, ◌||◌, not, Bool, true, false, if◌then◌else◌, codes, Option, None, Some, is_some, find, unwrap_or, replicate, slice_get, slice_set}
use Rattle.std.specs.List.{list_any}
use Rattle.std.specs.Str.{bytes_eq}
use Rattle.std.specs.Ordering.{nat_cmp}
use Rattle.std.specs.FinMap as tasks_by
use Rattle.psi_base.specs.declared.event.Pid.{Pid}
use Rattle.psi_base.specs.declared.event.Cpu.{Cpu}
use Rattle.psi_base.specs.declared.event.Slot.{Slot}
use Rattle.psi_base.specs.declared.event.How.{How}
use Rattle.psi_base.specs.declared.event.How.TheVariants.{Preempt, Sleep, IoWait, Exit, Idle}
use Rattle.psi_base.specs.declared.event.Act.{Act}
use Rattle.psi_base.specs.declared.event.Act.TheVariants as act
use Rattle.psi_base.specs.declared.event.Event.{Event}
use Rattle.psi_spec.specs.Names.{names}
use Rattle.psi_spec.specs.declared.machine.Mode.{Mode}
use Rattle.psi_spec.specs.declared.machine.Mode.TheVariants.{Blocked, Waiting, Ready, Running}
use Rattle.psi_spec.specs.declared.machine.Task.{Task}
use Rattle.psi_spec.specs.declared.machine.GroupLife.{GroupLife}

-- ---- the live tasks of the machine

-- Whether a task with this mode is blocked until IO completes.
abbrev pub is_waiting : Mode → Bool
is_waiting Waiting = true
is_waiting Ready = false
is_waiting Running = false
is_waiting Blocked = false

-- Whether a task with this mode is ready but not running.
abbrev pub is_ready : Mode → Bool
is_ready Ready = true
is_ready Running = false
is_ready Waiting = false
is_ready Blocked = false

-- Whether a task with this mode is running.
abbrev pub is_running : Mode → Bool
is_running Running = true
is_running Ready = false
is_running Waiting = false
is_running Blocked = false

-- Whether a task with this mode is ready or running.
abbrev pub is_active : Mode → Bool
is_active mode = is_ready mode || is_running mode

-- The type of the live tasks, keyed by pid.
abbrev pub Tasks : Type 0
Tasks = tasks_by.FinMap nat_cmp Task

-- The empty set of tasks.
abbrev pub no_tasks : Tasks
no_tasks = tasks_by.empty

-- The live task with pid `pid`, or `None`.
abbrev pub task_of : Tasks → ℕ → Option Task
task_of tasks pid = tasks_by.get tasks pid

-- The tasks with `task` added under the pid `pid`. An earlier task with this pid is replaced.
abbrev pub put : Tasks → ℕ → Task → Tasks
put tasks pid task = tasks_by.insert tasks pid task

-- The tasks without the task with pid `pid`.
abbrev pub remove : Tasks → ℕ → Tasks
remove tasks pid = tasks_by.remove tasks pid

-- Whether a task is running on processor `cpu`.
abbrev pub is_running_on : ℕ → Task → Bool
is_running_on cpu task = task.cpu.0 == cpu && is_running task.mode

-- Whether a task is ready on processor `cpu`.
abbrev pub is_ready_on : ℕ → Task → Bool
is_ready_on cpu task = task.cpu.0 == cpu && is_ready task.mode

-- The running task of processor `cpu` with its pid, or `None` if no task is running there.
abbrev pub running_on : Tasks → ℕ → Option (ℕ × Task)
running_on tasks cpu = find (λ e. is_running_on cpu e.1) (tasks_by.entries tasks)

-- `task_part pair`: the task of the pair of a pid and a task, or `None` if `pair` is `None`.
abbrev pub task_part : Option (ℕ × Task) → Option Task
task_part None = None
task_part (Some e) = Some e.1

-- ---- the groups of the machine

-- Whether a group is live: it wasn't removed.
abbrev pub is_live : GroupLife → Bool
is_live group = not (is_some group.gone)

-- The slot of the live group with path `path`, or `None`, in a list whose first group is in slot
-- `slot`.
abbrev pub slot_from : ℕ → List GroupLife → List ℕ → Option ℕ
slot_from slot [] path = None
slot_from slot (group ∷ groups) path = if is_live group && bytes_eq group.path path then Some slot else slot_from (slot + 1) groups path

-- The slot of the live group with path `path`, or `None`.
abbrev pub slot_of : List GroupLife → List ℕ → Option ℕ
slot_of groups path = slot_from 0 groups path

-- The bytes before the last slash (byte 47), or no bytes if there is no slash.
abbrev pub before_last_slash : List ℕ → List ℕ
before_last_slash [] = []
before_last_slash (byte ∷ bytes) = if list_any (λ b. b == 47) bytes then byte ∷ before_last_slash bytes else []

-- The path itself, or the root's path if the path is empty.
abbrev pub or_root : List ℕ → List ℕ
or_root [] = codes "/"
or_root (byte ∷ bytes) = byte ∷ bytes

-- The path of the parent of the group with path `path`.
abbrev pub parent_path : List ℕ → List ℕ
parent_path path = or_root (before_last_slash path)

-- Whether the path is the path of the root.
abbrev pub is_root : List ℕ → Bool
is_root path = bytes_eq path (codes "/")

-- Converts an optional number to an optional slot.
abbrev pub as_slot : Option ℕ → Option Slot
as_slot None = None
as_slot (Some n) = Some (record { 0 = n })

-- The root group, which exists from the start.
abbrev pub root : GroupLife
root = record { path = codes "/"; parent = None; made = 0; gone = None; on = true }

-- The group that is created with path `path` at time `at` (ns): its parent is the live group with
-- the parent's path, and its accounting is on.
abbrev pub new_group : List GroupLife → List ℕ → ℕ → GroupLife
new_group groups path at = record { path = path; parent = as_slot (slot_of groups (parent_path path)); made = at; gone = None; on = true }

-- Marks a group as removed at time `at` (ns) if it is live and has path `path`. Any other group is
-- unchanged.
abbrev pub marked_removed : List ℕ → ℕ → GroupLife → GroupLife
marked_removed path at group = if is_live group && bytes_eq group.path path then record group { gone = Some at } else group

-- Sets the accounting of a group to `on` if it is live and has path `path`. Any other group is
-- unchanged.
abbrev pub marked_switched : List ℕ → Bool → GroupLife → GroupLife
marked_switched path on group = if is_live group && bytes_eq group.path path then record group { on = on } else group

-- Whether the accounting of a group is on. A group that doesn't exist counts as on.
abbrev pub is_on_life : Option GroupLife → Bool
is_on_life None = true
is_on_life (Some life) = life.on

-- Whether the accounting of the group in slot `slot` is on.
abbrev pub is_on : List GroupLife → ℕ → Bool
is_on groups slot = is_on_life (slice_get groups slot)

-- ---- the world: the tasks and groups of the machine

-- The maximum number of processors of a machine.
abbrev pub most_cpus : ℕ
most_cpus = 64

-- The maximum number of event lines of a trace.
abbrev pub most_events : ℕ
most_events = 4000000

-- The maximum number of `pressure` lines in a trace.
abbrev pub most_pressures : ℕ
most_pressures = 65536

-- The maximum number of groups that a trace may create, including the root.
abbrev pub most_groups : ℕ
most_groups = 1024

-- The maximum number of live tasks.
abbrev pub most_tasks : ℕ
most_tasks = 65536

-- The longest interrupt time (ns) of one `irq` line: a second.
abbrev pub longest_irq : ℕ
longest_irq = 1000000000

-- The limits that depend on the trace: its number of processors, and its latest time (ns).
pub record Limits : Type 0 where
  pub cpus : ℕ
  pub latest : ℕ

-- The world: the live tasks; all groups ever created, by slot; for each processor the time (ns) of
-- its last `irq` line, or 0; the numbers of triggers, `pressure` lines and event lines so far; the
-- time (ns) of the last event; and whether the trace has ended.
pub record World : Type 0 where
  pub tasks : Tasks
  pub groups : List GroupLife
  pub irqs : List ℕ
  pub triggers : ℕ
  pub pressures : ℕ
  pub lines : ℕ
  pub last : ℕ
  pub ended : Bool

-- The world at the start: the root is the only group, and there are no tasks.
abbrev pub first_world : World
first_world =
    record {
      tasks = no_tasks;
      groups = root ∷ [];
      irqs = replicate most_cpus 0;
      triggers = 0;
      pressures = 0;
      lines = 0;
      last = 0;
      ended = false;
    }

-- ---- the effects of events on tasks and groups

-- `change_to tasks pid f task`: the tasks after the task with pid `pid` is replaced by `f` applied
-- to `task`. If `task` is `None`, the tasks are unchanged.
abbrev pub change_to : Tasks → ℕ → (Task → Task) → Option Task → Tasks
change_to tasks pid f None = tasks
change_to tasks pid f (Some task) = put tasks pid (f task)

-- Applies `f` to the task with pid `pid`. The tasks are unchanged if no task has this pid.
abbrev pub change : Tasks → ℕ → (Task → Task) → Tasks
change tasks pid f = change_to tasks pid f (task_of tasks pid)

-- The task that is created on processor `cpu` in the group with path `path`: it is ready, and not
-- in a memory stall.
abbrev pub new_task : List GroupLife → List ℕ → ℕ → Task
new_task groups path cpu =
    record { slot = record { 0 = unwrap_or (slot_of groups path) 0 }; cpu = record { 0 = cpu }; mode = Ready; stalled = false }

-- The task after it was put on the run queue of processor `cpu`. If it was in a memory stall, it
-- still is.
abbrev pub prepared_changes : ℕ → Task → Task
prepared_changes cpu task = record task { mode = Ready; cpu = record { 0 = cpu } }

-- `left_by how task`: the running task after it left its processor in the way `how`. The result is
-- `None` if the task exited.
abbrev pub left_by : How → Task → Option Task
left_by Preempt task = Some (record task { mode = Ready })
left_by Sleep task = Some (record task { mode = Blocked })
left_by IoWait task = Some (record task { mode = Waiting })
left_by Exit task = None
left_by Idle task = Some task

-- Replaces the task with pid `pid` by the new task. `None` removes the task.
abbrev pub placed : Tasks → ℕ → Option Task → Tasks
placed tasks pid None = remove tasks pid
placed tasks pid (Some task) = put tasks pid task

-- `leave how tasks running`: the tasks after the running task left its processor in the way `how`.
-- If `running` is `None`, the tasks are unchanged.
abbrev pub leave : How → Tasks → Option (ℕ × Task) → Tasks
leave how tasks None = tasks
leave how tasks (Some e) = placed tasks e.0 (left_by how e.1)

-- `start next tasks`: the tasks after the task with the pid `next` began to run. If `next` is
-- `None`, the tasks are unchanged.
abbrev pub start : Option Pid → Tasks → Tasks
start None tasks = tasks
start (Some pid) tasks = change tasks pid.0 (λ task. record task { mode = Running })

-- The effects that events have on tasks: no effect; a new task in a group on a processor; a task
-- that is put on the run queue of a processor; the start or end of a task's memory stall; a task
-- that moves to another group; a switch from the running task of a processor to the next task;
-- interrupts that delay a processor's running task; and a switch of a group's accounting, which
-- concerns all processors. The last two effects change no task.
pub data Effect : Type 0 where
  none : Effect
  forks : Pid → List ℕ → Cpu → Effect
  readies : Pid → Cpu → Effect
  stalls : Pid → Bool → Effect
  moves : Pid → List ℕ → Effect
  switches : Cpu → Option Pid → How → Effect
  interrupts : Cpu → Effect
  switches_account : Effect

-- The effect of an event on tasks.
abbrev pub effect_of : Act → Effect
effect_of (act.Group path) = none
effect_of (act.Remove path) = none
effect_of (act.Prefer path preference) = none
effect_of (act.Fork pid path cpu) = forks pid path cpu
effect_of (act.Wake pid cpu) = readies pid cpu
effect_of (act.Switch cpu next how) = switches cpu next how
effect_of (act.Stall pid) = stalls pid true
effect_of (act.Unstall pid) = stalls pid false
effect_of (act.Migrate pid cpu) = readies pid cpu
effect_of (act.Move pid path) = moves pid path
effect_of (act.Mem path current swap scan) = none
effect_of (act.Host mem_total swap_total swap_free) = none
effect_of (act.Trigger path res level threshold_us window_us) = none
effect_of (act.Irq cpu ns) = interrupts cpu
effect_of (act.Pressure path on) = switches_account
effect_of act.End = none

-- The tasks after an effect, given the groups and the tasks before it.
abbrev pub tasks_by_effect : List GroupLife → Tasks → Effect → Tasks
tasks_by_effect groups tasks none = tasks
tasks_by_effect groups tasks (forks pid path cpu) = put tasks pid.0 (new_task groups path cpu.0)
tasks_by_effect groups tasks (readies pid cpu) = change tasks pid.0 (prepared_changes cpu.0)
tasks_by_effect groups tasks (stalls pid stalled) = change tasks pid.0 (λ task. record task { stalled = stalled })
tasks_by_effect groups tasks (moves pid path) =
    change tasks pid.0 (λ task. record task { slot = record { 0 = unwrap_or (slot_of groups path) 0 } })
tasks_by_effect groups tasks (switches cpu next how) = start next (leave how tasks (running_on tasks cpu.0))
tasks_by_effect groups tasks (interrupts cpu) = tasks
tasks_by_effect groups tasks switches_account = tasks

-- The tasks after an event, given the groups and the tasks before the event.
abbrev pub tasks_after : List GroupLife → Tasks → Act → Tasks
tasks_after groups tasks what = tasks_by_effect groups tasks (effect_of what)

-- `with_new at path groups`: the groups after the group with the path `path` is created at time
-- `at` (ns). If `path` is `None`, the groups are unchanged.
abbrev pub with_new : ℕ → Option (List ℕ) → List GroupLife → List GroupLife
with_new at None groups = groups
with_new at (Some path) groups = groups ++ new_group groups path at ∷ []

-- `with_removed at path groups`: the groups after the group with the path `path` is removed at time
-- `at` (ns). If `path` is `None`, the groups are unchanged.
abbrev pub with_removed : ℕ → Option (List ℕ) → List GroupLife → List GroupLife
with_removed at None groups = groups
with_removed at (Some path) groups = map (marked_removed path at) groups

-- `with_switched switched groups`: the groups after the accounting of one group is switched on or
-- off. `switched` has the group's path and the setting. If it is `None`, the groups are unchanged.
abbrev pub with_switched : Option (List ℕ × Bool) → List GroupLife → List GroupLife
with_switched None groups = groups
with_switched (Some switched) groups = map (marked_switched switched.0 switched.1) groups

-- The groups after an event at time `at` (ns), given the groups before the event. `what` is what
-- the event does.
abbrev pub groups_after : ℕ → List GroupLife → Act → List GroupLife
groups_after at groups what =
    with_new at (names what).new_path (with_removed at (names what).removed_path (with_switched (names what).switched groups))

-- The time (ns) of the last `irq` line of each processor after an event at time `at` (ns). The time
-- is 0 for a processor without such a line.
abbrev pub irqs_after : ℕ → List ℕ → Act → List ℕ
irqs_after at irqs (act.Irq cpu ns) = slice_set irqs cpu.0 at
irqs_after at irqs _ = irqs

-- Whether an event sets a trigger.
abbrev pub is_trigger : Act → Bool
is_trigger (act.Trigger path res level threshold_us window_us) = true
is_trigger _ = false

-- Whether an event switches the accounting of a group.
abbrev pub is_pressure : Act → Bool
is_pressure (act.Pressure path on) = true
is_pressure _ = false

-- Whether an event ends the trace.
abbrev pub ends : Act → Bool
ends act.End = true
ends _ = false

-- The world (the tasks and groups) after an event. `w` is the world before the event.
abbrev pub after_event : World → Event → World
after_event w event = record {
  tasks = tasks_after w.groups w.tasks event.act;
  groups = groups_after event.at w.groups event.act;
  irqs = irqs_after event.at w.irqs event.act;
  triggers = w.triggers + (if is_trigger event.act then 1 else 0);
  pressures = w.pressures + (if is_pressure event.act then 1 else 0);
  lines = w.lines + 1;
  last = event.at;
  ended = w.ended || ends event.act;
}

-- The world (the tasks and groups) after a list of events. `w` is the world before the first event.
abbrev pub after_from : World → List Event → World
after_from w [] = w
after_from w (event ∷ events) = after_from (after_event w event) events

-- The world (the tasks and groups) after a list of events from the start of a trace.
abbrev pub after : List Event → World
after events = after_from first_world events

-- The events at or before time `at` (ns). They are a prefix of `events` if the times are
-- non-decreasing.
abbrev pub up_to : List Event → ℕ → List Event
up_to events at = filter (λ (event : Event). nat_le event.at at) events

-- Makes an event at time `at` (ns) from each act (what an event does) in the list.
abbrev pub events_at : ℕ → List Act → List Event
events_at at acts = map (λ what. let event : Event = record { at = at; act = what } in event) acts
