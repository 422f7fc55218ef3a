-- Defines the task and the group that an event names, and the task that it changes. Here an event
-- is represented without its time (`Act`).
use Rattle.std.specs.Prelude.{◌≡◌, ℕ, ◌<◌, List, Option, None, Some, IfSome, slice_index_or, unwrap_or}
use Rattle.psi_base.specs.declared.event.Cpu.{Cpu}
use Rattle.psi_base.specs.declared.event.Pid.{Pid}
use Rattle.psi_base.specs.declared.event.Act.{Act}
use Rattle.psi_base.specs.declared.event.Act.TheVariants as act
use Rattle.psi_counts.specs.declared.changes.Change.{Change}
use Rattle.psi_spec.specs.declared.machine.GroupLife.{GroupLife}
use Rattle.psi_spec.specs.declared.machine.Task.{Task}
use Rattle.psi_base.specs.declared.event.Slot.{Slot}
use Rattle.psi_spec.specs.Names.{names}
use Rattle.psi_spec.specs.Collected.{slot_named}
use Rattle.psi_spec.specs.World.{Tasks, as_slot, is_running_on, slot_of, task_of}
use Rattle.psi_counts.specs.Touch.{part, shown, task_after}
use Rattle.psi_spec.specs.Changes.{before}
use Rattle.task_table.specs.declared.task_update.TaskUpdate.{TaskUpdate}

-- `next_task tasks next`: the live task with the pid `next` that a switch names. `None` if the
-- switch names no pid, or if there is no such task.
abbrev pub next_task : Tasks → Option Pid → Option Task
next_task tasks None = None
next_task tasks (Some pid) = task_of tasks pid.0

-- `named_task tasks act`: the live task with the pid that the event `act` names, or `None`. For a
-- fork, this is a task that already has the new pid. For a switch, it is the next task to run.
abbrev pub named_task : Tasks → Act → Option Task
named_task tasks (act.Fork pid path cpu) = task_of tasks pid.0
named_task tasks (act.Wake pid cpu) = task_of tasks pid.0
named_task tasks (act.Switch cpu next how) = next_task tasks next
named_task tasks (act.Stall pid) = task_of tasks pid.0
named_task tasks (act.Unstall pid) = task_of tasks pid.0
named_task tasks (act.Migrate pid cpu) = task_of tasks pid.0
named_task tasks (act.Move pid path) = task_of tasks pid.0
named_task tasks _ = None

-- `group_with groups path`: the slot of the live group with the path `path`. The result is `None`
-- if `path` is `None`, or if there is no such group.
abbrev pub group_with : List GroupLife → Option (List ℕ) → Option Slot
group_with groups None = None
group_with groups (Some path) = as_slot (slot_of groups path)

-- `slot_with groups path`: the slot of the live group with the path `path`, or the root's slot if
-- `path` is `None` or there is no such group.
abbrev pub slot_with : List GroupLife → Option (List ℕ) → Slot
slot_with groups None = record { 0 = 0 }
slot_with groups (Some path) = slot_named groups path

-- `named_group groups act`: the slot of the live group whose path the event `act` names, or `None`.
-- The path of a group that the event creates isn't looked up.
abbrev pub named_group : List GroupLife → Act → Option Slot
named_group groups a = group_with groups (names a).live_path

-- `slot_or_root group`: the slot `group`, or the root's slot for `None`.
abbrev pub slot_or_root : Option Slot → Slot
slot_or_root group = unwrap_or group (record { 0 = 0 })

-- `named_slot groups act`: the slot of the live group whose path the event `act` names, or the
-- root's slot if the event names no path or there is no such group.
abbrev pub named_slot : List GroupLife → Act → Slot
named_slot groups a = slot_with groups (names a).live_path

-- `IsChanged groups tasks a changed`: `changed` has the task whose counts the event `a` changes,
-- before and after the event.
pub record IsChanged (groups : List GroupLife) (tasks : Tasks) (a : Act) (changed : TaskUpdate) : Type 0 where
  pub old : changed.old ≡ before tasks a
  pub new : changed.new ≡ task_after groups tasks a

-- `MayReplace slots old new`: the task `new` may replace the task `old`. Either both are running on
-- the same processor or neither is running, and the slot of `new` is less than `slots`.
pub record MayReplace (slots : ℕ) (old new : Task) : Type 0 where
  pub runs : (cpu : ℕ) → is_running_on cpu new ≡ is_running_on cpu old
  pub room : new.slot.0 < slots

-- `MayReplaceIf slots old new`: if both tasks exist, `new` may replace `old` (`MayReplace`).
abbrev pub MayReplaceIf : ℕ → Option Task → Option Task → Type 0
MayReplaceIf slots old new = IfSome old (λ o. IfSome new (λ n. MayReplace slots o n))

-- `change_for at changed running irq cpu`: the change of processor `cpu` by an event at the time
-- `at` (ns) that doesn't turn accounting on or off. `changed` is the task that the event changes,
-- `running` the task that runs on the processor after the event, and `irq` the time (ns) that
-- interrupts took there.
abbrev pub change_for : ℕ → TaskUpdate → Option (ℕ × Task) → ℕ → ℕ → Change
change_for at changed running irq cpu =
    record { at = at; minus = part cpu changed.old; plus = part cpu changed.new; current = shown running; irq = irq; account = None }

-- `touched_change at changed running cpu`: the number and the change of processor `cpu` for an
-- event at the time `at` (ns) that reports no interrupt time. `None` if `cpu` is `None`. `changed`
-- is the task that the event changes, and `running` has each processor's running task after the
-- event.
abbrev pub touched_change : ℕ → TaskUpdate → List (Option (ℕ × Task)) → Option Cpu → Option (Cpu × Change)
touched_change at changed running None = None
touched_change at changed running (Some cpu) = Some (cpu, change_for at changed (slice_index_or running cpu.0 None) 0 cpu.0)
