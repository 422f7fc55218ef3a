-- Defines which events are legal, given the tasks and groups before the event, and the first cause
-- for which an illegal event is rejected.
use Rattle.std.specs.Prelude.{◌≡◌, ℕ, ◌-◌, List, [], ◌∷◌, length, slice_index_or, nat_lt, nat_le, ◌==◌, ◌&&◌, ◌||◌, not, Bool, true, false, Option, None, Some, is_some, find}
use Rattle.std.specs.List.{list_any}
use Rattle.std.specs.FinMap as tasks_by
use Rattle.psi_base.specs.declared.event.Pid.{Pid}
use Rattle.psi_base.specs.declared.event.Slot.{Slot}
use Rattle.psi_base.specs.declared.event.How.{How}
use Rattle.psi_base.specs.declared.event.How.TheVariants.{Preempt, Sleep, IoWait, Exit, Idle}
use Rattle.psi_base.specs.declared.event.Act.{Act}
use Rattle.psi_base.specs.declared.event.Act.TheVariants as act
use Rattle.psi_base.specs.declared.event.Event.{Event}
use Rattle.psi_base.specs.declared.event.Cause.{Cause}
use Rattle.psi_base.specs.declared.event.Cause.TheVariants as cause
use Rattle.psi_base.specs.Missing.{is_some_and}
use Rattle.psi_spec.specs.declared.machine.Task.{Task}
use Rattle.psi_spec.specs.declared.machine.GroupLife.{GroupLife}
use Rattle.psi_spec.specs.Names.{names}
use Rattle.psi_spec.specs.World.{World, Limits, Tasks, task_of, running_on, task_part, is_running, is_ready, is_active, is_ready_on, is_live, is_trigger, is_pressure, slot_of, parent_path, is_root, after_event, most_groups, most_tasks, most_events, most_pressures, longest_irq}

-- ---- the conditions of single causes

-- Whether an event names a group that must be live, but no live group has this path.
abbrev pub lacks_group : List GroupLife → Option (List ℕ) → Bool
lacks_group groups None = false
lacks_group groups (Some path) = not (is_some (slot_of groups path))

-- Whether an event names a task that must be live, but no live task has this pid.
abbrev pub lacks_task : Tasks → Option Pid → Bool
lacks_task tasks None = false
lacks_task tasks (Some pid) = not (is_some (task_of tasks pid.0))

-- Whether an event names a processor that the machine doesn't have. `cpus` is the number of
-- processors.
abbrev pub lacks_cpu : ℕ → Option ℕ → Bool
lacks_cpu cpus None = false
lacks_cpu cpus (Some cpu) = nat_le cpus cpu

-- Whether an event creates a group although a live group has its path.
abbrev pub has_group : List GroupLife → Option (List ℕ) → Bool
has_group groups None = false
has_group groups (Some path) = is_some (slot_of groups path)

-- Whether an event creates a group although its parent isn't live.
abbrev pub lacks_parent : List GroupLife → Option (List ℕ) → Bool
lacks_parent groups None = false
lacks_parent groups (Some path) = not (is_some (slot_of groups (parent_path path)))

-- `is_slot n slot`: whether both optional slots are present and equal. The first slot is a number.
abbrev pub is_slot : Option ℕ → Option Slot → Bool
is_slot (Some n) (Some slot) = slot.0 == n
is_slot _ _ = false

-- Whether the group in `slot` has a live child. The result is false if `slot` is `None`.
abbrev pub has_child : List GroupLife → Option ℕ → Bool
has_child groups slot = list_any (λ group. is_live group && is_slot slot group.parent) groups

-- Whether a live task is in the group in `slot` itself. The result is false if `slot` is `None`.
abbrev pub has_member : Tasks → Option ℕ → Bool
has_member tasks slot = list_any (λ task. is_slot slot (Some task.slot)) (tasks_by.values tasks)

-- Whether the group to be removed is the root, or has a live child or a live task.
abbrev pub is_busy : World → Option (List ℕ) → Bool
is_busy w None = false
is_busy w (Some path) = is_root path || has_child w.groups (slot_of w.groups path) || has_member w.tasks (slot_of w.groups path)

-- Whether an event switches the accounting of the root.
abbrev pub switches_root : Option (List ℕ × Bool) → Bool
switches_root None = false
switches_root (Some switched) = is_root switched.0

-- Whether an event creates a task although a live task has its pid.
abbrev pub has_task : Tasks → Option Pid → Bool
has_task tasks None = false
has_task tasks (Some pid) = is_some (task_of tasks pid.0)

-- Whether `how`, the way in which the running task leaves its processor, is wrong: it is `idle`
-- although a task is running, or another way although no task is running.
abbrev pub is_wrong : How → Option (ℕ × Task) → Bool
is_wrong Idle running = is_some running
is_wrong Preempt running = not (is_some running)
is_wrong Sleep running = not (is_some running)
is_wrong IoWait running = not (is_some running)
is_wrong Exit running = not (is_some running)

-- Whether the running task leaves its processor by an exit.
abbrev pub is_exit : How → Bool
is_exit Exit = true
is_exit _ = false

-- `isnt_ready tasks cpu next`: whether the task with the pid `next` isn't ready on processor `cpu`.
-- The result is false if `next` is `None`.
abbrev pub isnt_ready : Tasks → ℕ → Option Pid → Bool
isnt_ready tasks cpu None = false
isnt_ready tasks cpu (Some pid) = not (is_some_and (task_of tasks pid.0) (is_ready_on cpu))

-- Whether the window is from 500,000 us to 10,000,000 us, and the threshold from 1 us to the
-- window.
abbrev pub is_window : ℕ → ℕ → Bool
is_window threshold window = nat_le 500000 window && nat_le window 10000000 && nat_le 1 threshold && nat_le threshold window

-- Whether an event begins or ends a memory stall of a task that isn't running.
abbrev pub not_running : Tasks → Act → Bool
not_running tasks (act.Stall pid) = is_some_and (task_of tasks pid.0) (λ task. not (is_running task.mode))
not_running tasks (act.Unstall pid) = is_some_and (task_of tasks pid.0) (λ task. not (is_running task.mode))
not_running tasks _ = false

-- Whether an event switches a processor to a next task that isn't ready there, or migrates a task
-- that isn't ready.
abbrev pub not_ready : Tasks → Act → Bool
not_ready tasks (act.Switch cpu next how) = isnt_ready tasks cpu.0 next
not_ready tasks (act.Migrate pid cpu) = is_some_and (task_of tasks pid.0) (λ task. not (is_ready task.mode))
not_ready tasks _ = false

-- Whether an event wakes a task that isn't blocked: the task is ready or running.
abbrev pub not_blocked : Tasks → Act → Bool
not_blocked tasks (act.Wake pid cpu) = is_some_and (task_of tasks pid.0) (λ task. is_active task.mode)
not_blocked tasks _ = false

-- Whether an event is a switch in which the running task can't leave the processor in the way that
-- the event names (see `is_wrong`).
abbrev pub wrong_how : Tasks → Act → Bool
wrong_how tasks (act.Switch cpu next how) = is_wrong how (running_on tasks cpu.0)
wrong_how tasks _ = false

-- Whether an event begins a memory stall of a task that is in a memory stall already, or is the
-- exit of a task in a memory stall.
abbrev pub in_stall : Tasks → Act → Bool
in_stall tasks (act.Stall pid) = is_some_and (task_of tasks pid.0) (λ task. task.stalled)
in_stall tasks (act.Switch cpu next how) = is_exit how && is_some_and (task_part (running_on tasks cpu.0)) (λ task. task.stalled)
in_stall tasks _ = false

-- Whether an event ends a memory stall of a task that isn't in a memory stall.
abbrev pub not_in_stall : Tasks → Act → Bool
not_in_stall tasks (act.Unstall pid) = is_some_and (task_of tasks pid.0) (λ task. not task.stalled)
not_in_stall tasks _ = false

-- Whether an event sets a trigger whose window or threshold is out of range.
abbrev pub bad_window : Act → Bool
bad_window (act.Trigger path res level threshold_us window_us) = not (is_window threshold_us window_us)
bad_window _ = false

-- Whether the interrupts of an `irq` line at time `at` (ns) took more than a second, or more than
-- the time since the previous `irq` line of the processor.
abbrev pub irq_too_long : List ℕ → ℕ → Act → Bool
irq_too_long irqs at (act.Irq cpu ns) = nat_lt longest_irq ns || nat_lt (at - slice_index_or irqs cpu.0 0) ns
irq_too_long irqs at _ = false

-- ---- the causes of rejection

-- Whether a cause of rejection applies to an event. `w` is the world (the tasks and groups) before
-- the event. A cause that concerns only the bytes of a line, such as BadVerb, applies to no event.
abbrev pub applies : Cause → Limits → World → Event → Bool
applies cause.AfterEnd limits w event = w.ended
applies cause.TimeBack limits w event = nat_lt event.at w.last
applies cause.TimeTooLate limits w event = nat_lt limits.latest event.at
applies cause.TooManyEvents limits w event = nat_le most_events w.lines
applies cause.TooManyGroups limits w event = is_some (names event.act).new_path && nat_le most_groups (length w.groups)
applies cause.TooManyTasks limits w event = is_some (names event.act).new_task && nat_le most_tasks (tasks_by.len w.tasks)
applies cause.TooManyTriggers limits w event = is_trigger event.act && nat_le 256 w.triggers
applies cause.TooManyPressures limits w event = is_pressure event.act && nat_le most_pressures w.pressures
applies cause.UnknownGroup limits w event = lacks_group w.groups (names event.act).live_path
applies cause.GroupExists limits w event = has_group w.groups (names event.act).new_path
applies cause.NoParent limits w event = lacks_parent w.groups (names event.act).new_path
applies cause.GroupBusy limits w event = is_busy w (names event.act).removed_path
applies cause.RootPressure limits w event = switches_root (names event.act).switched
applies cause.UnknownTask limits w event = lacks_task w.tasks (names event.act).live_task
applies cause.TaskExists limits w event = has_task w.tasks (names event.act).new_task
applies cause.BadWindow limits w event = bad_window event.act
applies cause.BadCpu limits w event = lacks_cpu limits.cpus (names event.act).cpu
applies cause.NotRunning limits w event = not_running w.tasks event.act
applies cause.NotReady limits w event = not_ready w.tasks event.act
applies cause.NotBlocked limits w event = not_blocked w.tasks event.act
applies cause.WrongHow limits w event = wrong_how w.tasks event.act
applies cause.InStall limits w event = in_stall w.tasks event.act
applies cause.NotInStall limits w event = not_in_stall w.tasks event.act
applies cause.IrqTooLong limits w event = irq_too_long w.irqs event.at event.act
applies cause.BadHeader limits w event = false
applies cause.LineTooLong limits w event = false
applies cause.BadTime limits w event = false
applies cause.BadVerb limits w event = false
applies (cause.BadField i) limits w event = false
applies cause.NoEnd limits w event = false

-- The causes in the order of precedence: if several causes apply, the first of this list is
-- reported.
abbrev pub cause_order : List Cause
cause_order =
    cause.AfterEnd ∷ cause.TimeBack ∷ cause.TimeTooLate
    ∷ cause.TooManyEvents ∷ cause.TooManyGroups ∷ cause.TooManyTasks ∷ cause.TooManyTriggers ∷ cause.TooManyPressures
    ∷ cause.UnknownGroup ∷ cause.GroupExists ∷ cause.NoParent ∷ cause.GroupBusy ∷ cause.RootPressure
    ∷ cause.UnknownTask ∷ cause.TaskExists ∷ cause.BadWindow ∷ cause.BadCpu
    ∷ cause.NotRunning ∷ cause.NotReady ∷ cause.NotBlocked ∷ cause.WrongHow ∷ cause.InStall ∷ cause.NotInStall
    ∷ cause.IrqTooLong ∷ []

-- The first cause of rejection that applies to an event, or `None` if the event is legal. `w` is
-- the world (the tasks and groups) before the event.
unfoldable pub cause_of : Limits → World → Event → Option Cause
cause_of limits w event = find (λ why. applies why limits w event) cause_order

-- Each event is legal after the events before it. `w` is the world (the tasks and groups) before
-- the first event.
abbrev pub AreLegal : Limits → World → List Event → Type 0
AreLegal limits w [] = Unit {0}
AreLegal limits w (event ∷ events) = (cause_of limits w event ≡ None) × AreLegal limits (after_event w event) events
