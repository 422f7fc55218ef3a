-- Defines the changes that an event causes on the processors that it affects (together called a
-- *touch*), and how counts of tasks follow from such changes. What an event does, such as a switch
-- or a fork, is called its *act*.
use Rattle.std.specs.Prelude.{◌≡◌, ◌≢◌, ℕ, ◌+◌, ◌≤◌, ◌<◌, List, [], ◌∷◌, length, ◌==◌, Bool, true, false, if◌then◌else◌, unwrap_or, Option, None, Some, IfSome}
use Rattle.std.specs.List.{list_any}
use Rattle.std.specs.FinMap as tasks_by
use Rattle.psi_base.specs.declared.event.Cpu.{Cpu}
use Rattle.psi_base.specs.declared.event.Slot.{Slot}
use Rattle.psi_base.specs.declared.event.How.{How}
use Rattle.psi_base.specs.declared.event.Act.{Act}
use Rattle.psi_base.specs.declared.event.Event.{Event}
use Rattle.psi_base.specs.Missing.{is_some_and}
use Rattle.psi_spec.specs.declared.machine.Task.{Task}
use Rattle.psi_counts.specs.declared.changes.Counts.{Counts}
use Rattle.psi_counts.specs.declared.changes.Change.{Change}
use Rattle.psi_counts.specs.declared.changes.Touch.{Touch}
use Rattle.psi_spec.specs.declared.machine.GroupLife.{GroupLife}
use Rattle.psi_spec.specs.Names.{names}
use Rattle.psi_spec.specs.World.{Effect, forks, switches_account, interrupts, moves, none, readies, stalls, switches, effect_of}
use Rattle.psi_spec.specs.World.{World, Limits, Tasks, no_tasks, task_of, task_part, running_on, is_running_on, new_task, prepared_changes, left_by, slot_of, is_on, tasks_after, after_event, longest_irq}
use Rattle.psi_spec.specs.Refusal.{cause_of}
use Rattle.psi_spec.specs.Stall.{irq_time_by, is_under, runs, tasks_in}
use Rattle.psi_spec.specs.Changes.{before, is_at, touched}
use Rattle.psi_spec.specs.LegalGroups.{AreGroups}
use Rattle.psi_spec.specs.Collected.{slot_named}
use Rattle.psi_counts.specs.Counts.{how_many, counts_among, IsRunningKnown}

-- ---- the task whose counts an event changes

-- `changed f task`: the task after the update `f`, or `None` if there is no task.
abbrev pub changed : (Task → Task) → Option Task → Option Task
changed f None = None
changed f (Some task) = Some (f task)

-- `left_if how task`: the running task `task` after it leaves its processor in the way `how`. The
-- result is `None` if no task was running or the task exited.
abbrev pub left_if : How → Option Task → Option Task
left_if how None = None
left_if how (Some task) = left_by how task

-- `after_effect groups tasks effect`: the task whose counts the effect of an event changes, in its
-- state after the event. `groups` and `tasks` are those before the event. The result is `None` if
-- the effect changes no task's counts, or if the task has exited.
abbrev pub after_effect : List GroupLife → Tasks → Effect → Option Task
after_effect groups tasks none = None
after_effect groups tasks (forks pid path cpu) = Some (new_task groups path cpu.0)
after_effect groups tasks (readies pid cpu) = changed (prepared_changes cpu.0) (task_of tasks pid.0)
after_effect groups tasks (stalls pid stalled) = changed (λ task. record task { stalled = stalled }) (task_of tasks pid.0)
after_effect groups tasks (moves pid path) =
    changed (λ task. record task { slot = record { 0 = unwrap_or (slot_of groups path) 0 } }) (task_of tasks pid.0)
after_effect groups tasks (switches cpu next how) = left_if how (task_part (running_on tasks cpu.0))
after_effect groups tasks (interrupts cpu) = None
after_effect groups tasks switches_account = None

-- `task_after groups tasks act`: the task whose counts an event changes, in its state after the
-- event. `act` is what the event does, and `groups` and `tasks` are those before the event. The
-- result is `None` if the event changes no task's counts, or if the task has exited.
abbrev pub task_after : List GroupLife → Tasks → Act → Option Task
task_after groups tasks act = after_effect groups tasks (effect_of act)

-- ---- pressure accounting on or off

-- `account_named groups switched`: the slot of the group whose pressure accounting is turned on or
-- off, and whether it is on afterwards. `switched` has the path of the group, and whether its
-- accounting is turned on. If `switched` is `None`, the result is `None`.
abbrev pub account_named : List GroupLife → Option (List ℕ × Bool) → Option (Slot × Bool)
account_named groups None = None
account_named groups (Some switched) = Some (slot_named groups switched.0, switched.1)

-- `account_of groups what`: the slot of the group whose pressure accounting an event turns on or
-- off, and whether it is on afterwards. `what` is what the event does. The result is `None` if the
-- event doesn't turn accounting on or off.
abbrev pub account_of : List GroupLife → Act → Option (Slot × Bool)
account_of groups what = account_named groups (names what).switched

-- `on_with slot on account`: whether the pressure accounting of the group in slot `slot` is on
-- after an event. `on` is whether it was on before. `account` is the group whose accounting the
-- event turns on or off, or `None`.
abbrev pub on_with : ℕ → Bool → Option (Slot × Bool) → Bool
on_with slot on None = on
on_with slot on (Some account) = if account.0.0 == slot then account.1 else on

-- ---- the change of one processor

-- `part cpu task`: the slot of the task's group and the counts of this single task, if the task is
-- on processor `cpu`. The result is `None` if there is no task, or if the task is on another
-- processor.
abbrev pub part : ℕ → Option Task → Option (Slot × Counts)
part cpu None = None
part cpu (Some task) = if is_at cpu task then Some (task.slot, counts_among (task ∷ [])) else None

-- The slot of a running task, and whether the task is in a memory stall. `None` if no task is
-- running.
abbrev pub shown : Option (ℕ × Task) → Option (Slot × Bool)
shown None = None
shown (Some running) = Some (running.1.slot, running.1.stalled)

-- `change_on groups event old new tasks cpu`: the change that an event causes on processor `cpu`.
-- `old` and `new` are the task whose counts the event changes, before and after the event. The
-- change subtracts the counts of `old` from the group of `old` and its ancestors, and adds the
-- counts of `new` to the group of `new` and its ancestors. `tasks` are all tasks after the event,
-- including the processor's running task. The change also contains the time (ns) that interrupts
-- took on the processor, and the group whose accounting the event turns on or off, if any.
abbrev pub change_on : List GroupLife → Event → Option Task → Option Task → Tasks → ℕ → Change
change_on groups event old new tasks cpu = record {
  at = event.at;
  minus = part cpu old;
  plus = part cpu new;
  current = shown (running_on tasks cpu);
  irq = irq_time_by cpu event.act;
  account = account_of groups event.act;
}

-- `change_of w event cpu`: the change that an event causes on processor `cpu`, or `None` if the
-- event doesn't affect the processor. `w` is the scheduler state (`World`) before the event.
unfoldable pub change_of : World → Event → ℕ → Option Change
change_of w event cpu =
    if touched event.act (before w.tasks event.act) cpu
    then Some (change_on w.groups event (before w.tasks event.act) (task_after w.groups w.tasks event.act)
    (tasks_after w.groups w.tasks event.act) cpu)
    else None

-- ---- the changes of all processors

-- `known_first cpu touched other`: the change in `touched` if it is a change of processor `cpu`,
-- otherwise `other`.
abbrev pub known_first : ℕ → Option (Cpu × Change) → Option Change → Option Change
known_first cpu None other = other
known_first cpu (Some touched) other = if touched.0.0 == cpu then Some touched.1 else other

-- `change_by_cpu touch cpu`: the change of processor `cpu` among the first and second change of an
-- event, or `None`. A change that turns accounting on or off isn't considered.
abbrev pub change_by_cpu : Touch → ℕ → Option Change
change_by_cpu touch cpu = known_first cpu touch.first (known_first cpu touch.second None)

-- `account_change at current account`: the change of a processor at time `at` (ns) that turns a
-- group's accounting on or off. `current` is the running task, which stays the same.
abbrev pub account_change : ℕ → Option (Slot × Bool) → Slot × Bool → Change
account_change at current account = record { at = at; minus = None; plus = None; current = current; irq = 0; account = Some account }

-- `account_first at current account other`: the change at time `at` (ns) that turns a group's
-- accounting on or off. If `account` is `None`, the event doesn't turn accounting on or off, and
-- the result is `other`.
abbrev pub account_first : ℕ → Option (Slot × Bool) → Option (Slot × Bool) → Option Change → Option Change
account_first at current None other = other
account_first at current (Some account) other = Some (account_change at current account)

-- `change_known at current touch cpu`: the change of processor `cpu` among the changes of an event
-- at time `at` (ns), or `None`. `current` is the processor's running task after the event.
abbrev pub change_known : ℕ → Option (Slot × Bool) → Touch → ℕ → Option Change
change_known at current touch cpu = account_first at current touch.account (change_by_cpu touch cpu)

-- If an event has a second change, it also has a first change, and the two are changes of different
-- processors.
abbrev pub IsBeside : Option (Cpu × Change) → Option (Cpu × Change) → Type 0
IsBeside first None = Unit {0}
IsBeside None (Some second) = ⊥
IsBeside (Some first) (Some second) = first.0 ≢ second.0

-- `touch` contains the changes that the event causes on the `cpus` processors, at most one on each.
-- If the event turns a group's accounting on or off, `touch` contains this and no other change.
pub record IsTouch (cpus : ℕ) (w : World) (event : Event) (touch : Touch) : Type 0 where
  pub known : (cpu : ℕ) → cpu < cpus → change_known event.at (shown (running_on (after_event w event).tasks cpu)) touch cpu
      ≡ change_of w event cpu
  pub beside : IsBeside touch.first touch.second
  pub on_with : touch.account ≡ account_of w.groups event.act
  pub alone : IfSome touch.account (λ account. (touch.first ≡ None) × (touch.second ≡ None))

-- `AllTouched IsSo touch`: `IsSo cpu change` holds for the first and the second change of an event,
-- if present. `cpu` is the number of the processor that the change affects.
abbrev pub AllTouched : (ℕ → Change → Type 0) → Touch → Type 0
AllTouched IsSo touch = IfSome touch.first (λ first. IsSo first.0.0 first.1) × IfSome touch.second (λ second. IsSo second.0.0 second.1)

-- Each slot that a change names is less than `slots`.
pub record HasSlotsBelow (slots : ℕ) (change : Change) : Type 0 where
  pub minus : IfSome change.minus (λ part. part.0.0 < slots)
  pub plus : IfSome change.plus (λ part. part.0.0 < slots)
  pub current : IfSome change.current (λ current. current.0.0 < slots)
  pub account : IfSome change.account (λ account. account.0.0 < slots)

-- Each of the four counts of tasks is at most `most`.
pub record AreAtMost (most : ℕ) (counts : Counts) : Type 0 where
  pub io : counts.io ≤ most
  pub stalled : counts.stalled ≤ most
  pub running : counts.running ≤ most
  pub stalled_running : counts.stalled_running ≤ most

-- The change neither subtracts nor adds counts of tasks.
abbrev pub HasNoCounts : Change → Type 0
HasNoCounts change = (change.minus ≡ None) × (change.plus ≡ None)

-- A change subtracts the counts of at most one task, and adds the counts of at most one task. Its
-- interrupt time is at most one second. A change with interrupt time has no counts. A change that
-- turns accounting on or off has neither counts nor interrupt time.
pub record IsOfOne (change : Change) : Type 0 where
  pub minus : IfSome change.minus (λ part. AreAtMost 1 part.1)
  pub plus : IfSome change.plus (λ part. AreAtMost 1 part.1)
  pub irq : change.irq ≤ longest_irq
  pub alone : 0 < change.irq → HasNoCounts change
  pub account : IfSome change.account (λ account. HasNoCounts change × (change.irq ≡ 0))

-- ---- how counts follow from changes

-- The counts of an empty list of tasks: all counts are 0.
abbrev pub no_counts : Counts
no_counts = record { io = 0; stalled = 0; running = 0; stalled_running = 0 }

-- `on_chain parents slot part`: the counts in `part` that apply to the group in slot `slot`. If the
-- task of these counts is in the group or in a descendant, the result is all its counts. Otherwise
-- all counts are 0.
abbrev pub on_chain : List (Option ℕ) → ℕ → Option (Slot × Counts) → Counts
on_chain parents slot None = no_counts
on_chain parents slot (Some part) = if is_under parents part.0.0 slot then part.1 else no_counts

-- `Follows old minus plus new`: a change that subtracts `minus` and adds `plus` turns the counts
-- `old` into the counts `new`. For each count, `new + minus = old + plus`.
pub record Follows (old minus plus new : Counts) : Type 0 where
  pub io : new.io + minus.io ≡ old.io + plus.io
  pub stalled : new.stalled + minus.stalled ≡ old.stalled + plus.stalled
  pub running : new.running + minus.running ≡ old.running + plus.running
  pub stalled_running : new.stalled_running + minus.stalled_running ≡ old.stalled_running + plus.stalled_running

-- At most one task runs on each processor.
abbrev pub RunsOnce : Tasks → Type 0
RunsOnce tasks = (cpu : ℕ) → how_many (is_running_on cpu) (tasks_by.values tasks) ≤ 1

-- Returns whether a processor's running task is in the group in slot `slot` or in a descendant.
-- False if no task is running.
abbrev pub is_current_in : List (Option ℕ) → ℕ → Option (Slot × Bool) → Bool
is_current_in parents slot None = false
is_current_in parents slot (Some current) = is_under parents current.0.0 slot

-- Returns whether a processor's running task is in a memory stall. False if no task is running.
abbrev pub is_current_stalled : Option (Slot × Bool) → Bool
is_current_stalled None = false
is_current_stalled (Some current) = current.1

-- `irq_in parents slot change`: the interrupt time (ns) that a change charges to the group in slot
-- `slot`. It is the interrupt time of the change if the running task is in the group or in a
-- descendant, otherwise 0.
abbrev pub irq_in : List (Option ℕ) → ℕ → Change → ℕ
irq_in parents slot change = if is_current_in parents slot change.current then change.irq else 0

-- `AreWithin cpus slots tasks`: the number of each task's processor is less than `cpus`, and the
-- number of its slot is less than `slots`.
abbrev pub AreWithin : ℕ → ℕ → Tasks → Type 0
AreWithin cpus slots tasks = (pid : ℕ) → IfSome (task_of tasks pid) (λ task. (task.cpu.0 < cpus) × (task.slot.0 < slots))

-- ---- laws of changes

-- A legal event changes the counts of each group on each processor: it subtracts the counts of the
-- affected task before the event, and adds the task's counts after the event.
abbrev pub CountsFollow : Type 0
CountsFollow = (limits : Limits) (w : World) (event : Event) → cause_of limits w event ≡ None → (parents : List (Option ℕ)) (cpu slot : ℕ) →
    Follows (counts_among (tasks_in parents cpu slot w.tasks)) (on_chain parents slot (part cpu (before w.tasks event.act)))
    (on_chain parents slot (part cpu (task_after w.groups w.tasks event.act)))
    (counts_among (tasks_in parents cpu slot (after_event w event).tasks))

-- Before the first event at most one task runs on each processor, because there are no tasks.
abbrev pub RunsOnceFirst : Type 0
RunsOnceFirst = RunsOnce no_tasks

-- A legal event preserves the invariant that at most one task runs on each processor.
abbrev pub RunsOnceKept : Type 0
RunsOnceKept =
    (limits : Limits) (w : World) (event : Event) → cause_of limits w event ≡ None → RunsOnce w.tasks → RunsOnce (after_event w event).tasks

-- The running task of a processor determines whether a task of a group is running there, and
-- whether that task is in a memory stall.
abbrev pub CurrentShows : Type 0
CurrentShows = (tasks : Tasks) → RunsOnce tasks → (parents : List (Option ℕ)) (cpu slot : ℕ) →
    IsRunningKnown (tasks_in parents cpu slot tasks) (is_current_in parents slot (shown (running_on tasks cpu)))
    (is_current_stalled (shown (running_on tasks cpu)))

-- The change that a legal event causes on a processor contains all values on which the times of a
-- group there depend. The counts of the group follow from the counts that the change subtracts and
-- adds. The change's running task determines whether a task of the group runs after the event. The
-- change's interrupt time applies to the group if a task of the group runs before the event. The
-- change turns a group's accounting on or off if the event does so.
abbrev pub ChangeShows : Type 0
ChangeShows =
    (limits : Limits) (w : World) (event : Event) → cause_of limits w event ≡ None → RunsOnce w.tasks → (cpu : ℕ) (change : Change)
    → change_of w event cpu ≡ Some change → (parents : List (Option ℕ)) (slot : ℕ) →
    Follows (counts_among (tasks_in parents cpu slot w.tasks)) (on_chain parents slot change.minus)
    (on_chain parents slot change.plus) (counts_among (tasks_in parents cpu slot (after_event w event).tasks))
    × IsRunningKnown (tasks_in parents cpu slot (after_event w event).tasks) (is_current_in parents slot change.current)
    (is_current_stalled change.current)
    × (irq_in parents slot change ≡ (if list_any runs (tasks_in parents cpu slot w.tasks) then irq_time_by cpu event.act else 0))
    × (change.account ≡ account_of w.groups event.act)

-- An event affects the processor that it names, the processor of the changed task before the event,
-- and the processor of that task after the event.
abbrev pub TouchesItsOwn : Type 0
TouchesItsOwn = (w : World) (event : Event) (cpu : ℕ) →
    ((names event.act).cpu ≡ Some cpu → touched event.act (before w.tasks event.act) cpu ≡ true)
    × (is_some_and (before w.tasks event.act) (is_at cpu) ≡ true → touched event.act (before w.tasks event.act) cpu ≡ true)
    × (is_some_and (task_after w.groups w.tasks event.act) (is_at cpu) ≡ true → touched event.act (before w.tasks event.act) cpu ≡ true)

-- A legal event that doesn't affect a processor changes neither the counts of a group nor the
-- running task there. The event reports no interrupt time on this processor, and doesn't turn
-- accounting on or off.
abbrev pub StaysUntouched : Type 0
StaysUntouched =
    (limits : Limits) (w : World) (event : Event) → cause_of limits w event ≡ None → (cpu : ℕ) → change_of w event cpu ≡ None
    → (parents : List (Option ℕ)) (slot : ℕ) →
    (counts_among (tasks_in parents cpu slot (after_event w event).tasks) ≡ counts_among (tasks_in parents cpu slot w.tasks))
    × ((on_cpu current_stalled : Bool) → IsRunningKnown (tasks_in parents cpu slot w.tasks) on_cpu current_stalled
    → IsRunningKnown (tasks_in parents cpu slot (after_event w event).tasks) on_cpu current_stalled)
    × (irq_time_by cpu event.act ≡ 0)
    × (account_of w.groups event.act ≡ None)

-- Two facts determine whether a group's accounting is on after a legal event: whether it was on
-- before the event, and whether the event turns it on or off.
abbrev pub OnByAccount : Type 0
OnByAccount = (limits : Limits) (w : World) (event : Event) → cause_of limits w event ≡ None → AreGroups w.groups → (slot : ℕ) →
    is_on (after_event w event).groups slot ≡ on_with slot (is_on w.groups slot) (account_of w.groups event.act)

-- Before the first event all tasks have existing processors and slots, because there are no tasks.
abbrev pub WithinFirst : Type 0
WithinFirst = (cpus slots : ℕ) → AreWithin cpus slots no_tasks

-- A legal event preserves the invariant that each task has an existing processor and an existing
-- slot.
abbrev pub WithinKept : Type 0
WithinKept =
    (limits : Limits) (w : World) (event : Event) → cause_of limits w event ≡ None → AreWithin limits.cpus (length w.groups) w.tasks
    → AreWithin limits.cpus (length w.groups) (after_event w event).tasks

-- The change of a legal event has the event's time and names only slots of existing groups. Its
-- processor exists, but a change that turns accounting on or off is defined for every processor
-- number. A change has the counts of one task, only interrupt time, or only an on/off switch of
-- accounting.
abbrev pub ChangesAreWithin : Type 0
ChangesAreWithin =
    (limits : Limits) (w : World) (event : Event) → cause_of limits w event ≡ None → AreWithin limits.cpus (length w.groups) w.tasks
    → (cpu : ℕ) (change : Change) → change_of w event cpu ≡ Some change →
    (change.account ≡ None → cpu < limits.cpus) × HasSlotsBelow (length w.groups) change × IsOfOne change × (change.at ≡ event.at)
