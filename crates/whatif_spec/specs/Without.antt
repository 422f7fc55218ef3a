-- Defines a trace without the tasks of a killed group: the events up to the kill, events that make
-- the tasks exit, and the remaining events without these tasks.
use Rattle.std.specs.Prelude.{ℕ, ◌+◌, List, [], ◌∷◌, ◌++◌, drop, length, map, filter, nat_lt, ◌==◌, not, Bool, false, if◌then◌else◌, Option, None, Some}
use Rattle.std.specs.List.{list_any}
use Rattle.std.specs.FinMap as tasks_by
use Rattle.psi_base.specs.declared.event.Pid.{Pid}
use Rattle.psi_base.specs.declared.event.Cpu.{Cpu}
use Rattle.psi_base.specs.declared.event.How.{How}
use Rattle.psi_base.specs.declared.event.How.TheVariants.{Preempt, Exit, Idle}
use Rattle.psi_base.specs.declared.event.Act.{Act}
use Rattle.psi_base.specs.declared.event.Act.TheVariants as act
use Rattle.psi_base.specs.declared.event.Event.{Event}
use Rattle.psi_spec.specs.declared.machine.Task.{Task}
use Rattle.psi_spec.specs.World.{World, after, after_event, after_from, events_at, is_active, is_running, running_on, task_of, up_to}
use Rattle.psi_spec.specs.Stall.{is_under, parents_of}
use Rattle.psi_spec.specs.Trace.{Trace}

-- ---- the exits of the removed tasks

-- `members w slot`: the pids of the live tasks in the group in slot `slot` or in its descendants,
-- in ascending order. `w` is the world (the tasks and groups).
abbrev pub members : World → ℕ → List ℕ
members w slot = map (λ e. e.0) (filter (λ e. is_under (parents_of w.groups) e.1.slot.0 slot) (tasks_by.entries w.tasks))

-- The pid of an optional pair of a pid and a task.
abbrev pub pid_part : Option (ℕ × Task) → Option Pid
pid_part None = None
pid_part (Some e) = Some (record { 0 = e.0 })

-- `making_room running`: how the task `running` leaves its processor to another task. It is
-- preempted. If no task is running, the processor leaves its idle state (`Idle`).
abbrev pub making_room : Option Pid → How
making_room None = Idle
making_room (Some pid) = Preempt

-- `acts_if test acts`: the list `acts` (what events do) if `test` is true, and an empty list
-- otherwise.
abbrev pub acts_if : Bool → List Act → List Act
acts_if test acts = if test then acts else []

-- `exit_acts pid task running`: the acts (what events do) that make task `pid` exit. `running` is
-- the task that runs on its processor, if any. The task is woken if it is blocked, starts to run if
-- it isn't running, ends its memory stall, and exits. Then `running` continues, unless it is the
-- task that exits.
abbrev pub exit_acts : ℕ → Task → Option Pid → List Act
exit_acts pid task running =
    acts_if (not (is_active task.mode)) (act.Wake (record { 0 = pid }) task.cpu ∷ [])
    ++ acts_if (not (is_running task.mode)) (act.Switch task.cpu (Some (record { 0 = pid })) (making_room running) ∷ [])
    ++ acts_if task.stalled (act.Unstall (record { 0 = pid }) ∷ [])
    ++ act.Switch task.cpu (if is_running task.mode then None else running) Exit ∷ []

-- `exit_of w pid task`: the acts (what events do) that make task `pid` exit. `w` is the world (the
-- tasks and groups) before the exit. The list is empty if `task` is `None`.
abbrev pub exit_of : World → ℕ → Option Task → List Act
exit_of w pid None = []
exit_of w pid (Some task) = exit_acts pid task (pid_part (running_on w.tasks task.cpu.0))

-- `exits_from at w pids`: the events at time `at` (ns) that make the tasks with these pids exit one
-- after another. `w` is the world (the tasks and groups) before the first exit.
abbrev pub exits_from : ℕ → World → List ℕ → List Event
exits_from at w [] = []
exits_from at w (pid ∷ pids) =
    events_at at (exit_of w pid (task_of w.tasks pid))
    ++ exits_from at (after_from w (events_at at (exit_of w pid (task_of w.tasks pid)))) pids

-- ---- the events that remain in the trace

-- `is_pid_among pids pid`: whether the list `pids` contains `pid`.
abbrev pub is_pid_among : List ℕ → ℕ → Bool
is_pid_among pids pid = list_any (λ dead. pid == dead) pids

-- `is_alive dead task`: whether an optional task is present and isn't dead. `dead` are the pids of
-- the tasks that were removed from the trace.
abbrev pub is_alive : List ℕ → Option Pid → Bool
is_alive dead None = false
is_alive dead (Some pid) = not (is_pid_among dead pid.0)

-- `if_alive dead next`: the optional task `next`, or `None` if it is dead. `dead` are the pids of
-- the tasks that were removed from the trace.
abbrev pub if_alive : List ℕ → Option Pid → Option Pid
if_alive dead next = if is_alive dead next then next else None

-- `switch_without dead cpu leaving next how`: the acts (what events do) that remain of a switch on
-- processor `cpu`. `leaving` is the task that leaves in the original trace, `next` is the task that
-- starts, and `dead` are the pids of the removed tasks. If `leaving` is dead, the processor is idle
-- in the resulting trace. If `next` is dead or `None` too, no act remains.
abbrev pub switch_without : List ℕ → Cpu → Option Pid → Option Pid → How → List Act
switch_without dead cpu leaving next how =
    if is_alive dead leaving then act.Switch cpu (if_alive dead next) how ∷ [] else
    if is_alive dead next then act.Switch cpu next Idle ∷ [] else []

-- `act_of dead pid what`: the act `what` (what an event does) of task `pid`, as a list. The list is
-- empty if the task is dead. `dead` are the pids of the removed tasks.
abbrev pub act_of : List ℕ → Pid → Act → List Act
act_of dead pid what = acts_if (not (is_pid_among dead pid.0)) (what ∷ [])

-- `act_without dead w what`: the acts (what events do) that remain of the act `what` of the
-- original trace. `w` is the world (the tasks and groups) of the original trace before the act, and
-- `dead` are the pids of the removed tasks.
abbrev pub act_without : List ℕ → World → Act → List Act
act_without dead w (act.Wake pid cpu) = act_of dead pid (act.Wake pid cpu)
act_without dead w (act.Stall pid) = act_of dead pid (act.Stall pid)
act_without dead w (act.Unstall pid) = act_of dead pid (act.Unstall pid)
act_without dead w (act.Migrate pid cpu) = act_of dead pid (act.Migrate pid cpu)
act_without dead w (act.Move pid path) = act_of dead pid (act.Move pid path)
act_without dead w (act.Switch cpu next how) = switch_without dead cpu (pid_part (running_on w.tasks cpu.0)) next how
act_without dead w what = what ∷ []

-- `without_pid dead pid`: the list `dead` without an optional pid.
abbrev pub without_pid : List ℕ → Option Pid → List ℕ
without_pid dead None = dead
without_pid dead (Some pid) = filter (λ other. not (other == pid.0)) dead

-- `dead_after dead w what`: the dead tasks after the act `what` (what an event does). `dead` are
-- the pids of the dead tasks before it, which were removed from the trace. `w` is the world (the
-- tasks and groups) of the original trace before it. If a dead task exits in the original trace, it
-- is no longer dead, because its pid may be used for a new task.
abbrev pub dead_after : List ℕ → World → Act → List ℕ
dead_after dead w (act.Switch cpu next Exit) = without_pid dead (pid_part (running_on w.tasks cpu.0))
dead_after dead w what = dead

-- `rest_without dead w events`: the events that remain of `events`. `w` is the world (the tasks and
-- groups) of the original trace before these events, and `dead` are the pids of the removed tasks.
abbrev pub rest_without : List ℕ → World → List Event → List Event
rest_without dead w [] = []
rest_without dead w (event ∷ events) =
    events_at event.at (act_without dead w event.act)
    ++ rest_without (dead_after dead w event.act) (after_event w event) events

-- ---- the whole trace

-- `suffix events at`: the events after time `at` (ns).
abbrev pub suffix : List Event → ℕ → List Event
suffix events at = drop (length (up_to events at)) events

-- `without events at victim`: the events of a trace without the tasks that are in the group in slot
-- `victim` or in its descendants at time `at` (ns). These are the events up to `at`, the exits of
-- these tasks one nanosecond later, and the remaining events without these tasks. The events are
-- unchanged if `at` is at or after the end of the trace.
unfoldable pub without : List Event → ℕ → ℕ → List Event
without events at victim =
    if nat_lt at (after events).last
    then up_to events at
    ++ exits_from (at + 1) (after (up_to events at)) (members (after (up_to events at)) victim)
    ++ rest_without (members (after (up_to events at)) victim) (after (up_to events at)) (suffix events at)
    else events

-- `trace_without trace at victim`: the trace without the tasks that are in the group in slot
-- `victim` or in its descendants at time `at` (ns).
abbrev pub trace_without : Trace → ℕ → ℕ → Trace
trace_without trace at victim = record trace { events = without trace.events at victim }
