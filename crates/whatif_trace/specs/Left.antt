-- Defines the trace that remains without the killed tasks, in terms of a list with the running task
-- of each processor. A killed task is called dead until it exits in the original trace. What an
-- event does is called its *act*.
use Rattle.std.specs.Prelude.{◌≡◌, ℕ, ◌+◌, ◌<◌, List, [], ◌∷◌, ◌++◌, length, nat_le, Bool, true, false, if◌then◌else◌, Option, None, Some, Result, OnOk, is_some, slice_index_or, slice_set, ◌==◌, ◌||◌}
use Rattle.psi_base.specs.declared.event.Pid.{Pid}
use Rattle.psi_base.specs.declared.event.How.TheVariants.{Exit}
use Rattle.psi_base.specs.declared.event.Act.{Act}
use Rattle.psi_base.specs.declared.event.Act.TheVariants as act
use Rattle.psi_base.specs.declared.event.Event.{Event}
use Rattle.psi_base.specs.Missing.{is_some_and}
use Rattle.psi_spec.specs.declared.machine.Task.{Task}
use Rattle.psi_spec.specs.Stall.{is_under, parents_of}
use Rattle.psi_spec.specs.World.{Tasks, World, is_running, is_running_on, task_of, events_at}
use Rattle.whatif_spec.specs.Without.{act_of, exit_acts, switch_without, without_pid}

-- `Adds old new result events`: if a call returns Ok, the list `new` is the list `old` followed by
-- `events`. If memory runs out, `new` may be any list.
abbrev pub Adds : {T E : Type 0} → List Event → List Event → Result T E → List Event → Type 0
Adds old new result events = OnOk result (new ≡ old ++ events)

-- `prefix_length at events`: the number of leading events whose times are at most `at` (ns).
abbrev pub prefix_length : ℕ → List Event → ℕ
prefix_length at [] = 0
prefix_length at (event ∷ events) = if nat_le event.at at then prefix_length at events + 1 else 0

-- `shows_of_group act`: whether the act is a memory sample of a group or sets a trigger on a group.
abbrev pub shows_of_group : Act → Bool
shows_of_group (act.Mem path current swap scan) = true
shows_of_group (act.Trigger path res level threshold_us window_us) = true
shows_of_group what = false

-- ---- the running task of each processor

-- `runner_at runners cpu`: the pid of the task that runs on processor `cpu`, or `None` if the
-- processor is idle. `runners` is indexed by processor.
abbrev pub runner_at : List (Option Pid) → ℕ → Option Pid
runner_at runners cpu = slice_index_or runners cpu None

-- `turned runners act`: the running task of each processor after an event that does `act`.
-- `runners` are the running tasks before the event.
abbrev pub turned : List (Option Pid) → Act → List (Option Pid)
turned runners (act.Switch cpu next how) = slice_set runners cpu.0 next
turned runners what = runners

-- `turned_by runners events`: the running task of each processor after `events`. `runners` are the
-- running tasks before them.
abbrev pub turned_by : List (Option Pid) → List Event → List (Option Pid)
turned_by runners [] = runners
turned_by runners (event ∷ events) = turned_by (turned runners event.act) events

-- `is_pid q runner`: returns whether the running task `runner` has the pid `q`. False if no task
-- runs.
abbrev pub is_pid : ℕ → Option Pid → Bool
is_pid q None = false
is_pid q (Some pid) = q == pid.0

-- `AreRunners cpus runners tasks`: for each processor, `runners` has the pid of the task in `tasks`
-- that runs on it, or `None` if the processor is idle.
pub record AreRunners (cpus : ℕ) (runners : List (Option Pid)) (tasks : Tasks) : Type 0 where
  pub long : length runners ≡ cpus
  pub each : (q cpu : ℕ) → cpu < cpus → is_some_and (task_of tasks q) (is_running_on cpu) ≡ is_pid q (slice_index_or runners cpu None)

-- ---- the tasks of the killed group

-- `is_member w slot pid`: whether the task `pid` is live in the scheduler state `w`, and is in the
-- group in slot `slot` or in a descendant of this group.
abbrev pub is_member : World → ℕ → ℕ → Bool
is_member w slot pid = is_some_and (task_of w.tasks pid) (λ task. is_under (parents_of w.groups) task.slot.0 slot)

-- `makes pid act`: whether the act creates the task `pid`.
abbrev pub makes : ℕ → Act → Bool
makes pid (act.Fork new path cpu) = pid == new.0
makes pid what = false

-- `is_made pid events`: whether one of `events` creates the task `pid`.
abbrev pub is_made : ℕ → List Event → Bool
is_made pid [] = false
is_made pid (event ∷ events) = makes pid event.act || is_made pid events

-- `AreForked tasks events`: each of `tasks` was created by one of `events`.
abbrev pub AreForked : Tasks → List Event → Type 0
AreForked tasks events = (pid : ℕ) → is_some (task_of tasks pid) ≡ true → is_made pid events ≡ true

-- ---- the exits of the killed tasks

-- `exit_left runners pid task`: the acts of the events by which the task `pid` exits. `task` is its
-- state before the exit, and `runners` are the running tasks. The list is empty if there is no
-- task.
abbrev pub exit_left : List (Option Pid) → ℕ → Option Task → List Act
exit_left runners pid None = []
exit_left runners pid (Some task) = exit_acts pid task (runner_at runners task.cpu.0)

-- `exited runners task`: the running task of each processor after `task` exits. `runners` are the
-- running tasks before the exit.
abbrev pub exited : List (Option Pid) → Option Task → List (Option Pid)
exited runners None = runners
exited runners (Some task) = if is_running task.mode then slice_set runners task.cpu.0 None else runners

-- `exits_left at tasks runners pids`: the events by which the tasks `pids` exit at time `at` (ns),
-- in order. `tasks` and `runners` are all tasks and the running tasks before the first exit.
abbrev pub exits_left : ℕ → Tasks → List (Option Pid) → List ℕ → List Event
exits_left at tasks runners [] = []
exits_left at tasks runners (pid ∷ pids) =
    events_at at (exit_left runners pid (task_of tasks pid))
    ++ exits_left at tasks (exited runners (task_of tasks pid)) pids

-- ---- the events that remain after the exits

-- The task that an event concerns: the task that wakes up, enters or leaves a memory stall,
-- migrates or moves. `None` for a switch and for all other events.
abbrev pub doer : Act → Option Pid
doer (act.Wake pid cpu) = Some pid
doer (act.Stall pid) = Some pid
doer (act.Unstall pid) = Some pid
doer (act.Migrate pid cpu) = Some pid
doer (act.Move pid path) = Some pid
doer what = None

-- `left_if dead doer what`: the list with the act `what` alone, or the empty list if `doer`, the
-- task that the act concerns, is dead.
abbrev pub left_if : List ℕ → Option Pid → Act → List Act
left_if dead None what = what ∷ []
left_if dead (Some pid) what = act_of dead pid what

-- `act_left dead runners act`: the acts that remain of `act` when the dead tasks are removed: one
-- or none. `runners` are the running tasks before it in the original trace.
abbrev pub act_left : List ℕ → List (Option Pid) → Act → List Act
act_left dead runners (act.Switch cpu next how) = switch_without dead cpu (runner_at runners cpu.0) next how
act_left dead runners what = left_if dead (doer what) what

-- `dead_left dead runners act`: the dead tasks after `act`. A task that exits is removed from the
-- list `dead`, because its pid may be reused.
abbrev pub dead_left : List ℕ → List (Option Pid) → Act → List ℕ
dead_left dead runners (act.Switch cpu next Exit) = without_pid dead (runner_at runners cpu.0)
dead_left dead runners what = dead

-- `rest_left dead runners events`: the events that remain of `events` when the dead (killed) tasks
-- are removed. `runners` are the running tasks before these events.
abbrev pub rest_left : List ℕ → List (Option Pid) → List Event → List Event
rest_left dead runners [] = []
rest_left dead runners (event ∷ events) =
    events_at event.at (act_left dead runners event.act)
    ++ rest_left (dead_left dead runners event.act) (turned runners event.act) events
