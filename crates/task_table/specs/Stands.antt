-- Defines the contents of a table of tasks (limits and scheduler state), the invariant of its
-- lists, and the effect of playing an event.
use Rattle.std.specs.Prelude.{◌≡◌, ℕ, ◌<◌, ◌≤◌, ◌==◌, true, List, length, slice_index_or, Option, None, Some, Bool, if◌then◌else◌, refl, Result, Ok, Err}
use Rattle.std.specs.FinMap as tasks_by
use Rattle.std.specs.Coded.{Coded, code_by, coded×, coded_ℕ, coded_bool, coded_list}
use Rattle.psi_spec.specs.declared.machine.GroupLife.{GroupLife}
use Rattle.psi_spec.specs.declared.machine.Task.{Task}
use Rattle.psi_spec.specs.contracts.machine.GroupLife as group_row
use Rattle.psi_spec.specs.contracts.machine.Task as task_row
use Rattle.psi_base.specs.declared.event.Event.{Event}
use Rattle.psi_base.specs.declared.event.Cause.{Cause}
use Rattle.psi_base.specs.declared.event.Fault.{Fault}
use Rattle.psi_base.specs.declared.text.NoMemory.{NoMemory}
use Rattle.psi_spec.specs.World.{World, Limits, Tasks, after_event, task_of, is_running_on, most_events}
use Rattle.psi_spec.specs.Refusal.{cause_of}
use Rattle.psi_spec.specs.Changes.{before}
use Rattle.psi_counts.specs.Counts.{how_many}
use Rattle.psi_counts.specs.Legal.{IsLegalWorld}
use Rattle.task_table.specs.Causes.{IsFault, takes_memory}
use Rattle.task_table.specs.Named.{named_group, named_task}
use Rattle.task_table.specs.declared.finding.Finding.{Finding}

-- The contents of a table of tasks: the limits of a trace, and the scheduler state (`World`) after
-- the events played.
pub record TableView : Type 0 where
  pub limits : Limits
  pub world : World

-- `passing test task`: the task if it exists and passes the test, or `None`.
abbrev pub passing : (Task → Bool) → Option Task → Option Task
passing test None = None
passing test (Some task) = if test task then Some task else None

-- `task_on tasks pid cpu`: the task with this pid if it is running on processor `cpu`, or `None`.
abbrev pub task_on : Tasks → ℕ → ℕ → Option Task
task_on tasks pid cpu = passing (is_running_on cpu) (task_of tasks pid)

-- `task_with pid running`: the running task if it has this pid, or `None`.
abbrev pub task_with : ℕ → Option (ℕ × Task) → Option Task
task_with pid None = None
task_with pid (Some running) = if running.0 == pid then Some running.1 else None

-- `IsIndex running tasks`: the list `running` has the running task of each processor, and no other
-- task is running.
pub record IsIndex (running : List (Option (ℕ × Task))) (tasks : Tasks) : Type 0 where
  pub each : (pid cpu : ℕ) → task_on tasks pid cpu ≡ task_with pid (slice_index_or running cpu None)

-- `is_of slot task`: whether the task is in the group in `slot` itself, not only in a group below
-- it.
abbrev pub is_of : ℕ → Task → Bool
is_of slot task = task.slot.0 == slot

-- `AreMembers members tasks`: for each slot, the list `members` has the number of live tasks in the
-- group itself, without its descendants.
pub record AreMembers (members : List ℕ) (tasks : Tasks) : Type 0 where
  pub each : (slot : ℕ) → slice_index_or members slot 0 ≡ how_many (is_of slot) (tasks_by.values tasks)

-- `IsTable table running members`: the invariant of a table of tasks. The scheduler state is legal,
-- there are at most 64 processors, `running` has their running tasks, and `members` has the number
-- of tasks in each group.
pub record IsTable (table : TableView) (running : List (Option (ℕ × Task))) (members : List ℕ) : Type 0 where
  pub legal : IsLegalWorld table.limits table.world
  pub index : IsIndex running table.world.tasks
  pub members_are : AreMembers members table.world.tasks
  pub cover : length table.world.groups ≤ length members
  pub cpus : length running ≤ 64

-- `HasPlayed old event new`: the table of tasks has played a legal event. Its new state is the
-- state after the event, and is legal. The number of events is within its limit. The time of the
-- last event hasn't decreased and is within its limit.
pub record HasPlayed (old : TableView) (event : Event) (new : TableView) : Type 0 where
  pub limits : new.limits ≡ old.limits
  pub legal : cause_of old.limits old.world event ≡ None
  pub world : new.world ≡ after_event old.world event
  pub legal_before : IsLegalWorld old.limits old.world
  pub legal_after : IsLegalWorld new.limits new.world
  pub lines : new.world.lines ≤ most_events
  pub early : new.world.last ≤ new.limits.latest
  pub forward : old.world.last ≤ new.world.last

-- `HasRefused old event new why`: the table of tasks has rejected an event with the fault `why`,
-- and is unchanged.
pub record HasRefused (old : TableView) (event : Event) (new : TableView) (why : Fault Cause) : Type 0 where
  pub fault : IsFault (cause_of old.limits old.world event) event.act why
  pub same : new ≡ old

-- `PlaysEvent old event new result`: the table of tasks plays the event if `result` is `Ok`, and
-- rejects it if not.
abbrev pub PlaysEvent : {T : Type 0} → TableView → Event → TableView → Result T (Fault Cause) → Type 0
PlaysEvent old event new (Ok x) = HasPlayed old event new
PlaysEvent old event new (Err why) = HasRefused old event new why

-- `IsFinding table event finding`: the event is legal, and `finding` has its tasks and its group:
-- the task with the pid that the event names, the task that the event changes, and the live group
-- whose path the event names.
pub record IsFinding (table : TableView) (event : Event) (finding : Finding) : Type 0 where
  pub legal : cause_of table.limits table.world event ≡ None
  pub room : table.world.lines < most_events
  pub forward : table.world.last ≤ event.at
  pub early : event.at ≤ table.limits.latest
  pub named_is : finding.named ≡ named_task table.world.tasks event.act
  pub before_is : finding.before ≡ before table.world.tasks event.act
  pub group_is : finding.group ≡ named_group table.world.groups event.act

-- `Judges table event result`: `result` has the tasks and the group of a legal event, or the first
-- cause for rejecting an illegal event.
abbrev pub Judges : TableView → Event → Result Finding Cause → Type 0
Judges table event (Ok finding) = IsFinding table event finding
Judges table event (Err why) = cause_of table.limits table.world event ≡ Some why

-- `PlaysLegal old event new result`: on success, the table of tasks plays a legal event. On
-- failure, memory ran out for a new task or group, and the table is unchanged.
abbrev pub PlaysLegal : {T : Type 0} → TableView → Event → TableView → Result T NoMemory → Type 0
PlaysLegal old event new (Ok x) = HasPlayed old event new
PlaysLegal old event new (Err none) = (new ≡ old) × (takes_memory event.act ≡ true)

-- Builds the contents of a table of tasks from their parts.
abbrev pub table_of : ℕ → ℕ → Tasks → List GroupLife → List ℕ → ℕ → ℕ → ℕ → ℕ → Bool → TableView
table_of cpus latest tasks groups irqs triggers pressures lines last ended = record {
  limits = record { cpus = cpus; latest = latest };
  world = record {
    tasks = tasks;
    groups = groups;
    irqs = irqs;
    triggers = triggers;
    pressures = pressures;
    lines = lines;
    last = last;
    ended = ended;
  };
}

-- Encodes a scheduler state (`World`) as nested pairs, so that proofs can compare states.
abbrev pub world_code : Coded World
world_code =
    code_by (Tasks × (List GroupLife × (List ℕ × (ℕ × (ℕ × (ℕ × (ℕ × Bool)))))))
    (coded× (tasks_by.code coded_ℕ task_row.the_row.coded)
    (coded× (coded_list group_row.the_row.coded) (coded× (coded_list coded_ℕ)
    (coded× coded_ℕ (coded× coded_ℕ (coded× coded_ℕ (coded× coded_ℕ coded_bool)))))))
    (λ w. (w.tasks, (w.groups, (w.irqs, (w.triggers, (w.pressures, (w.lines, (w.last, w.ended))))))))
    (λ p. record {
      tasks = p.0;
      groups = p.1.0;
      irqs = p.1.1.0;
      triggers = p.1.1.1.0;
      pressures = p.1.1.1.1.0;
      lines = p.1.1.1.1.1.0;
      last = p.1.1.1.1.1.1.0;
      ended = p.1.1.1.1.1.1.1;
    }) (λ _. refl)

-- Encodes the contents of a table of tasks as nested pairs, so that proofs can compare them.
abbrev pub view_code : Coded TableView
view_code =
    code_by ((ℕ × ℕ) × World) (coded× (coded× coded_ℕ coded_ℕ) world_code)
    (λ v. ((v.limits.cpus, v.limits.latest), v.world)) (λ p. record { limits = record { cpus = p.0.0; latest = p.0.1 }; world = p.1 })
    (λ _. refl)
