-- Relates the scheduler state (`World`) of a trace without dead tasks to the state of the original
-- trace. A killed task is called dead until it exits in the original trace.
use Rattle.std.specs.Prelude.{◌≡◌, ℕ, List, [], ◌∷◌, if◌then◌else◌, Option, None}
use Rattle.psi_base.specs.declared.event.Event.{Event}
use Rattle.psi_spec.specs.declared.machine.Task.{Task}
use Rattle.psi_spec.specs.World.{World, after_event, task_of}
use Rattle.whatif_spec.specs.Without.{dead_after, is_pid_among}

-- `kept dead pid found`: the result of looking up the task `pid` after the tasks in `dead` are
-- removed. `found` is the result of looking up the task before that.
abbrev pub kept : List ℕ → ℕ → Option Task → Option Task
kept dead pid found = if is_pid_among dead pid then None else found

-- `IsWithout dead w v`: the scheduler state `v` is the state `w` without the dead tasks. Only the
-- number of lines and the time of the last event may also differ.
pub record IsWithout (dead : List ℕ) (w v : World) : Type 0 where
  pub tasks : (pid : ℕ) → task_of v.tasks pid ≡ kept dead pid (task_of w.tasks pid)
  pub groups : v.groups ≡ w.groups
  pub irqs : v.irqs ≡ w.irqs
  pub triggers : v.triggers ≡ w.triggers
  pub pressures : v.pressures ≡ w.pressures
  pub ended : v.ended ≡ w.ended

-- `dead_later_on dead w events`: the dead tasks after `events` of the original trace. `dead` are
-- the dead tasks and `w` is the scheduler state (`World`) before these events.
abbrev pub dead_later_on : List ℕ → World → List Event → List ℕ
dead_later_on dead w [] = dead
dead_later_on dead w (event ∷ events) = dead_later_on (dead_after dead w event.act) (after_event w event) events
