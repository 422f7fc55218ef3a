-- Defines how the tasks are stored by pid: tasks with small pids in a list, and all others as
-- entries in any order.
use Rattle.std.specs.Prelude.{ℕ, ◌+◌, List, [], ◌∷◌, Option}
use Rattle.std.specs.FinMap as tasks_by
use Rattle.psi_spec.specs.declared.machine.Task.{Task}
use Rattle.psi_spec.specs.World.{Tasks, placed}

-- `listed_from first listed others`: the tasks in the list `listed` and in `others`. The first
-- entry of `listed` has the pid `first`.
abbrev pub listed_from : ℕ → List (Option Task) → Tasks → Tasks
listed_from first [] others = others
listed_from first (task ∷ listed) others = placed (listed_from (first + 1) listed others) first task

-- `listed_tasks listed entries`: the tasks in the list `listed`, indexed by pid, and the tasks in
-- `entries`. The pids in `entries` are past the end of the list.
abbrev pub listed_tasks : List (Option Task) → List (ℕ × Task) → Tasks
listed_tasks listed entries = listed_from 0 listed (tasks_by.from_entries entries)
