-- The invariant of the simulated processor of the tests, which has tasks in groups and the clocks
-- of these groups.
use Rattle.std.specs.Prelude.{◌≡◌, ℕ, ◌≤◌, ◌<◌, List, length, Bool, Option, IfSome}
use Rattle.std.specs.List.{All, sum_by}
use Rattle.psi_base.specs.declared.event.Slot.{Slot}
use Rattle.psi_counts.specs.declared.changes.Counts.{Counts}
use Rattle.psi_spec.specs.LegalGroups.{AreOlder}
use Rattle.psi_spec.specs.World.{most_groups}
use Rattle.psi_counts.specs.Touch.{AreAtMost, on_chain}
use Rattle.slot_clocks.specs.Clocks.{AreReported, ClocksView, cell_at}

-- `IsSlot groups current`: if a task is running, its group is one of the first `groups` groups.
abbrev pub IsSlot : ℕ → Option (Slot × Bool) → Type 0
IsSlot groups current = IfSome current (λ running. running.0.0 < groups)

-- `IsTask groups task`: if the task is live, its group is one of the first `groups` groups, and
-- each of its counts is at most 1.
abbrev pub IsTask : ℕ → Option (Slot × Counts) → Type 0
IsTask groups task = IfSome task (λ part. (part.0.0 < groups) × AreAtMost 1 part.1)

-- `AreSums parents slot tasks counts`: the counts of the group in `slot` are the sums of the counts
-- of the tasks in the group and in its descendants.
pub record AreSums (parents : List (Option ℕ)) (slot : ℕ) (tasks : List (Option (Slot × Counts))) (counts : Counts) : Type 0 where
  pub io : counts.io ≡ sum_by (λ task. (on_chain parents slot task).io) tasks
  pub stalled : counts.stalled ≡ sum_by (λ task. (on_chain parents slot task).stalled) tasks
  pub running : counts.running ≡ sum_by (λ task. (on_chain parents slot task).running) tasks
  pub stalled_running : counts.stalled_running ≡ sum_by (λ task. (on_chain parents slot task).stalled_running) tasks

-- The invariant of a simulated processor with the first `groups` slots. All tasks and parents are
-- in range. The counts in each group's clock are the sums over the tasks in the group and in its
-- descendants. `last` is the time (ns) of the last change.
pub record IsProcessor (parents : List (Option ℕ)) (groups : ℕ) (tasks : List (Option (Slot × Counts))) (clocks : ClocksView)
    (last : ℕ) : Type 0 where
  pub older : AreOlder parents
  pub are_tasks : All (IsTask groups) tasks
  pub few : length tasks ≤ 1000
  pub few_groups : groups ≤ most_groups
  pub sums : (slot : ℕ) → AreSums parents slot tasks (cell_at clocks slot).counts
  pub room : groups ≤ length clocks.cells
  pub known : AreReported parents clocks
  pub current : IsSlot groups clocks.current
  pub in_time : clocks.last ≡ last
