-- Defines what the numbers in a packed change represent: the counts of a single task, and the
-- running task.
use Rattle.std.specs.Prelude.{◌≡◌, ℕ, zero, suc, ◌/◌, ◌%◌, ◌==◌, Bool, Option, None, Some}
use Rattle.psi_base.specs.declared.event.Slot.{Slot}
use Rattle.psi_counts.specs.declared.changes.Counts.{Counts}
use Rattle.psi_counts.specs.Touch.{is_current_stalled}

-- `slot_by number`: the slot with the number `number`.
abbrev pub slot_by : ℕ → Slot
slot_by number = record { 0 = number }

-- `counts_by bits`: the counts that four bits represent. Each bit is one of the counts, which is 0
-- or 1.
abbrev pub counts_by : ℕ → Counts
counts_by bits = record { io = bits % 2; stalled = bits / 2 % 2; running = bits / 4 % 2; stalled_running = bits / 8 % 2 }

-- `running_at height stalled`: the running task whose slot has this height (the slot's number plus
-- one), and whether it is in a memory stall. `None` at height 0.
abbrev pub running_at : ℕ → Bool → Option (Slot × Bool)
running_at zero stalled = None
running_at (suc slot) stalled = Some (slot_by slot, stalled)

-- `running_by number`: the running task that `number` represents. The number is twice the height of
-- the task's slot, plus one if the task is in a memory stall.
abbrev pub running_by : ℕ → Option (Slot × Bool)
running_by number = running_at (number / 2) (number % 2 == 1)

-- `IsRunning number`: `number` is a valid representation of the running task. It represents a task
-- in a memory stall exactly if it is odd.
abbrev pub IsRunning : ℕ → Type 0
IsRunning number = is_current_stalled (running_by number) ≡ (number % 2 == 1)
