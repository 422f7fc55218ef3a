-- Defines the effect of side events on the state of a group and of the host. A side event is a
-- memory sample, a preference, or a task that joins or leaves a group.
use Rattle.std.specs.Prelude.{◌≡◌, ℕ, ◌+◌, ◌-◌, ◌^◌, ◌<◌, List, [], ◌∷◌, drop, length, min}
use Rattle.std.specs.Prelude.{nat_le, slice_index_or, ◌==◌, Bool, true, false, if◌then◌else◌}
use Rattle.std.specs.Prelude.{Option, Some, ℤ, pos, negsuc}
use Rattle.psi_base.specs.declared.event.Preference.{Preference}
use Rattle.psi_base.specs.declared.event.Preference.TheVariants.{Plain}
use Rattle.psi_spec.specs.LegalGroups.{leads_to}
use Rattle.kill_spec.specs.declared.reading.HostReading.{HostReading}
use Rattle.kill_spec.specs.Evaluations.{MemorySample}
use Rattle.proc_plan.specs.declared.side.Side.{Side}
use Rattle.proc_plan.specs.declared.side.SideAct.{SideAct}
use Rattle.proc_plan.specs.declared.side.SideAct.TheVariants as side
use Rattle.side_watch.specs.declared.cell.SideCell.{SideCell}
use Rattle.side_watch.specs.declared.cell.GroupMemory.{GroupMemory}

-- ---- the state of a group

-- The latest memory sample of a group, converted to the record type of kill_spec.
abbrev pub side_sample : GroupMemory → MemorySample
side_sample memory = record { current = memory.current; swap = memory.swap; scan = memory.scan }

-- The state of a group before its first side event: a memory sample of zeros, the plain preference,
-- and no tasks.
abbrev pub zero_side_cell : SideCell
zero_side_cell = record {
  memory = record { current = 0; swap = 0; scan = 0 };
  preference = Plain;
  tasks = 0;
}

-- The state of the group in slot `slot`. A slot past the end of the list has the state before the
-- first side event.
abbrev pub side_cell_in : List SideCell → ℕ → SideCell
side_cell_in cells slot = slice_index_or cells slot zero_side_cell

-- Returns true for a nonnegative number, which means that a task joined a group. Returns false for
-- a negative number, which means that a task left a group.
abbrev pub is_coming : ℤ → Bool
is_coming (pos n) = true
is_coming (negsuc n) = false

-- The number of tasks in a group after a task joined it (if `came` is true) or left it. The number
-- is limited to 2^32 - 1.
abbrev pub moved : Bool → ℕ → ℕ
moved came tasks = if came then min (tasks + 1) (2 ^ 32 - 1) else tasks - 1

-- The state of a group after a task joined it or one of its descendants (if `came` is true), or
-- left it.
abbrev pub counted : Bool → SideCell → SideCell
counted came cell = record cell { tasks = moved came cell.tasks }

-- The state of the group in slot `slot` after a task joined or left the group `start`. Only `start`
-- and its ancestors count the task.
abbrev pub cell_counted : List (Option ℕ) → Option ℕ → Bool → ℕ → SideCell → SideCell
cell_counted parents start came slot cell =
    if leads_to parents start slot then counted came cell else cell

-- The state of the group in slot `slot` after a memory sample of the group in slot `of`.
abbrev pub with_memory : ℕ → GroupMemory → ℕ → SideCell → SideCell
with_memory of memory slot cell = if of == slot then record cell { memory = memory } else cell

-- The state of the group in slot `slot` after the preference of the group in slot `of` was set.
abbrev pub with_preference : ℕ → Preference → ℕ → SideCell → SideCell
with_preference of preference slot cell =
    if of == slot then record cell { preference = preference } else cell

-- The state of the group in slot `slot` after one more side event.
abbrev pub cell_after : List (Option ℕ) → ℕ → SideCell → SideAct → SideCell
cell_after parents slot cell (side.Mem of current swap scan) =
    with_memory of.0 (record { current = current; swap = swap; scan = scan }) slot cell
cell_after parents slot cell (side.Prefer of preference) = with_preference of.0 preference slot cell
cell_after parents slot cell (side.Host mem_total swap_total swap_free) = cell
cell_after parents slot cell (side.Tasks of added) =
    cell_counted parents (Some of.0) (is_coming added) slot cell

-- The state of the group in slot `slot` after several more side events, in order.
abbrev pub cell_by : List (Option ℕ) → ℕ → SideCell → List Side → SideCell
cell_by parents slot cell [] = cell
cell_by parents slot cell (side ∷ sides) =
    cell_by parents slot (cell_after parents slot cell side.what) sides

-- ---- the state of the host

-- The host's memory after one more side event.
abbrev pub host_after : HostReading → SideAct → HostReading
host_after host (side.Mem of current swap scan) = host
host_after host (side.Prefer of preference) = host
host_after host (side.Host mem_total swap_total swap_free) =
    record { mem_total = mem_total; swap_total = swap_total; swap_free = swap_free }
host_after host (side.Tasks of added) = host

-- The host's memory after several more side events, in order.
abbrev pub host_by : HostReading → List Side → HostReading
host_by host [] = host
host_by host (side ∷ sides) = host_by (host_after host side.what) sides

-- ---- side events up to a time

-- The longest prefix of the side events whose times are at most `at` (ns).
abbrev pub due_by : ℕ → List Side → List Side
due_by at [] = []
due_by at (side ∷ sides) = if nat_le side.at at then side ∷ due_by at sides else []

-- The side events at or before time `at` (ns), without the first `taken` side events.
abbrev pub due_from : ℕ → ℕ → List Side → List Side
due_from taken at sides = due_by at (drop taken sides)

-- ---- the states of all groups

-- For each slot, the group's new state is the result of `step` for the slot and the group's old
-- state.
abbrev pub EachIs : List SideCell → List SideCell → (ℕ → SideCell → SideCell) → Type 0
EachIs old new step =
    (slot : ℕ) → slot < length old → side_cell_in new slot ≡ step slot (side_cell_in old slot)

-- A task joined or left the group `of`. The numbers of tasks of the group and of its ancestors were
-- updated. All other groups are unchanged.
abbrev pub EachCounts : List (Option ℕ) → ℕ → Bool → List SideCell → List SideCell → Type 0
EachCounts parents of came old new = EachIs old new (cell_counted parents (Some of) came)

-- The side event `what` has been applied to the state of each group.
abbrev pub EachTook : List (Option ℕ) → SideAct → List SideCell → List SideCell → Type 0
EachTook parents what old new = EachIs old new (λ slot cell. cell_after parents slot cell what)

-- The side events `sides` have been applied to the state of each group, in order.
abbrev pub Took : List (Option ℕ) → List Side → List SideCell → List SideCell → Type 0
Took parents sides old new = EachIs old new (λ slot cell. cell_by parents slot cell sides)
