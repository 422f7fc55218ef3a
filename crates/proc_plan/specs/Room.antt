-- Defines the list of changes of each processor while a planner reads a trace, and the number of
-- further changes for which memory is reserved.
use Rattle.std.specs.Prelude.{◌≡◌, ℕ, ◌<◌, List, [], ◌++◌, length, map, slice_index_or, Option, None, Some, true}
use Rattle.psi_base.specs.declared.event.Act.{Act}
use Rattle.psi_spec.specs.declared.machine.Task.{Task}
use Rattle.psi_counts.specs.declared.changes.Change.{Change}
use Rattle.psi_counts.specs.Legal.{with_change}
use Rattle.psi_spec.specs.Changes.{touched}

-- The list of a processor's changes, and the number of further changes for which memory is reserved
-- (`room`).
pub record ChangesView : Type 0 where
  pub list : List Change
  pub room : ℕ

-- An empty list of changes without reserved memory, for a processor that doesn't exist.
abbrev pub no_room : ChangesView
no_room = record { list = []; room = 0 }

-- Returns the list of changes of each processor, without the number of further changes for which
-- memory is reserved.
abbrev pub lists_of : List ChangesView → List (List Change)
lists_of changes = map (λ (changes : ChangesView). changes.list) changes

-- `changes_in changes cpu`: the changes of processor `cpu`, or no changes if there is no such
-- processor.
abbrev pub changes_in : List ChangesView → ℕ → List Change
changes_in changes cpu = (slice_index_or changes cpu no_room).list

-- `AddsKnown old new known`: for each processor `cpu`, the list of changes in `new` is the list in
-- `old` with the change `known cpu` appended. If `known cpu` is `None`, the list is unchanged.
abbrev pub AddsKnown : List ChangesView → List ChangesView → (ℕ → Option Change) → Type 0
AddsKnown old new known = (cpu : ℕ) → changes_in new cpu ≡ changes_in old cpu ++ with_change (known cpu) []

-- `HasRoom changes cpu`: memory is reserved for one more change of processor `cpu`.
abbrev pub HasRoom : List ChangesView → ℕ → Type 0
HasRoom changes cpu = 0 < (slice_index_or changes cpu no_room).room

-- `HasRoomWithin changes cpu`: if processor `cpu` exists, memory is reserved for one more change of
-- the processor.
abbrev pub HasRoomWithin : List ChangesView → ℕ → Type 0
HasRoomWithin changes cpu = cpu < length changes → HasRoom changes cpu

-- Returns the number of a task's processor, or `None` if there is no task.
abbrev pub cpu_number : Option Task → Option ℕ
cpu_number None = None
cpu_number (Some task) = Some task.cpu.0

-- `HasRoomFor act before changes`: memory is reserved for one more change of each processor that an
-- event affects. `act` is what the event does. `before` is the task that the event changes, in its
-- state before the event, or `None`.
abbrev pub HasRoomFor : Act → Option Task → List ChangesView → Type 0
HasRoomFor act before changes = (cpu : ℕ) → touched act before cpu ≡ true → HasRoomWithin changes cpu
