-- Defines the state of a watch and its invariant, and relates a watch to the events of a trace. A
-- watch follows the memory, preference and tasks of each group through side events: memory samples,
-- preferences, and tasks that join or leave groups.
use Rattle.std.specs.Prelude.{◌≡◌, ℕ, ◌^◌, ◌<◌, ◌≤◌, List, [], length, replicate, take}
use Rattle.std.specs.Prelude.{nat_lt, Bool, Option, None, Some}
use Rattle.std.specs.List.{All}
use Rattle.std.specs.FinMap as tasks_by
use Rattle.psi_base.specs.declared.event.Event.{Event}
use Rattle.psi_base.specs.declared.event.Slot.{Slot}
use Rattle.psi_spec.specs.declared.machine.GroupLife.{GroupLife}
use Rattle.psi_spec.specs.declared.machine.Task.{Task}
use Rattle.psi_spec.specs.World.{World, Limits, after, first_world, up_to}
use Rattle.psi_spec.specs.Refusal.{AreLegal}
use Rattle.psi_spec.specs.LegalGroups.{AreOlder}
use Rattle.psi_spec.specs.Stall.{parents_of, is_under}
use Rattle.psi_counts.specs.Counts.{how_many}
use Rattle.slot_clocks.specs.Clocks.{parent_numbers}
use Rattle.kill_spec.specs.declared.reading.HostReading.{HostReading}
use Rattle.kill_spec.specs.Readings.{no_host}
use Rattle.kill_spec.specs.LegalReadings.{IsHostReading}
use Rattle.kill_spec.specs.Evaluations.{memory_of, preference_of, host_of, is_populated}
use Rattle.proc_plan.specs.declared.side.Side.{Side}
use Rattle.proc_plan.specs.Sides.{sides_of}
use Rattle.side_watch.specs.declared.cell.SideCell.{SideCell}
use Rattle.side_watch.specs.declared.cell.GroupMemory.{GroupMemory}
use Rattle.side_watch.specs.Sides.{side_sample, zero_side_cell, side_cell_in}

-- The state of a watch: the state and the parent of the group in each slot, the latest sample of
-- the host's memory, and the number of side events applied so far.
pub record SideView : Type 0 where
  pub cells : List SideCell
  pub parents : List (Option ℕ)
  pub host : HostReading
  pub taken : ℕ

-- Builds the state of a watch from its parts.
abbrev pub watch_view : List SideCell → List (Option Slot) → HostReading → ℕ → SideView
watch_view cells parents host taken =
    record { cells = cells; parents = parent_numbers parents; host = host; taken = taken }

-- The watch's state of the group in slot `slot`.
abbrev pub side_cell_at : SideView → ℕ → SideCell
side_cell_at watch slot = side_cell_in watch.cells slot

-- Returns whether the watch counts at least one live task in the group in slot `slot` or in its
-- descendants.
abbrev pub has_tasks : SideView → ℕ → Bool
has_tasks watch slot = nat_lt 0 (side_cell_at watch slot).tasks

-- The numbers of bytes and pages in a memory sample are at most 2^60.
pub record IsSmallMemory (memory : GroupMemory) : Type 0 where
  pub current : memory.current ≤ 2 ^ 60
  pub swap : memory.swap ≤ 2 ^ 60
  pub scan : memory.scan ≤ 2 ^ 60

-- The numbers in each group's memory sample are at most 2^60.
abbrev pub AreSmallCells : List SideCell → Type 0
AreSmallCells cells = All (λ (cell : SideCell). IsSmallMemory cell.memory) cells

-- The invariant of a watch. Each parent has a lower slot than its children. The list of parents has
-- an entry for each group. The numbers in all memory samples are at most 2^60.
pub record IsWatch (watch : SideView) : Type 0 where
  pub older : AreOlder watch.parents
  pub each : length watch.cells ≡ length watch.parents
  pub small : AreSmallCells watch.cells
  pub host : IsHostReading watch.host

-- The watch of the groups `lives` before the first side event.
abbrev pub first_watch : List GroupLife → SideView
first_watch lives = record {
  cells = replicate (length lives) zero_side_cell;
  parents = parents_of lives;
  host = no_host;
  taken = 0;
}

-- ---- the watch and the events of a trace

-- `seen_events events moment`: the events at or before the time `moment` (ns). The list is empty if
-- `moment` is `None`, a time before all events.
abbrev pub seen_events : List Event → Option ℕ → List Event
seen_events events None = []
seen_events events (Some at) = up_to events at

-- `IsNotAfter before at`: the time `before` (ns) is at or before the time `at` (ns). `None` is
-- before every time.
abbrev pub IsNotAfter : Option ℕ → ℕ → Type 0
IsNotAfter None at = Unit {0}
IsNotAfter (Some before) at = before ≤ at

-- The number of live tasks in the group in slot `slot` and in its descendants.
abbrev pub tasks_under : World → ℕ → ℕ
tasks_under w slot =
    how_many (λ (task : Task). is_under (parents_of w.groups) task.slot.0 slot)
    (tasks_by.values w.tasks)

-- `Holds` is true for the slot of each group that the events create, and for the slot of the root.
abbrev pub OfEachGroup : List Event → (ℕ → Type 0) → Type 0
OfEachGroup events Holds = (slot : ℕ) → slot < length (after events).groups → Holds slot

-- `HasFollowed events moment watch`: the watch has the state after the events at or before the time
-- `moment` (ns). For each group, this is the latest memory sample, the latest preference, and the
-- number of live tasks in the group and its descendants. For the host, it is the latest sample of
-- its memory. Exactly the side events of these events have been applied.
pub record HasFollowed (events : List Event) (moment : Option ℕ) (watch : SideView) : Type 0 where
  pub parents : watch.parents ≡ parents_of (after events).groups
  pub each : length watch.cells ≡ length (after events).groups
  pub taken : take watch.taken (sides_of events) ≡ sides_of (seen_events events moment)
  pub memory : OfEachGroup events
      (λ slot. side_sample (side_cell_at watch slot).memory ≡ memory_of slot (seen_events events moment))
  pub preference : OfEachGroup events
      (λ slot. (side_cell_at watch slot).preference ≡ preference_of slot (seen_events events moment))
  pub tasks : OfEachGroup events
      (λ slot. (side_cell_at watch slot).tasks ≡ tasks_under (after (seen_events events moment)) slot)
  pub populated : OfEachGroup events
      (λ slot. has_tasks watch slot ≡ is_populated (after (seen_events events moment)) slot)
  pub host : watch.host ≡ host_of (seen_events events moment)

-- If `lives` has the groups that a legal list of events creates, the watch has the state before all
-- events.
abbrev pub Begins : List GroupLife → SideView → Type 0
Begins lives watch = (limits : Limits) (events : List Event) → AreLegal limits first_world events →
    lives ≡ (after events).groups → HasFollowed events None watch

-- Advances a watch to time `at` (ns). `sides` has the side events of a legal list of events, and
-- `old` has the state after the events up to a time that isn't after `at`. Then `new` has the state
-- after the events up to `at`.
abbrev pub Advances : SideView → SideView → List Side → ℕ → Type 0
Advances old new sides at = (limits : Limits) (events : List Event) (moment : Option ℕ) →
    AreLegal limits first_world events → sides ≡ sides_of events →
    IsNotAfter moment at → HasFollowed events moment old → HasFollowed events (Some at) new
