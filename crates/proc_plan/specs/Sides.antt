-- Defines the side events of a trace: memory samples of groups and of the host, preferences, and
-- tasks that join or leave groups. A side event is neither a change of a processor nor a trigger.
use Rattle.std.specs.Prelude.{ℕ, ◌^◌, ◌≤◌, List, [], ◌∷◌, ◌++◌, ◌==◌, if◌then◌else◌, Option, None, Some, pos, negsuc}
use Rattle.psi_base.specs.declared.event.Slot.{Slot}
use Rattle.psi_base.specs.declared.event.Act.{Act}
use Rattle.psi_base.specs.declared.event.Act.TheVariants as act
use Rattle.psi_base.specs.declared.event.Event.{Event}
use Rattle.psi_spec.specs.declared.machine.Task.{Task}
use Rattle.psi_spec.specs.declared.machine.GroupLife.{GroupLife}
use Rattle.psi_spec.specs.World.{World, first_world}
use Rattle.psi_spec.specs.Collected.{slot_named, values_from}
use Rattle.psi_counts.specs.Touch.{task_after}
use Rattle.psi_spec.specs.Changes.{before}
use Rattle.proc_plan.specs.declared.side.Side.{Side}
use Rattle.proc_plan.specs.declared.side.SideAct.{SideAct}
use Rattle.proc_plan.specs.declared.side.SideAct.TheVariants as side

-- ---- side events

-- `side_at at what`: the list with the single side event `what` at the time `at` (ns).
abbrev pub side_at : ℕ → SideAct → List Side
side_at at what = record { at = at; what = what } ∷ []

-- `came at slot`: a list with one side event. A task joins the group in `slot` itself, not a
-- descendant, at the time `at` (ns).
abbrev pub came : ℕ → Slot → List Side
came at slot = side_at at (side.Tasks slot (pos 1))

-- `went at slot`: a list with one side event. A task leaves the group in `slot` itself, not a
-- descendant, at the time `at` (ns).
abbrev pub went : ℕ → Slot → List Side
went at slot = side_at at (side.Tasks slot (negsuc 0))

-- `passage at old new`: the side events of a task that moves from group `old` to group `new` at the
-- time `at` (ns). The task leaves `old` and joins `new`. `old` is `None` if the task is created,
-- and `new` is `None` if it exits. The list is empty if the groups are the same.
abbrev pub passage : ℕ → Option Slot → Option Slot → List Side
passage at None None = []
passage at None (Some new) = came at new
passage at (Some old) None = went at old
passage at (Some old) (Some new) = if old.0 == new.0 then [] else went at old ++ came at new

-- Returns the slot of a task's group, or `None` if there is no task.
abbrev pub group_of : Option Task → Option Slot
group_of None = None
group_of (Some task) = Some task.slot

-- `sample_by at groups act`: the side event of a memory sample or a preference at the time `at`
-- (ns), as a list with one element. The list is empty if `act` is neither a sample nor a
-- preference. `groups` are the groups before the event.
abbrev pub sample_by : ℕ → List GroupLife → Act → List Side
sample_by at groups (act.Mem path current swap scan) = side_at at (side.Mem (slot_named groups path) current swap scan)
sample_by at groups (act.Prefer path preference) = side_at at (side.Prefer (slot_named groups path) preference)
sample_by at groups (act.Host mem_total swap_total swap_free) = side_at at (side.Host mem_total swap_total swap_free)
sample_by at groups _ = []

-- `sides_by w event`: the side events of an event, in order: a memory sample or a preference, a
-- task that leaves a group, and a task that joins a group. `w` is the scheduler state (`World`)
-- before the event.
abbrev pub sides_by : World → Event → List Side
sides_by w event =
    sample_by event.at w.groups event.act ++ passage event.at (group_of (before w.tasks event.act))
    (group_of (task_after w.groups w.tasks event.act))

-- `sides_of events`: the side events of all events of a trace, in order.
abbrev pub sides_of : List Event → List Side
sides_of events = values_from sides_by first_world events

-- Each number of bytes or pages in a side event is at most 2^60. This always holds for a
-- preference, and for a task that joins or leaves a group.
abbrev pub IsSmall : SideAct → Type 0
IsSmall (side.Mem slot current swap scan) = (current ≤ 2 ^ 60) × (swap ≤ 2 ^ 60) × (scan ≤ 2 ^ 60)
IsSmall (side.Prefer slot preference) = Unit {0}
IsSmall (side.Host mem_total swap_total swap_free) = (mem_total ≤ 2 ^ 60) × (swap_total ≤ 2 ^ 60) × (swap_free ≤ 2 ^ 60)
IsSmall (side.Tasks slot added) = Unit {0}
