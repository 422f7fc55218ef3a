-- States laws of the side events of a trace (memory samples, preferences, and tasks that join or
-- leave groups). The side events are in order of time, and they determine the number of tasks in
-- each group.
use Rattle.std.specs.Prelude.{◌≡◌, ℕ, ◌+◌, ◌<◌, ◌≤◌, List, length, filter, count_by, nat_le, All, IfSome, ◌==◌, Bool, false, Option, None, Some, pos, negsuc}
use Rattle.std.specs.FinMap as tasks_by
use Rattle.std.specs.List.Sorted.{IsNonDecreasingBy}
use Rattle.psi_base.specs.declared.event.Slot.{Slot}
use Rattle.psi_base.specs.declared.event.Event.{Event}
use Rattle.psi_spec.specs.World.{Tasks, Limits, first_world, after, up_to, most_tasks}
use Rattle.psi_spec.specs.Refusal.{AreLegal}
use Rattle.psi_counts.specs.Counts.{how_many}
use Rattle.task_table.specs.Stands.{is_of}
use Rattle.proc_plan.specs.declared.side.Side.{Side}
use Rattle.proc_plan.specs.declared.side.SideAct.{SideAct}
use Rattle.proc_plan.specs.declared.side.SideAct.TheVariants as side
use Rattle.proc_plan.specs.Sides.{sides_of}

-- ---- the times of side events

-- For each time `at` (ns), the events up to `at` have exactly the side events of the whole trace
-- whose times are at most `at`.
abbrev pub SidesUpTo : Type 0
SidesUpTo = (limits : Limits) (events : List Event) → AreLegal limits first_world events → (at : ℕ) →
    sides_of (up_to events at) ≡ filter (λ (side : Side). nat_le side.at at) (sides_of events)

-- The times of the side events of a trace never decrease.
abbrev pub SidesAreInOrder : Type 0
SidesAreInOrder = (limits : Limits) (events : List Event) → AreLegal limits first_world events →
    IsNonDecreasingBy (λ (side : Side). side.at) (sides_of events)

-- ---- the number of tasks in a group

-- `comes slot act`: whether the side event `act` is a task that joins the group in `slot` itself,
-- not a descendant.
abbrev pub comes : ℕ → SideAct → Bool
comes slot (side.Tasks into (pos n)) = into.0 == slot
comes slot _ = false

-- `goes slot act`: whether the side event `act` is a task that leaves the group in `slot` itself,
-- not a descendant.
abbrev pub goes : ℕ → SideAct → Bool
goes slot (side.Tasks out (negsuc n)) = out.0 == slot
goes slot _ = false

-- `members slot tasks`: the number of live tasks in the group in `slot` itself, without its
-- descendants.
abbrev pub members : ℕ → Tasks → ℕ
members slot tasks = how_many (is_of slot) (tasks_by.values tasks)

-- The number of tasks that joined a group is the number of tasks that left it plus the number of
-- tasks that are in it after the last event. A group has at most 65,536 tasks, the limit of live
-- tasks.
abbrev pub MembersAreKnown : Type 0
MembersAreKnown = (limits : Limits) (events : List Event) → AreLegal limits first_world events → (slot : ℕ) →
    (count_by (λ (side : Side). comes slot side.what) (sides_of events)
    ≡ count_by (λ (side : Side). goes slot side.what) (sides_of events) + members slot (after events).tasks)
    × (members slot (after events).tasks ≤ most_tasks)

-- ---- the slots in side events

-- Returns the slot of the group that a side event names, or `None` for a sample of the host.
abbrev pub slot_of_side : SideAct → Option Slot
slot_of_side (side.Mem slot current swap scan) = Some slot
slot_of_side (side.Prefer slot preference) = Some slot
slot_of_side (side.Host mem_total swap_total swap_free) = None
slot_of_side (side.Tasks slot added) = Some slot

-- If a side event of a legal trace names a slot, the slot exists.
abbrev pub SidesAreOnGroups : Type 0
SidesAreOnGroups = (limits : Limits) (events : List Event) → AreLegal limits first_world events →
    All (λ (side : Side). IfSome (slot_of_side side.what) (λ slot. slot.0 < length (after events).groups)) (sides_of events)
