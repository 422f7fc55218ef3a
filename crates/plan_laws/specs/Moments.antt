-- Laws of a trace at one time (ns): how stall time and interrupt time grow, which groups are live
-- (in order of creation and sorted by path), and which triggers are set.
use Rattle.std.specs.Prelude.{◌≡◌, ℕ, ◌+◌, ◌-◌, ◌≤◌, List, length, map, take, filter, slice_get, slice_index_or, nat_le, All, IfSome, Bool, Some}
use Rattle.std.specs.List.Sorted.{IsNonDecreasingBy}
use Rattle.psi_base.specs.declared.event.State.{State}
use Rattle.psi_base.specs.declared.event.Event.{Event}
use Rattle.psi_base.specs.declared.event.TriggerSpec.{TriggerSpec}
use Rattle.psi_base.specs.Missing.{is_some_and}
use Rattle.psi_spec.specs.declared.machine.GroupLife.{GroupLife}
use Rattle.psi_spec.specs.World.{Limits, root, first_world, after, up_to, most_cpus, longest_irq}
use Rattle.psi_spec.specs.Refusal.{AreLegal}
use Rattle.psi_spec.specs.Stall.{parents_of, stall, irq_time}
use Rattle.psi_spec.specs.Groups.{is_live_at, live_groups, path_at}
use Rattle.psi_spec.specs.LegalGroups.{IsPathOrder, is_live_in}
use Rattle.psi_spec.specs.Collected.{triggers_of}
use Rattle.psi_spec.specs.Within.{AreTriggersWithin}

-- ---- laws of stall time

-- Between two times (ns), stall time never decreases, and grows by at most the elapsed time.
abbrev pub StallGrows : Type 0
StallGrows = (limits : Limits) (events : List Event) → AreLegal limits first_world events →
    (state : State) (cpu slot at later : ℕ) → at ≤ later →
    (stall state cpu slot (up_to events at) at ≤ stall state cpu slot (up_to events later) later)
    × (stall state cpu slot (up_to events later) later ≤ stall state cpu slot (up_to events at) at + (later - at))

-- The stall time up to a time (ns) is at most that time.
abbrev pub StallIsWithin : Type 0
StallIsWithin = (limits : Limits) (events : List Event) → AreLegal limits first_world events →
    (state : State) (cpu slot at : ℕ) → stall state cpu slot (up_to events at) at ≤ at

-- The stall time at time 0 is 0.
abbrev pub NoStallAtFirst : Type 0
NoStallAtFirst = (limits : Limits) (events : List Event) → AreLegal limits first_world events →
    (state : State) (cpu slot : ℕ) → stall state cpu slot (up_to events 0) 0 ≡ 0

-- ---- laws of interrupt time

-- Between two times (ns), interrupt time never decreases, and grows by at most the elapsed time
-- plus one second. The interrupts that an event reports may have begun up to one second before the
-- event. Interrupts that later events on the processor report began at or after that event.
abbrev pub IrqGrows : Type 0
IrqGrows = (limits : Limits) (events : List Event) → AreLegal limits first_world events → limits.cpus ≤ most_cpus →
    (cpu slot at later : ℕ) → at ≤ later →
    (irq_time cpu slot (up_to events at) ≤ irq_time cpu slot (up_to events later))
    × (irq_time cpu slot (up_to events later) ≤ irq_time cpu slot (up_to events at) + (later - at) + longest_irq)

-- The interrupt time up to a time (ns) is at most that time, because the interrupts of one
-- processor don't overlap.
abbrev pub IrqIsWithin : Type 0
IrqIsWithin = (limits : Limits) (events : List Event) → AreLegal limits first_world events → limits.cpus ≤ most_cpus →
    (cpu slot at : ℕ) → irq_time cpu slot (up_to events at) ≤ at

-- The interrupt time at time 0 is 0.
abbrev pub NoIrqAtFirst : Type 0
NoIrqAtFirst = (limits : Limits) (events : List Event) → AreLegal limits first_world events → limits.cpus ≤ most_cpus →
    (cpu slot : ℕ) → irq_time cpu slot (up_to events 0) ≡ 0

-- ---- lifetimes of groups

-- `IsLife last life`: the group `life` was created at or before time `last` (ns). If the group was
-- removed, its removal was at or before `last` and not before its creation.
pub record IsLife (last : ℕ) (life : GroupLife) : Type 0 where
  pub made : life.made ≤ last
  pub gone : IfSome life.gone (λ gone. (life.made ≤ gone) × (gone ≤ last))

-- The invariant of all groups of a trace whose last event is at time `last` (ns). The first group
-- is the root, which was created at 0 and is never removed. The groups are in the order of
-- creation. Each creation and each removal is at or before `last`.
pub record AreLives (last : ℕ) (groups : List GroupLife) : Type 0 where
  pub rooted : slice_get groups 0 ≡ Some root
  pub order : IsNonDecreasingBy (λ (life : GroupLife). life.made) groups
  pub each : All (IsLife last) groups

-- The groups after legal events satisfy the invariant `AreLives`: they are in the order of
-- creation, and were created and removed at or before the last event.
abbrev pub LivesAreInOrder : Type 0
LivesAreInOrder = (limits : Limits) (events : List Event) → AreLegal limits first_world events →
    AreLives (after events).last (after events).groups

-- The groups after all events determine which groups were live at any time `at` (ns). A group that
-- was created and removed at the same time isn't live at that time.
abbrev pub LivesShowLive : Type 0
LivesShowLive = (limits : Limits) (events : List Event) → AreLegal limits first_world events → (at slot : ℕ) →
    is_live_in (after (up_to events at)).groups slot
    ≡ is_some_and (slice_get (after events).groups slot) (λ life. is_live_at life at)

-- `AreFirstOf all some`: the groups in `some` have the paths, parents and creation times (ns) of
-- the first groups in `all`, in the same order. Removal times may differ.
pub record AreFirstOf (all some : List GroupLife) : Type 0 where
  pub few : length some ≤ length all
  pub paths : map (λ (life : GroupLife). life.path) some ≡ take (length some) (map (λ (life : GroupLife). life.path) all)
  pub parents : parents_of some ≡ take (length some) (parents_of all)
  pub made : map (λ (life : GroupLife). life.made) some ≡ take (length some) (map (λ (life : GroupLife). life.made) all)

-- The groups created up to a time (ns) are the first groups of the trace.
abbrev pub GroupsKeepSlots : Type 0
GroupsKeepSlots = (limits : Limits) (events : List Event) → AreLegal limits first_world events → (at : ℕ) →
    AreFirstOf (after events).groups (after (up_to events at)).groups

-- ---- live groups by path

-- Whether the group in slot `slot` is live at time `at` (ns).
abbrev pub is_live_slot : List GroupLife → ℕ → ℕ → Bool
is_live_slot groups at slot = is_live_at (slice_index_or groups slot root) at

-- The path of the group in slot `slot`, paired with the slot.
abbrev pub with_path : List GroupLife → ℕ → List ℕ × ℕ
with_path groups slot = (path_at groups slot, slot)

-- Sorting all groups of a trace by path once is enough. `order` has the slots of all groups, sorted
-- by path. The live groups at a time `at` (ns), in path order, are the groups in `order` that are
-- live at that time.
abbrev pub OrderShowsLive : Type 0
OrderShowsLive =
    (limits : Limits) (events : List Event) → AreLegal limits first_world events → (order : List ℕ)
    → IsPathOrder (after events).groups order → (at : ℕ) →
    live_groups (after (up_to events at)).groups
    ≡ map (with_path (after events).groups) (filter (is_live_slot (after events).groups at) order)

-- `order` has the slots of all groups, sorted by path. The slots in `order` whose groups are live
-- at a time `at` (ns) are the slots of the live groups at that time, in path order.
abbrev pub OrderShowsSlots : Type 0
OrderShowsSlots =
    (limits : Limits) (events : List Event) → AreLegal limits first_world events → (order : List ℕ)
    → IsPathOrder (after events).groups order → (at : ℕ) →
    map (λ (pair : List ℕ × ℕ). pair.1) (live_groups (after (up_to events at)).groups)
    ≡ filter (is_live_slot (after events).groups at) order

-- ---- laws of triggers

-- The triggers of a trace are within the limits: their number is limited, the values of each
-- trigger are in range, and the group that a trigger watches exists.
abbrev pub TriggersAreWithin : Type 0
TriggersAreWithin = (limits : Limits) (events : List Event) → AreLegal limits first_world events →
    AreTriggersWithin limits.latest (length (after events).groups) (triggers_of events)

-- The times of triggers never decrease.
abbrev pub TriggersAreInOrder : Type 0
TriggersAreInOrder = (limits : Limits) (events : List Event) → AreLegal limits first_world events →
    IsNonDecreasingBy (λ (trigger : TriggerSpec). trigger.at) (triggers_of events)

-- The triggers that the events up to a time (ns) set are the triggers of the whole trace that are
-- set at or before that time.
abbrev pub TriggersUpTo : Type 0
TriggersUpTo = (limits : Limits) (events : List Event) → AreLegal limits first_world events → (at : ℕ) →
    triggers_of (up_to events at) ≡ filter (λ (trigger : TriggerSpec). nat_le trigger.at at) (triggers_of events)

-- `IsThere life at`: the group `life` was created at or before time `at` (ns), and wasn't removed
-- before `at`. It may be removed at `at`.
pub record IsThere (life : GroupLife) (at : ℕ) : Type 0 where
  pub made : life.made ≤ at
  pub gone : IfSome life.gone (λ gone. at ≤ gone)

-- The group that a trigger watches existed when the trigger was set.
abbrev pub TriggersAreOnGroups : Type 0
TriggersAreOnGroups = (limits : Limits) (events : List Event) → AreLegal limits first_world events →
    All (λ (trigger : TriggerSpec). IsThere (slice_index_or (after events).groups trigger.slot.0 root) trigger.at) (triggers_of events)
