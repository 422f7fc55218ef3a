-- Defines which changes a tree of groups rejects, the ancestors of a group, and the invariant of
-- the tree.
use Rattle.std.specs.Prelude.{◌≡◌, ℕ, zero, suc, ◌+◌, List, [], ◌∷◌, length, map, slice_index_or, nat_le, ◌&&◌, ◌||◌, Bool, if◌then◌else◌, Option, None, Some}
use denote.Ref.{Bor}
use Rattle.psi_base.specs.declared.event.Slot.{Slot}
use Rattle.psi_base.specs.declared.event.Cause.{Cause}
use Rattle.psi_base.specs.declared.event.Cause.TheVariants as cause
use Rattle.psi_base.specs.declared.event.Fault.{Fault}
use Rattle.psi_base.specs.declared.event.Fault.TheVariants as fault
use Rattle.psi_spec.specs.declared.machine.GroupLife.{GroupLife}
use Rattle.psi_spec.specs.World.{is_live, is_root, slot_of, as_slot, most_groups}
use Rattle.psi_spec.specs.Refusal.{has_group, lacks_group, lacks_parent, has_child, is_slot}
use Rattle.psi_spec.specs.Stall.{parents_of, is_under}
use Rattle.psi_spec.specs.Groups.{live_groups}
use Rattle.psi_spec.specs.LegalGroups.{AreGroups}

-- ---- causes of rejection

-- `add_cause groups path`: the first cause for rejecting the creation of a group with this path.
-- The causes are TooManyGroups (1,024 groups were created), GroupExists (a live group has the path)
-- and NoParent (no live group has the parent path).
abbrev pub add_cause : List GroupLife → List ℕ → Option Cause
add_cause groups path =
    if nat_le most_groups (length groups) then Some cause.TooManyGroups else
    if has_group groups (Some path) then Some cause.GroupExists else
    if lacks_parent groups (Some path) then Some cause.NoParent else None

-- `remove_cause groups path`: the first cause for rejecting the removal of the group with this
-- path. The causes are UnknownGroup (no live group has the path) and GroupBusy (the group is the
-- root or has a live child).
abbrev pub remove_cause : List GroupLife → List ℕ → Option Cause
remove_cause groups path =
    if lacks_group groups (Some path) then Some cause.UnknownGroup else
    if is_root path || has_child groups (slot_of groups path) then Some cause.GroupBusy else None

-- `pressure_cause groups path`: the first cause for refusing to turn the pressure accounting of the
-- group with this path on or off. The causes are UnknownGroup (no live group has the path) and
-- RootPressure (the group is the root).
abbrev pub pressure_cause : List GroupLife → List ℕ → Option Cause
pressure_cause groups path =
    if lacks_group groups (Some path) then Some cause.UnknownGroup else
    if is_root path then Some cause.RootPressure else None

-- `IsGroupFault why fault`: the fault reports the cause `why`. `NoMemory` is possible only if there
-- is no cause.
abbrev pub IsGroupFault : Option Cause → Fault Cause → Type 0
IsGroupFault why (fault.Refused cause) = why ≡ Some cause
IsGroupFault why (fault.NoMemory _) = why ≡ None

-- ---- a group and its ancestors

-- Returns the slot with the number `n`.
abbrev pub slot_at : ℕ → Slot
slot_at n = record { 0 = n }

-- Returns the number of each slot in the list, in the same order.
abbrev pub numbers_of : List Slot → List ℕ
numbers_of slots = map (λ (slot : Slot). slot.0) slots

-- `down_from n test`: the numbers below `n` for which `test` is true, in descending order.
abbrev pub down_from : ℕ → (ℕ → Bool) → List ℕ
down_from zero test = []
down_from (suc n) test = if test n then n ∷ down_from n test else down_from n test

-- `chain_of groups slot`: the slots of the group and of all its ancestors. A parent has a smaller
-- slot than its child, so the slots are in descending order and end with the root.
abbrev pub chain_of : List GroupLife → ℕ → List Slot
chain_of groups slot = map slot_at (down_from (suc slot) (is_under (parents_of groups) slot))

-- Returns the slots of a group and of all its ancestors (`chain_of`), or the empty list for `None`.
abbrev pub chain_from : List GroupLife → Option Slot → List Slot
chain_from groups None = []
chain_from groups (Some slot) = chain_of groups slot.0

-- ---- live groups

-- Returns the slots of the live groups in the byte order of their paths.
abbrev pub live_slots : List GroupLife → List Slot
live_slots groups = map (λ (pair : List ℕ × ℕ). slot_at pair.1) (live_groups groups)

-- Converts each borrowed path in the list to bytes, and each slot to its number.
abbrev pub paths_and_slots : List (Bor (List ℕ) × Slot) → List (List ℕ × ℕ)
paths_and_slots groups = map (λ (pair : Bor (List ℕ) × Slot). (pair.0.now, pair.1.0)) groups

-- ---- the invariant of a tree

-- `count_children groups slot`: the number of live groups whose parent is the group in `slot`.
abbrev pub count_children : List GroupLife → ℕ → ℕ
count_children [] slot = 0
count_children (group ∷ groups) slot = count_children groups slot + (if is_live group && is_slot (Some slot) group.parent then 1 else 0)

-- `IsTree groups find children`: the invariant of a tree of groups. `groups` satisfies the
-- invariant of the groups of legal events (`AreGroups`). `find` returns the slot of the live group
-- with a path, or `None` if no live group has the path. `children` has the number of live children
-- of each group.
pub record IsTree (groups : List GroupLife) (find : List ℕ → Option Slot) (children : List ℕ) : Type 0 where
  pub legal : AreGroups groups
  pub found : (path : List ℕ) → find path ≡ as_slot (slot_of groups path)
  pub each : length children ≡ length groups
  pub counted : (slot : ℕ) → slice_index_or children slot 0 ≡ count_children groups slot
