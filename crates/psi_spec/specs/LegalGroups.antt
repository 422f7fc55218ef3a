-- Defines the invariant of the groups after legal events, the ancestors of a group, and the order
-- of all groups by path.
use Rattle.std.specs.Prelude.{◌≡◌, ℕ, ◌<◌, ◌≤◌, List, [], ◌∷◌, length, take, slice_get, slice_index_or, Bool, true, false, Option, None, Some, IsSome, IsPermutation, IsSortedByKey}
use Rattle.std.specs.List.{range_with_len}
use Rattle.std.specs.Ordering.{nat_cmp}
use Rattle.std.specs.Cmp.Lexicographic.{slice_cmp}
use Rattle.psi_base.specs.declared.event.Act.{Act}
use Rattle.psi_base.specs.Missing.{is_some_and}
use Rattle.psi_spec.specs.declared.machine.GroupLife.{GroupLife}
use Rattle.psi_spec.specs.Names.{names}
use Rattle.psi_spec.specs.World.{root, is_live, slot_of, parent_path, most_groups}
use Rattle.psi_spec.specs.Stall.{parents_of, is_under}
use Rattle.psi_spec.specs.Groups.{path_at}

-- ---- groups after legal events

-- The slot of each group's parent is smaller than the group's own slot.
abbrev pub AreOlder : List (Option ℕ) → Type 0
AreOlder parents = (slot parent : ℕ) → slice_index_or parents slot None ≡ Some parent → parent < slot

-- Each group except the first has a parent.
abbrev pub HaveParents : List (Option ℕ) → Type 0
HaveParents parents = (slot : ℕ) → 0 < slot → slot < length parents → IsSome (slice_index_or parents slot None)

-- The path of each parent is the path of its child up to the last slash.
abbrev pub AreAbove : List GroupLife → Type 0
AreAbove groups =
    (slot parent : ℕ) → slice_index_or (parents_of groups) slot None ≡ Some parent
    → path_at groups parent ≡ parent_path (path_at groups slot)

-- Looking up the path of a live group finds the slot of that group. So no two live groups have the
-- same path.
abbrev pub IsOneLive : List GroupLife → Type 0
IsOneLive groups =
    (slot : ℕ) (group : GroupLife) → slice_get groups slot ≡ Some group → is_live group ≡ true → slot_of groups group.path ≡ Some slot

-- The invariant of the groups after legal events: there are at most 1,024 groups; the first is the
-- root, live and with its accounting on; each other group has a parent, whose slot is smaller and
-- whose path is the group's path up to the last slash; and no two live groups have the same path.
pub record AreGroups (groups : List GroupLife) : Type 0 where
  pub few : length groups ≤ most_groups
  pub rooted : take 1 groups ≡ root ∷ []
  pub older : AreOlder (parents_of groups)
  pub parented : HaveParents (parents_of groups)
  pub above : AreAbove groups
  pub one_live : IsOneLive groups

-- Whether the group in slot `slot` exists and is live.
abbrev pub is_live_in : List GroupLife → ℕ → Bool
is_live_in groups slot = is_some_and (slice_get groups slot) is_live

-- ---- the ancestors of a group

-- `leads_to parents slot high`: whether the group in `slot` is the group in slot `high` or a
-- descendant of it. The result is false if `slot` is `None`.
abbrev pub leads_to : List (Option ℕ) → Option ℕ → ℕ → Bool
leads_to parents None high = false
leads_to parents (Some low) high = is_under parents low high

-- `parent_of_new groups path`: a list with the parent of the group that is created with the path
-- `path`. The list is empty if `path` is `None`, because no group is created then.
abbrev pub parent_of_new : List GroupLife → Option (List ℕ) → List (Option ℕ)
parent_of_new groups None = []
parent_of_new groups (Some path) = slot_of groups (parent_path path) ∷ []

-- The parent of the group that an event creates, as a list of one element. The list is empty if the
-- event creates no group.
abbrev pub new_parents : List GroupLife → Act → List (Option ℕ)
new_parents groups what = parent_of_new groups (names what).new_path

-- ---- the order of all groups by path

-- `order` lists all slots by path: each slot occurs once, and the paths are in ascending byte
-- order. Slots with equal paths may be in any order.
pub record IsPathOrder (groups : List GroupLife) (order : List ℕ) : Type 0 where
  pub each : IsPermutation (range_with_len 0 (length groups)) order
  pub sorted : IsSortedByKey (path_at groups) (slice_cmp nat_cmp) order
