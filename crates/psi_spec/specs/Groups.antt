-- Defines which groups are live at a time, and the order in which groups are printed.
use Rattle.std.specs.Prelude.{ℕ, ◌+◌, if◌then◌else◌, List, [], ◌∷◌, map, slice_index_or, nat_le, not, ◌&&◌, Bool, false, Option, None, Some}
use Rattle.std.specs.Ordering.{nat_cmp}
use Rattle.std.specs.Cmp.Lexicographic.{slice_cmp}
use Rattle.std.specs.FinMap as entries
use Rattle.psi_spec.specs.declared.machine.GroupLife.{GroupLife}
use Rattle.psi_spec.specs.World.{is_live}

-- The path of the group in slot `slot`.
abbrev pub path_at : List GroupLife → ℕ → List ℕ
path_at groups slot = slice_index_or (map (λ group. group.path) groups) slot []

-- ---- live groups at a time

-- `is_gone_by gone at`: whether a group that was removed at time `gone` (ns) was removed at or
-- before time `at` (ns). The result is false if `gone` is `None`.
abbrev pub is_gone_by : Option ℕ → ℕ → Bool
is_gone_by None at = false
is_gone_by (Some gone) at = nat_le gone at

-- Whether a group is live at time `at` (ns): it was created at or before `at`, and wasn't removed
-- at or before `at`.
abbrev pub is_live_at : GroupLife → ℕ → Bool
is_live_at life at = nat_le life.made at && not (is_gone_by life.gone at)

-- ---- live groups in the order in which they are printed

-- The paths and slots of the live groups in a list whose first group is in slot `slot`.
abbrev pub live_from : ℕ → List GroupLife → List (List ℕ × ℕ)
live_from slot [] = []
live_from slot (group ∷ groups) = if is_live group then (group.path, slot) ∷ live_from (slot + 1) groups else live_from (slot + 1) groups

-- Sorts pairs of a path and a slot by the bytes of the paths.
abbrev pub in_order : List (List ℕ × ℕ) → List (List ℕ × ℕ)
in_order [] = []
in_order (pair ∷ pairs) = entries.put (slice_cmp nat_cmp) pair.0 pair.1 (in_order pairs)

-- The paths and slots of the live groups, sorted by the bytes of the paths.
abbrev pub live_groups : List GroupLife → List (List ℕ × ℕ)
live_groups groups = in_order (live_from 0 groups)
