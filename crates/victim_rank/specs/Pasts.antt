-- Defines the stored past: for each group, the values of earlier readings that a choice of a victim
-- needs. A stored past *represents* a list of readings if it is the past stored after these
-- readings.
use Rattle.std.specs.Prelude.{◌≡◌, ℕ, ◌≤◌, ◌^◌, List, [], ◌∷◌, All, length, map, take, option_map}
use Rattle.std.specs.Prelude.{slice_index_or, Option, None}
use Rattle.kill_spec.specs.declared.reading.GroupReading.{GroupReading}
use Rattle.kill_spec.specs.Readings.{Reading, group_in}
use Rattle.kill_spec.specs.Victims.{sizes_in}
use Rattle.victim_rank.specs.declared.past.Sizes.{Sizes}

-- The stored past, indexed by slot. `sizes` has the last sizes (bytes) of each group, newest first.
-- `scans` has the scan count of each group at the last reading, or `None` if the group wasn't live
-- then. The scan count is the number of the group's pages that memory reclaim has scanned.
pub record Kept : Type 0 where
  pub sizes : List (List ℕ)
  pub scans : List (Option ℕ)

-- The scan count of the group in slot `slot` at the newest reading, or `None` if the group wasn't
-- live then.
abbrev pub scan_before : List Reading → ℕ → Option ℕ
scan_before [] slot = None
scan_before (before ∷ past) slot =
    option_map (λ (group : GroupReading). group.scan) (group_in before slot)

-- `kept` is the past stored after the readings `history` (newest first): for each group, its sizes
-- at the last four readings at which it was live, and its scan count at the newest reading.
pub record IsPastOf (kept : Kept) (history : List Reading) : Type 0 where
  pub sizes : (slot : ℕ) → slice_index_or kept.sizes slot [] ≡ take 4 (sizes_in slot history)
  pub scans : (slot : ℕ) → slice_index_or kept.scans slot None ≡ scan_before history slot

-- Storing the reading `now` leads from the past `old` to the past `new`: if `old` represents the
-- readings `history`, `new` represents `now` followed by `history`.
abbrev pub PastTakes : Kept → Reading → Kept → Type 0
PastTakes old now new = (history : List Reading) → IsPastOf old history → IsPastOf new (now ∷ history)

-- ---- storage of the past

-- The sizes (bytes) that are stored for a group, newest first.
abbrev pub sizes_of : Sizes → List ℕ
sizes_of sizes = take sizes.count sizes.bytes

-- At most four sizes are stored for a group, and each is at most 2^60 bytes.
pub record AreSizes (sizes : Sizes) : Type 0 where
  pub few : sizes.count ≤ 4
  pub places : length sizes.bytes ≡ 4
  pub each : All (λ size. size ≤ 2 ^ 60) sizes.bytes

-- `kept_of sizes scans`: the stored past with the sizes `sizes` and the scan counts `scans`.
abbrev pub kept_of : List Sizes → List (Option ℕ) → Kept
kept_of sizes scans = record { sizes = map sizes_of sizes; scans = scans }

-- The invariant of a stored past: the lists of sizes and of scan counts are equally long, and at
-- most four sizes are stored for each group.
pub record IsPast (sizes : List Sizes) (scans : List (Option ℕ)) : Type 0 where
  pub same : length scans ≡ length sizes
  pub each : All AreSizes sizes
