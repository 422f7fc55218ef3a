-- The invariants of the readings in every replay: values are in range, and groups are ordered by
-- distinct paths.
use Rattle.std.specs.Prelude.{◌≡◌, ℕ, ◌^◌, ◌≤◌, ◌<◌, List, [], ◌∷◌, length, map, All}
use Rattle.std.specs.Ordering.{nat_cmp}
use Rattle.std.specs.declared.cmp.Ordering.TheVariants.{Less}
use Rattle.std.specs.Cmp.Lexicographic.{slice_cmp}
use Rattle.psi_spec.specs.declared.machine.GroupLife.{GroupLife}
use Rattle.pressure_spec.specs.Within.{IsRow}
use Rattle.pressure_spec.specs.Share.{irq_quantity}
use Rattle.kill_spec.specs.declared.reading.GroupReading.{GroupReading}
use Rattle.kill_spec.specs.declared.reading.HostReading.{HostReading}
use Rattle.kill_spec.specs.Readings.{Reading, path_of}

-- The reading of a group is in range: its slot is below `slots`, sizes (bytes) and counts are at
-- most 2^60, and each quantity except interrupt time has three averages of at most 100 percent.
pub record IsGroupReading (slots : ℕ) (group : GroupReading) : Type 0 where
  pub slot : group.slot.0 < slots
  pub current : group.current ≤ 2 ^ 60
  pub swap : group.swap ≤ 2 ^ 60
  pub scan : group.scan ≤ 2 ^ 60
  pub rows : length group.averages ≡ irq_quantity
  pub each : All IsRow group.averages

-- A sample of the host's memory is in range: each size is at most 2^60 bytes.
pub record IsHostReading (host : HostReading) : Type 0 where
  pub mem_total : host.mem_total ≤ 2 ^ 60
  pub swap_total : host.swap_total ≤ 2 ^ 60
  pub swap_free : host.swap_free ≤ 2 ^ 60

-- The bytes `first` are before the bytes `second` in byte order.
abbrev pub ComesBefore : List ℕ → List ℕ → Type 0
ComesBefore first second = slice_cmp nat_cmp first second ≡ Less

-- The paths are in strictly ascending byte order, so no path occurs twice.
abbrev pub Ascend : List (List ℕ) → Type 0
Ascend [] = Unit {0}
Ascend (first ∷ []) = Unit {0}
Ascend (first ∷ second ∷ paths) = ComesBefore first second × Ascend (second ∷ paths)

-- `reading` is a legal reading for `lives`, the groups that a trace ever creates: the values of
-- each group and of the host are in range, and the paths are in ascending order.
pub record IsReading (lives : List GroupLife) (reading : Reading) : Type 0 where
  pub host : IsHostReading reading.host
  pub each : All (IsGroupReading (length lives)) reading.groups
  pub order : Ascend (map (path_of lives) reading.groups)

-- The reading `now` is later than the newest reading of `past`, which is the first in the list.
abbrev pub IsLater : Reading → List Reading → Type 0
IsLater now [] = Unit {0}
IsLater now (before ∷ past) = before.at < now.at

-- The readings are legal for the groups `lives`. The newest reading comes first, and each reading
-- is later than the readings after it in the list.
abbrev pub AreReadings : List GroupLife → List Reading → Type 0
AreReadings lives [] = Unit {0}
AreReadings lives (now ∷ past) = IsReading lives now × IsLater now past × AreReadings lives past
