-- Defines the growth of a group over its past sizes, and when a group has grown more than another.
use Rattle.std.specs.Prelude.{ℕ, ◌*◌, List, [], length, sum, nat_le, nat_lt, ◌==◌, ◌&&◌, ◌||◌, Bool}
use Rattle.std.specs.Prelude.{slice_index_or}
use Rattle.psi_spec.specs.declared.machine.GroupLife.{GroupLife}
use Rattle.kill_spec.specs.declared.reading.GroupReading.{GroupReading}
use Rattle.kill_spec.specs.Victims.{is_larger, memory_in_use}
use Rattle.victim_rank.specs.Pasts.{Kept}

-- The past sizes (bytes) that are stored for the group.
abbrev pub sizes_from : Kept → GroupReading → List ℕ
sizes_from kept group = slice_index_or kept.sizes group.slot.0 []

-- Whether the group's size is at least `ratio` thousandths of the mean of its past sizes. False if
-- the group has no past sizes, or if all of them are 0.
abbrev pub is_growing_over : (GroupReading → List ℕ) → ℕ → GroupReading → Bool
is_growing_over sizes ratio group =
    nat_lt 0 (sum (sizes group))
    && nat_le (ratio * sum (sizes group)) (memory_in_use group * length (sizes group) * 1000)

-- The growth of `group`, scaled so that two growths can be compared without division. The growth is
-- the group's size divided by the mean of its past sizes. It is multiplied by the sums of the past
-- sizes of `group` and `other`.
abbrev pub growth_over : (GroupReading → List ℕ) → GroupReading → GroupReading → ℕ
growth_over sizes group other = memory_in_use group * length (sizes group) * sum (sizes other)

-- Whether the group `first` has grown more than `second`, or has grown equally and is larger.
abbrev pub has_grown_more_over : (GroupReading → List ℕ) → List GroupLife →
    GroupReading → GroupReading → Bool
has_grown_more_over sizes lives first second =
    nat_lt (growth_over sizes second first) (growth_over sizes first second)
    || (growth_over sizes first second == growth_over sizes second first
    && is_larger lives first second)
