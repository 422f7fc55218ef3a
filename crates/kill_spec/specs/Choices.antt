-- Laws of choices among groups. They characterize the chosen group by a relation between groups,
-- without referring to a search.
use Rattle.std.specs.Prelude.{◌≡◌, ◌↔◌, ◌⊎◌, ℕ, ◌<◌, List, [], map, Option, None, Some, Contains}
use Rattle.psi_spec.specs.declared.machine.GroupLife.{GroupLife}
use Rattle.kill_spec.specs.declared.reading.GroupReading.{GroupReading}
use Rattle.kill_spec.specs.Readings.{path_of}
use Rattle.kill_spec.specs.LegalReadings.{Ascend, ComesBefore}
use Rattle.kill_spec.specs.Victims.{beats_by, largest, memory_in_use, rank_of, unbeaten}

-- `first` has a greater ranking value (`measure`) than `second`, or the values are equal and the
-- path of `first` comes before the path of `second` in byte order.
abbrev pub IsGreaterBy : List GroupLife → (GroupReading → ℕ) → GroupReading → GroupReading → Type 0
IsGreaterBy lives measure first second =
    (measure second < measure first)
    ⊎ ((measure first ≡ measure second) × ComesBefore (path_of lives first) (path_of lives second))

-- `first` has a better kill preference than `second`; or the preferences are equal and its ranking
-- value is greater; or both are equal and its path comes first in byte order.
abbrev pub BeatsBy : List GroupLife → (GroupReading → ℕ) → GroupReading → GroupReading → Type 0
BeatsBy lives measure first second =
    (rank_of second < rank_of first)
    ⊎ ((rank_of first ≡ rank_of second) × IsGreaterBy lives measure first second)

-- `group` is in the list `groups`, and no group of the list beats it by the relation `Beats`.
pub record IsUnbeaten (Beats : GroupReading → GroupReading → Type 0) (groups : List GroupReading)
    (group : GroupReading) : Type 0 where
  pub one : Contains groups group
  pub by_none : (other : GroupReading) → Contains groups other → Beats other group → ⊥

-- `choice` is a correct choice among `groups` by the relation `Beats`: it is `None` if and only if
-- the list is empty, and `Some group` if and only if `group` is in the list and unbeaten.
pub record IsChoice (Beats : GroupReading → GroupReading → Type 0) (groups : List GroupReading)
    (choice : Option GroupReading) : Type 0 where
  pub none : (choice ≡ None) ↔ (groups ≡ [])
  pub some : (group : GroupReading) → (choice ≡ Some group) ↔ IsUnbeaten Beats groups group

-- If a list of groups is sorted by path, the search by a ranking value finds the group that no
-- other group beats.
abbrev pub UnbeatenIsChoice : Type 0
UnbeatenIsChoice = (lives : List GroupLife) (measure : GroupReading → ℕ)
    (groups : List GroupReading) → Ascend (map (path_of lives) groups) →
    IsChoice (BeatsBy lives measure) groups (unbeaten (beats_by lives measure) groups)

-- If a list of groups is sorted by path, the search for the largest group finds the group that uses
-- the most memory. Among groups of equal size, it finds the group whose path comes first in byte
-- order.
abbrev pub LargestIsChoice : Type 0
LargestIsChoice = (lives : List GroupLife) (groups : List GroupReading) →
    Ascend (map (path_of lives) groups) →
    IsChoice (IsGreaterBy lives memory_in_use) groups (largest lives groups)
