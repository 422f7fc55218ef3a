-- Defines the *cutoff*: exactly the largest groups have a key of at least the cutoff. The key of a
-- group is a number that grows with the group's size.
use Rattle.std.specs.Prelude.{◌≡◌, ℕ, ◌+◌, ◌-◌, ◌*◌, ◌≤◌, List, Bool, Contains, true, ◌&&◌}
use Rattle.std.specs.Prelude.{filter, length, nat_le, nat_lt}
use Rattle.psi_spec.specs.World.{most_groups}
use Rattle.kill_spec.specs.declared.reading.GroupReading.{GroupReading}
use Rattle.kill_spec.specs.LegalReadings.{IsReading}
use Rattle.kill_spec.specs.Victims.{is_larger, memory_in_use}
use Rattle.detectors.specs.Inner.{AreAmong, group_at, groups_at}
use Rattle.detectors.specs.Views.{ReadingView}
use Rattle.victim_rank.specs.Scopes.{ScopeView, is_in_rank}

-- The key of the group at index `place`. A larger group has a greater key. Of two groups with equal
-- size, the group at the smaller index has the greater key.
abbrev pub size_key : List GroupReading → ℕ → ℕ
size_key groups place = memory_in_use (group_at groups place) * 1024 + (1023 - place)

-- Whether the group at index `place` passes `test` and has a key of at least `key`.
abbrev pub reaches : (GroupReading → Bool) → List GroupReading → ℕ → ℕ → Bool
reaches test groups key place =
    nat_le key (size_key groups place) && test (group_at groups place)

-- The number of places in `places` whose group passes `test` and has a key of at least `key`.
abbrev pub count_reaching : (GroupReading → Bool) → List GroupReading → List ℕ → ℕ → ℕ
count_reaching test groups places key = length (filter (reaches test groups key) places)

-- The precondition of the search for a cutoff: `places` includes the places of all groups of the
-- reading that are in the scope and have the preference rank `best_rank`.
pub record IsRanking (scope : ScopeView) (best_rank : ℕ) (reading : ReadingView)
    (places : List ℕ) : Type 0 where
  pub lives : reading.lives ≡ scope.lives
  pub read : IsReading reading.lives reading.seen
  pub few : length reading.seen.groups ≤ most_groups
  pub within : AreAmong reading.seen.groups places
  pub groups : filter (is_in_rank scope best_rank) (groups_at reading.seen.groups places)
      ≡ filter (is_in_rank scope best_rank) reading.seen.groups

-- Exactly the `few` largest groups of the scope with preference rank `best_rank` have a key of at
-- least `key`.
abbrev pub IsCutoff : ScopeView → ℕ → ReadingView → List ℕ → ℕ → ℕ → Type 0
IsCutoff scope best_rank reading places few key = (place : ℕ) → Contains places place →
    is_in_rank scope best_rank (group_at reading.seen.groups place) ≡ true →
    nat_le key (size_key reading.seen.groups place)
    ≡ nat_lt (length (filter
    (λ other. is_larger scope.lives other (group_at reading.seen.groups place))
    (filter (is_in_rank scope best_rank) reading.seen.groups))) few
