-- The mathematical values of a reading and of a detector, which the contracts of this crate use.
use Rattle.std.specs.Prelude.{ℕ, ◌<◌, ◌≤◌, List, [], ◌∷◌, ◌++◌, length, map, Bool, Option, None}
use Rattle.std.specs.Prelude.{Some}
use Rattle.psi_spec.specs.declared.machine.GroupLife.{GroupLife}
use Rattle.psi_spec.specs.World.{most_groups}
use Rattle.ruleset_json.specs.declared.types.DetectorSpec.{DetectorSpec}
use Rattle.kill_spec.specs.declared.reading.GroupReading.{GroupReading}
use Rattle.kill_spec.specs.declared.reading.HostReading.{HostReading}
use Rattle.kill_spec.specs.Readings.{Reading, path_of}
use Rattle.kill_spec.specs.LegalReadings.{Ascend, IsReading}

-- ---- readings

-- A reading. `lives` has all groups that the trace ever creates. The index of a group in this list
-- is its *slot*. `seen` has the time, the host's memory and the live groups.
pub record ReadingView : Type 0 where
  pub lives : List GroupLife
  pub seen : Reading

-- The reading at time `at` (ns) with this host memory and these live groups.
abbrev pub seen_at : ℕ → HostReading → List GroupReading → Reading
seen_at at host groups = record { at = at; host = host; groups = groups }

-- The reading `seen` together with `lives`, all groups of the trace.
abbrev pub reading_of : List GroupLife → Reading → ReadingView
reading_of lives seen = record { lives = lives; seen = seen }

-- The reading `seen` after `group` was appended to its live groups.
abbrev pub with_group : Reading → GroupReading → Reading
with_group seen group = seen_at seen.at seen.host (seen.groups ++ group ∷ [])

-- The path of `group` is greater, in byte order, than the paths of all groups of the reading.
abbrev pub ComesLast : ReadingView → GroupReading → Type 0
ComesLast reading group =
    Ascend (map (path_of reading.lives) (with_group reading.seen group).groups)

-- The invariant of a reading: the trace has at most 1,024 groups, and the values of the reading are
-- valid for these groups.
pub record IsReadingView (reading : ReadingView) : Type 0 where
  pub few : length reading.lives ≤ most_groups
  pub within : IsReading reading.lives reading.seen

-- `count <= capacity`: there is capacity for `count` elements.
pub record IsRoom (count capacity : ℕ) : Type 0 where
  pub room : count ≤ capacity

-- ---- detectors

-- The state of a detector. `spec` has its arguments, and `last` is the time (ns) of its last
-- reading. `matched` says for each slot whether the detector's patterns match its group. `run` is
-- the time (ns) since which the condition has held, or `None` if the condition doesn't hold.
-- `greatest` is used by a detector of rising pressure: the greatest `full` average over 10 s among
-- the matched groups at the last reading. `scans` and `increased` are used by a detector of memory
-- reclaim: the scan count of each slot's group at the last reading, and the time (ns) of the last
-- increase of a matched group's scan count.
pub record DetectorView : Type 0 where
  pub spec : DetectorSpec
  pub last : Option ℕ
  pub matched : List Bool
  pub run : Option ℕ
  pub greatest : ℕ
  pub scans : List (Option ℕ)
  pub increased : Option ℕ

-- Builds the state of a detector. The arguments are the fields of `DetectorView`, in order.
abbrev pub detector_with : DetectorSpec → Option ℕ → List Bool → Option ℕ → ℕ → List (Option ℕ) →
    Option ℕ → DetectorView
detector_with spec last matched run greatest scans increased = record {
  spec = spec;
  last = last;
  matched = matched;
  run = run;
  greatest = greatest;
  scans = scans;
  increased = increased;
}

-- The number of slots in the detector's table of matches.
abbrev pub slots_of : DetectorView → ℕ
slots_of detector = length detector.matched

-- `last < at` (both ns), or `last` is `None`.
abbrev pub IsAfter : Option ℕ → ℕ → Type 0
IsAfter None at = Unit {0}
IsAfter (Some last) at = last < at

-- `moment <= last` (both ns), or `moment` is `None`.
abbrev pub IsBy : Option ℕ → Option ℕ → Type 0
IsBy None last = Unit {0}
IsBy (Some moment) None = ⊥
IsBy (Some moment) (Some last) = moment ≤ last
