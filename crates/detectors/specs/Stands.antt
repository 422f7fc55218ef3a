-- Relates the state of a detector to the readings that the detector has processed. A detector
-- *represents* a list of readings if processing these readings leads to its state.
use Rattle.std.specs.Prelude.{◌≡◌, ℕ, ◌≤◌, List, [], ◌∷◌, length, Bool, false, if◌then◌else◌}
use Rattle.std.specs.Prelude.{Option, None, Some}
use Rattle.psi_spec.specs.declared.machine.GroupLife.{GroupLife}
use Rattle.path_match.specs.Match.{Pattern}
use Rattle.ruleset_json.specs.declared.types.DetectorSpec.{DetectorSpec}
use Rattle.ruleset_json.specs.declared.types.DetectorSpec.TheVariants as detector
use Rattle.kill_spec.specs.Readings.{Reading, group_in, sixty_seconds, ten_seconds}
use Rattle.kill_spec.specs.Detectors.{greatest_before, held_for, is_memory_above, is_pressed}
use Rattle.kill_spec.specs.Detectors.{is_scanned_within, is_true}
use Rattle.detectors.specs.Views.{DetectorView, IsBy, ReadingView, slots_of}
use Rattle.detectors.specs.Tables.{detector_patterns, is_long, is_recent, keeps_scans, scan_in, scan_of}
use Rattle.detectors.specs.Tables.{match_table, scan_slots}

-- ---- what a detector stores of its readings

-- The time (ns) of the newest reading, or `None` if the list of readings is empty.
abbrev pub newest_moment : List Reading → Option ℕ
newest_moment [] = None
newest_moment (reading ∷ past) = Some reading.at

-- After at least one reading, `matched` says for each slot whether `patterns` match the path of its
-- group. Before the first reading, nothing is required of `matched`.
abbrev pub IsMatchTable : List GroupLife → List Pattern → List Reading → List Bool → Type 0
IsMatchTable lives patterns [] matched = Unit {0}
IsMatchTable lives patterns (reading ∷ past) matched = matched ≡ match_table lives patterns

-- Whether the detector's condition on pressure or memory holds at `reading`. The detector is true
-- only after this condition has held for the detector's duration. The result is false for detectors
-- of memory reclaim, of free swap and of existence, which have no such condition.
abbrev pub condition_of : List GroupLife → DetectorSpec → Reading → Bool
condition_of lives (detector.PressureAbove cgroup resource threshold duration_s) reading =
    is_pressed lives cgroup resource ten_seconds threshold reading
condition_of lives (detector.PressureRisingBeyond cgroup resource threshold _ _) reading =
    is_pressed lives cgroup resource sixty_seconds threshold reading
condition_of lives (detector.MemoryAbove cgroup threshold duration_s) reading =
    is_memory_above lives cgroup threshold reading
condition_of lives _ reading = false

-- For a detector of rising pressure, the greatest `full` average over 10 s at the newest reading,
-- among the groups that its patterns match. 0 for any other detector.
abbrev pub greatest_kept : List GroupLife → DetectorSpec → List Reading → ℕ
greatest_kept lives (detector.PressureRisingBeyond cgroup resource _ _ _) history =
    greatest_before lives cgroup resource history
greatest_kept lives _ history = 0

-- The scan count of the group in slot `slot` at the newest reading, or `None` if the group wasn't
-- live at that reading. `None` also if the list of readings is empty.
abbrev pub last_scan : List Reading → ℕ → Option ℕ
last_scan [] slot = None
last_scan (reading ∷ past) slot = scan_of (group_in reading slot)

-- The scan count that the detector stores for slot `slot`: for a detector of memory reclaim the
-- count at the newest reading, for any other detector `None`.
abbrev pub scan_kept : DetectorSpec → List Reading → ℕ → Option ℕ
scan_kept spec history slot = if keeps_scans spec then last_scan history slot else None

-- For a detector of memory reclaim, whether a reading at most `duration` (ns) before time `at` (ns)
-- shows new page scans: the scan count of a group that the patterns match is greater than at the
-- previous reading. False for any other detector.
abbrev pub is_scanned_kept : List GroupLife → DetectorSpec → ℕ → ℕ → List Reading → Bool
is_scanned_kept lives spec duration at history =
    if keeps_scans spec
    then is_scanned_within lives (detector_patterns spec) duration at history
    else false

-- ---- the readings that a detector represents

-- The state of `detector` is the state of a detector with the arguments `spec` after the readings
-- `history` (newest first). The stored times determine, for every duration, whether the condition
-- has held that long, and whether pages were scanned within that time.
pub record Represents (detector : DetectorView) (lives : List GroupLife) (spec : DetectorSpec)
    (history : List Reading) : Type 0 where
  pub spec_is : detector.spec ≡ spec
  pub last : detector.last ≡ newest_moment history
  pub slots : slots_of detector ≡ length lives
  pub matched : IsMatchTable lives (detector_patterns spec) history detector.matched
  pub run : (duration at : ℕ) →
      held_for (condition_of lives spec) duration at history ≡ is_long detector.run duration at
  pub greatest : detector.greatest ≡ greatest_kept lives spec history
  pub scans : (slot : ℕ) → scan_in detector.scans slot ≡ scan_kept spec history slot
  pub increased : (duration at : ℕ) →
      is_scanned_kept lives spec duration at history ≡ is_recent detector.increased duration at

-- `answer` says whether the detector in state `old` is true at `reading`, for every list of earlier
-- readings that leads to `old`.
abbrev pub Answers : DetectorView → ReadingView → Bool → Type 0
Answers old reading answer = (spec : DetectorSpec) (history : List Reading) →
    Represents old reading.lives spec history →
    answer ≡ is_true reading.lives spec reading.seen history

-- Processing `reading` changes the state from `old` to `new`: if the readings `history` lead to
-- `old`, the readings `reading ∷ history` lead to `new`.
abbrev pub DetectorTakes : DetectorView → ReadingView → DetectorView → Type 0
DetectorTakes old reading new = (spec : DetectorSpec) (history : List Reading) →
    Represents old reading.lives spec history →
    Represents new reading.lives spec (reading.seen ∷ history)

-- ---- the invariant of a detector

-- The invariant of a detector. The current run began, and the last increase occurred, no later than
-- the last reading. The greatest average is at most 204800 = 100 * 2048, which means 100 percent. A
-- detector of memory reclaim has one scan count for each slot, and any other detector has none.
pub record IsDetector (detector : DetectorView) : Type 0 where
  pub run : IsBy detector.run detector.last
  pub increased : IsBy detector.increased detector.last
  pub greatest : detector.greatest ≤ 204800
  pub scans : length detector.scans ≡ scan_slots detector.spec (slots_of detector)
