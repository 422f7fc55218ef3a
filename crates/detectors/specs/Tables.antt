-- The values that a detector computes from a reading and from its stored tables. A table of matches
-- says for each slot whether the detector's patterns match its group. The *scan count* of a group
-- is the number of its pages that memory reclaim has scanned.
use Rattle.std.specs.Prelude.{◌≡◌, ℕ, ◌-◌, ◌*◌, max, List, [], map, filter, fold, slice_index_or}
use Rattle.std.specs.Prelude.{nat_le, nat_lt}
use Rattle.std.specs.Prelude.{◌&&◌, Bool, false, true, Option, None, Some, not, if◌then◌else◌}
use Rattle.std.specs.Prelude.{◌==◌, find}
use Rattle.std.specs.List.{list_any}
use Rattle.psi_base.specs.declared.event.Res.{Res}
use Rattle.psi_spec.specs.declared.machine.GroupLife.{GroupLife}
use Rattle.path_match.specs.Match.{Pattern, is_match}
use Rattle.ruleset_json.specs.declared.types.Size.{Size}
use Rattle.ruleset_json.specs.declared.types.DetectorSpec.{DetectorSpec}
use Rattle.ruleset_json.specs.declared.types.DetectorSpec.TheVariants as detector
use Rattle.kill_spec.specs.declared.reading.GroupReading.{GroupReading}
use Rattle.kill_spec.specs.declared.reading.HostReading.{HostReading}
use Rattle.kill_spec.specs.Readings.{Reading, full_average, sixty_seconds, ten_seconds}
use Rattle.kill_spec.specs.Detectors.{is_above, of_seconds}
use Rattle.detectors.specs.Views.{DetectorView, ReadingView}

-- ---- groups that a detector's patterns match

-- The patterns of a detector. A detector of free swap has no patterns.
abbrev pub detector_patterns : DetectorSpec → List Pattern
detector_patterns (detector.PressureAbove cgroup resource threshold duration_s) = cgroup
detector_patterns (detector.PressureRisingBeyond cgroup resource threshold duration_s ratio) = cgroup
detector_patterns (detector.MemoryAbove cgroup threshold duration_s) = cgroup
detector_patterns (detector.MemoryReclaim cgroup duration_s) = cgroup
detector_patterns (detector.SwapFree threshold_pct) = []
detector_patterns (detector.Exists cgroup negate) = cgroup

-- For each slot, whether at least one pattern matches the path of its group.
abbrev pub match_table : List GroupLife → List Pattern → List Bool
match_table lives patterns = map (λ (life : GroupLife). is_match patterns life.path) lives

-- Whether the detector's patterns match the group, according to the table `matched`.
abbrev pub has : List Bool → GroupReading → Bool
has matched group = slice_index_or matched group.slot.0 false

-- The groups that the detector's patterns match, according to the table `matched`.
abbrev pub found : List Bool → List GroupReading → List GroupReading
found matched groups = filter (has matched) groups

-- ---- conditions on the matched groups

-- The greatest `full` pressure average of a resource over a window among the groups, or 0 if there
-- are no groups.
abbrev pub greatest_among : Res → ℕ → List GroupReading → ℕ
greatest_among resource window groups = fold max 0 (map (full_average resource window) groups)

-- Whether the greatest `full` pressure average among the groups is above `threshold` (percent).
abbrev pub are_pressed : Res → ℕ → ℕ → List GroupReading → Bool
are_pressed resource window threshold groups =
    nat_lt (threshold * 2048) (greatest_among resource window groups)

-- Whether at least one group uses more memory than `threshold`.
abbrev pub is_some_above : Size → HostReading → List GroupReading → Bool
is_some_above threshold host groups =
    list_any (λ (group : GroupReading). is_above threshold host group.current) groups

-- Whether the detector's condition on pressure or memory holds. `groups` are the groups that the
-- detector's patterns match. The result is false for detectors of memory reclaim, of free swap and
-- of existence.
abbrev pub condition_among : DetectorSpec → HostReading → List GroupReading → Bool
condition_among (detector.PressureAbove cgroup resource threshold duration_s) host groups =
    are_pressed resource ten_seconds threshold groups
condition_among (detector.PressureRisingBeyond cgroup resource threshold _ _) host groups =
    are_pressed resource sixty_seconds threshold groups
condition_among (detector.MemoryAbove cgroup threshold duration_s) host groups =
    is_some_above threshold host groups
condition_among _ host groups = false

-- For a detector of rising pressure, the greatest `full` average over 10 s among `groups`, the
-- groups that its patterns match. 0 for any other detector.
abbrev pub greatest_of : DetectorSpec → List GroupReading → ℕ
greatest_of (detector.PressureRisingBeyond cgroup resource threshold duration_s ratio) groups =
    greatest_among resource ten_seconds groups
greatest_of _ groups = 0

-- Whether less than `percent` percent of the host's swap is free.
abbrev pub is_host_swap_short : ℕ → HostReading → Bool
is_host_swap_short percent host = nat_lt (host.swap_free * 100) (percent * host.swap_total)

-- ---- scan counts

-- Whether the detector stores scan counts. Only a detector of memory reclaim does.
abbrev pub keeps_scans : DetectorSpec → Bool
keeps_scans (detector.MemoryReclaim cgroup duration_s) = true
keeps_scans _ = false

-- The number of slots whose scan counts a detector stores: all `slots` for a detector of memory
-- reclaim, 0 for any other detector.
abbrev pub scan_slots : DetectorSpec → ℕ → ℕ
scan_slots spec slots = if keeps_scans spec then slots else 0

-- The stored scan count of the group in slot `slot`, or `None` if no count is stored.
abbrev pub scan_in : List (Option ℕ) → ℕ → Option ℕ
scan_in scans slot = slice_index_or scans slot None

-- The scan count of an optional group, or `None` if there is no group.
abbrev pub scan_of : Option GroupReading → Option ℕ
scan_of None = None
scan_of (Some group) = Some group.scan

-- The increase of the count `scan` over the earlier count, or 0 if there is no earlier count.
abbrev pub risen_from : Option ℕ → ℕ → ℕ
risen_from None scan = 0
risen_from (Some before) scan = scan - before

-- Whether the group's scan count is greater than its stored count.
abbrev pub has_risen : List (Option ℕ) → GroupReading → Bool
has_risen scans group = nat_lt 0 (risen_from (scan_in scans group.slot.0) group.scan)

-- Whether the scan count of at least one group is greater than its stored count.
abbrev pub have_risen : List (Option ℕ) → List GroupReading → Bool
have_risen scans groups = list_any (has_risen scans) groups

-- The scan count of the group in slot `slot`, or `None` if no group in the list has that slot.
abbrev pub scan_among : List GroupReading → ℕ → Option ℕ
scan_among groups slot = scan_of (find (λ (group : GroupReading). group.slot.0 == slot) groups)

-- The stored scan count of slot `slot` after a reading with these groups. A detector that stores no
-- scan counts leaves `scans` unchanged.
abbrev pub scan_after : DetectorSpec → List (Option ℕ) → List GroupReading → ℕ → Option ℕ
scan_after spec scans groups slot =
    if keeps_scans spec then scan_among groups slot else scan_in scans slot

-- The time (ns) of the last increase of the scan count of a group in `groups`, after a reading at
-- time `now` (ns). `increased` is the time of the last increase before the reading. `groups` are
-- the groups that the detector's patterns match.
abbrev pub last_rise :
    DetectorSpec → List (Option ℕ) → Option ℕ → List GroupReading → ℕ → Option ℕ
last_rise spec scans increased groups now =
    if keeps_scans spec && have_risen scans groups then Some now else increased

-- ---- tests of times

-- Whether a condition that has held since time `start` (ns) has held for at least `duration` (ns)
-- at time `at` (ns). False for `None`, if the condition doesn't hold.
abbrev pub is_long : Option ℕ → ℕ → ℕ → Bool
is_long None duration at = false
is_long (Some start) duration at = nat_le duration (at - start)

-- Whether `moment` (ns) is at most `duration` (ns) before time `at` (ns). False if `moment` is
-- `None`.
abbrev pub is_recent : Option ℕ → ℕ → ℕ → Bool
is_recent None duration at = false
is_recent (Some moment) duration at = nat_le (at - moment) duration

-- `run_after run holds now`: the time (ns) since which a condition has held without interruption,
-- or `None` if it doesn't hold. `holds` is the result of testing the condition at time `now` (ns),
-- and `run` is the time after the previous test.
abbrev pub run_after : Option ℕ → Bool → ℕ → Option ℕ
run_after run false now = None
run_after None true now = Some now
run_after (Some start) true now = Some start

-- ---- processing a reading

-- Whether a detector with these arguments is true at the reading `now`. `kept` is the detector's
-- state after this reading. `before` is the greatest average at the previous reading, among the
-- groups that the detector's patterns match.
abbrev pub answer_by : DetectorSpec → DetectorView → ℕ → Reading → Bool
answer_by (detector.PressureAbove cgroup resource threshold duration_s) kept before now =
    is_long kept.run (of_seconds duration_s) now.at
answer_by (detector.PressureRisingBeyond _ _ threshold duration_s ratio) kept before now =
    is_long kept.run (of_seconds duration_s) now.at
    && nat_lt (threshold * 2048) kept.greatest
    && nat_le (ratio * before) (kept.greatest * 1000)
answer_by (detector.MemoryAbove cgroup threshold duration_s) kept before now =
    is_long kept.run (of_seconds duration_s) now.at
answer_by (detector.MemoryReclaim cgroup duration_s) kept before now =
    is_recent kept.increased (of_seconds duration_s) now.at
answer_by (detector.SwapFree threshold_pct) kept before now = is_host_swap_short threshold_pct now.host
answer_by (detector.Exists cgroup negate) kept before now =
    if negate
    then not (list_any (has kept.matched) now.groups)
    else list_any (has kept.matched) now.groups

-- Whether the detector is true at the reading `now`. `kept` is its state after this reading.
-- `before` is the greatest average at the previous reading, among the groups that its patterns
-- match.
abbrev pub answer_of : DetectorView → ℕ → Reading → Bool
answer_of kept before now = answer_by kept.spec kept before now

-- `matched_after last known table`: the table of matches after a reading. `last` is the time (ns)
-- of the previous reading, or `None` at the first reading. The first reading sets the table to
-- `table`, and later readings leave the stored table `known` unchanged.
abbrev pub matched_after : Option ℕ → List Bool → List Bool → List Bool
matched_after None known table = table
matched_after (Some last) known table = known

-- The detector after its table of matches was computed. The first reading computes the table, and
-- later readings don't change it.
abbrev pub begun : DetectorView → List GroupLife → DetectorView
begun detector lives =
    let table = match_table lives (detector_patterns detector.spec) in
    record detector { matched = matched_after detector.last detector.matched table }

-- Processing `reading` changes the detector's state from `old` to `new`. Requires that the table of
-- matched groups has been computed.
pub record IsTaken (old : DetectorView) (reading : ReadingView) (new : DetectorView) : Type 0 where
  pub spec : new.spec ≡ old.spec
  pub last : new.last ≡ Some reading.seen.at
  pub matched : new.matched ≡ old.matched
  pub run : new.run ≡ run_after old.run
      (condition_among old.spec reading.seen.host (found old.matched reading.seen.groups))
      reading.seen.at
  pub greatest : new.greatest ≡ greatest_of old.spec (found old.matched reading.seen.groups)
  pub scans : (slot : ℕ) →
      scan_in new.scans slot ≡ scan_after old.spec old.scans reading.seen.groups slot
  pub increased : new.increased ≡ last_rise old.spec old.scans old.increased
      (found old.matched reading.seen.groups) reading.seen.at
