-- Defines when a detector is true and when a ruleset fires. A detector depends on the current
-- reading (the state of the machine at an evaluation) and on the readings at all earlier
-- evaluations. In lists of readings, the newest reading comes first.
use Rattle.std.specs.Prelude.{ℕ, ◌-◌, ◌*◌, max, List, [], ◌∷◌, map, filter, fold}
use Rattle.std.specs.Prelude.{nat_le, nat_lt, ◌&&◌, ◌||◌, not, Bool, false, if◌then◌else◌}
use Rattle.std.specs.List.{list_all, list_any}
use Rattle.psi_base.specs.declared.event.Res.{Res}
use Rattle.psi_spec.specs.declared.machine.GroupLife.{GroupLife}
use Rattle.path_match.specs.Match.{Pattern, is_match}
use Rattle.ruleset_json.specs.declared.types.Size.{Size}
use Rattle.ruleset_json.specs.declared.types.Size.TheVariants as size
use Rattle.ruleset_json.specs.declared.types.DetectorSpec.{DetectorSpec}
use Rattle.ruleset_json.specs.declared.types.DetectorSpec.TheVariants as detector
use Rattle.ruleset_json.specs.declared.types.DetectorGroup.{DetectorGroup}
use Rattle.ruleset_json.specs.declared.types.Rule.{Rule}
use Rattle.kill_spec.specs.declared.reading.GroupReading.{GroupReading}
use Rattle.kill_spec.specs.declared.reading.HostReading.{HostReading}
use Rattle.kill_spec.specs.Readings.{Reading, full_average, path_of, rise, sixty_seconds, ten_seconds}

-- ---- groups that match patterns

-- The live groups whose paths match at least one of the patterns, sorted by path.
abbrev pub matches : List GroupLife → List Pattern → Reading → List GroupReading
matches lives patterns reading =
    filter (λ (group : GroupReading). is_match patterns (path_of lives group)) reading.groups

-- ---- durations of conditions

-- Converts seconds to nanoseconds.
abbrev pub of_seconds : ℕ → ℕ
of_seconds n = n * 1000000000

-- Whether `condition` has been true for `duration` (ns) at time `at` (ns): it is true at every
-- reading from the newest back to a reading that is at least `duration` earlier than `at`.
abbrev pub held_for : (Reading → Bool) → ℕ → ℕ → List Reading → Bool
held_for condition duration at [] = false
held_for condition duration at (reading ∷ past) =
    condition reading && (nat_le duration (at - reading.at) || held_for condition duration at past)

-- Whether `condition` has been true for `duration_s` seconds at the reading `now`, given the
-- earlier readings `past`.
abbrev pub holds_for : (Reading → Bool) → ℕ → Reading → List Reading → Bool
holds_for condition duration_s now past = held_for condition (of_seconds duration_s) now.at (now ∷ past)

-- ---- conditions on one reading

-- The highest `full` average (fixed point) of a resource among the groups that match the patterns,
-- or 0 if no group matches. `window` is the index of the averaging window (10, 60 or 300 s).
abbrev pub greatest_full : List GroupLife → List Pattern → Res → ℕ → Reading → ℕ
greatest_full lives patterns resource window reading =
    fold max 0 (map (full_average resource window) (matches lives patterns reading))

-- Whether the highest `full` average among the matching groups is above `threshold` (percent).
abbrev pub is_pressed : List GroupLife → List Pattern → Res → ℕ → ℕ → Reading → Bool
is_pressed lives patterns resource window threshold reading =
    nat_lt (threshold * 2048) (greatest_full lives patterns resource window reading)

-- Whether `current` bytes are more than a size. The size is a number of bytes, or a percentage of
-- the host's memory.
abbrev pub is_above : Size → HostReading → ℕ → Bool
is_above (size.Bytes n) host current = nat_lt n current
is_above (size.Percent n) host current = nat_lt (n * host.mem_total) (current * 100)

-- Whether some matching group uses more memory than `threshold`.
abbrev pub is_memory_above : List GroupLife → List Pattern → Size → Reading → Bool
is_memory_above lives patterns threshold reading =
    list_any (λ (group : GroupReading). is_above threshold reading.host group.current) (matches lives patterns reading)

-- Whether free swap is below `percent` percent of the host's swap.
abbrev pub is_swap_short : ℕ → Reading → Bool
is_swap_short percent reading = nat_lt (reading.host.swap_free * 100) (percent * reading.host.swap_total)

-- ---- conditions on successive readings

-- The highest `full` average over 10 s at the previous reading, or 0 if there is no previous
-- reading.
abbrev pub greatest_before : List GroupLife → List Pattern → Res → List Reading → ℕ
greatest_before lives patterns resource [] = 0
greatest_before lives patterns resource (before ∷ past) = greatest_full lives patterns resource ten_seconds before

-- Whether the highest `full` average over 10 s is at least `ratio` thousandths of its value at the
-- previous reading.
abbrev pub keeps_up : List GroupLife → List Pattern → Res → ℕ → Reading → List Reading → Bool
keeps_up lives patterns resource ratio now past =
    nat_le (ratio * greatest_before lives patterns resource past) (greatest_full lives patterns resource ten_seconds now * 1000)

-- Whether pages of some matching group were scanned between the previous reading and the reading
-- `now`.
abbrev pub is_scanned : List GroupLife → List Pattern → Reading → List Reading → Bool
is_scanned lives patterns now past =
    list_any (λ (group : GroupReading). nat_lt 0 (rise past group)) (matches lives patterns now)

-- Whether pages of some matching group were scanned between two successive readings. The later of
-- these readings is at most `duration` (ns) before time `at` (ns).
abbrev pub is_scanned_within : List GroupLife → List Pattern → ℕ → ℕ → List Reading → Bool
is_scanned_within lives patterns duration at [] = false
is_scanned_within lives patterns duration at (reading ∷ past) =
    (nat_le (at - reading.at) duration && is_scanned lives patterns reading past)
    || is_scanned_within lives patterns duration at past

-- Whether the path of some live group matches at least one of the patterns.
abbrev pub has_match : List GroupLife → List Pattern → Reading → Bool
has_match lives patterns reading =
    list_any (λ (group : GroupReading). is_match patterns (path_of lives group)) reading.groups

-- ---- the conditions of detectors and rulesets

-- Whether a detector is true at the reading `now`, given the earlier readings `past`.
unfoldable pub is_true : List GroupLife → DetectorSpec → Reading → List Reading → Bool
is_true lives (detector.PressureAbove cgroup resource threshold duration_s) now past =
    holds_for (is_pressed lives cgroup resource ten_seconds threshold) duration_s now past
is_true lives (detector.PressureRisingBeyond cgroup resource threshold duration_s ratio) now past =
    holds_for (is_pressed lives cgroup resource sixty_seconds threshold) duration_s now past
    && is_pressed lives cgroup resource ten_seconds threshold now
    && keeps_up lives cgroup resource ratio now past
is_true lives (detector.MemoryAbove cgroup threshold duration_s) now past =
    holds_for (is_memory_above lives cgroup threshold) duration_s now past
is_true lives (detector.MemoryReclaim cgroup duration_s) now past =
    is_scanned_within lives cgroup (of_seconds duration_s) now.at (now ∷ past)
is_true lives (detector.SwapFree threshold_pct) now past = is_swap_short threshold_pct now
is_true lives (detector.Exists cgroup negate) now past =
    if negate then not (has_match lives cgroup now) else has_match lives cgroup now

-- Whether all detectors of a detector group are true. A group without detectors is always true.
abbrev pub group_holds : List GroupLife → DetectorGroup → Reading → List Reading → Bool
group_holds lives group now past =
    list_all (λ (spec : DetectorSpec). is_true lives spec now past) group.detectors

-- Whether a ruleset fires: at least one of its detector groups is true.
abbrev pub ruleset_fires : List GroupLife → Rule → Reading → List Reading → Bool
ruleset_fires lives rule now past =
    list_any (λ (group : DetectorGroup). group_holds lives group now past) rule.groups
