-- Proves that the groups that a table of matches finds in a reading are the matches.
use Rattle.std.proofs.Common.{◌≡◌, ℕ, suc, ◌<◌, List, [], ◌∷◌, length, refl, sym, ap, ◌∙◌, arith}
use Rattle.std.specs.Prelude.{All, Bool, false, filter, nat_lt, slice_index_or, Option, None, Some}
use Rattle.std.specs.List.{list_any}
use Rattle.std.proofs.lemmas.List.{get_or-map}
use Rattle.psi_spec.specs.declared.machine.GroupLife.{GroupLife}
use Rattle.psi_spec.specs.World.{root}
use Rattle.path_match.specs.Match.{Pattern, is_match}
use Rattle.ruleset_json.specs.declared.types.DetectorSpec.{DetectorSpec}
use Rattle.ruleset_json.specs.declared.types.DetectorSpec.TheVariants as detector
use Rattle.kill_spec.specs.declared.reading.GroupReading.{GroupReading}
use Rattle.kill_spec.specs.Readings.{Reading, group_in, grown_from, path_of, rise}
use Rattle.kill_spec.specs.Detectors.{has_match, matches}
use Rattle.detectors.specs.Tables.{condition_among, found, greatest_of, has, have_risen}
use Rattle.detectors.specs.Tables.{detector_patterns, match_table, risen_from, scan_in, scan_of}
use Rattle.detectors.specs.Stands.{condition_of, greatest_kept, last_scan}

-- ---- tables

-- A group is a match according to its table if and only if at least one pattern matches its path.
pub has_match_of : (lives : List GroupLife) (patterns : List Pattern) (group : GroupReading) →
    group.slot.0 < length lives →
    has (match_table lives patterns) group ≡ is_match patterns (path_of lives group)
has_match_of lives patterns group inside =
    get_or-map (λ (life : GroupLife). is_match patterns life.path) lives group.slot.0 root false inside
    ∙ sym (ap (is_match patterns) (get_or-map (λ (life : GroupLife). life.path) lives group.slot.0 root [] inside))

-- The slot of every group is below `slots`.
abbrev pub AreWithin : ℕ → List GroupReading → Type 0
AreWithin slots groups = All (λ (group : GroupReading). group.slot.0 < slots) groups

same_filter : (p q : GroupReading → Bool) (groups : List GroupReading) →
    All (λ group. p group ≡ q group) groups →
    filter p groups ≡ filter q groups
same_filter p q [] each = refl
same_filter p q (group ∷ groups) each =
    let rest = same_filter p q groups (λ k d below. each (suc k) d (omega (arith, below))) in
    rw (each 0 group (omega arith), rest) refl

same_any : (p q : GroupReading → Bool) (groups : List GroupReading) →
    All (λ group. p group ≡ q group) groups →
    list_any p groups ≡ list_any q groups
same_any p q [] each = refl
same_any p q (group ∷ groups) each =
    let rest = same_any p q groups (λ k d below. each (suc k) d (omega (arith, below))) in
    rw (each 0 group (omega arith), rest) refl

each_has : (lives : List GroupLife) (patterns : List Pattern) (groups : List GroupReading) →
    AreWithin (length lives) groups →
    All (λ group. has (match_table lives patterns) group ≡ is_match patterns (path_of lives group)) groups
each_has lives patterns groups within k d below = has_match_of lives patterns (slice_index_or groups k d) (within k d below)

pub found_matches : (lives : List GroupLife) (patterns : List Pattern) (reading : Reading) →
    AreWithin (length lives) reading.groups →
    found (match_table lives patterns) reading.groups ≡ matches lives patterns reading
found_matches lives patterns reading within =
    same_filter (has (match_table lives patterns)) (λ group. is_match patterns (path_of lives group)) reading.groups
    (each_has lives patterns reading.groups within)

pub found_some : (lives : List GroupLife) (patterns : List Pattern) (reading : Reading) →
    AreWithin (length lives) reading.groups →
    list_any (has (match_table lives patterns)) reading.groups ≡ has_match lives patterns reading
found_some lives patterns reading within =
    same_any (has (match_table lives patterns)) (λ group. is_match patterns (path_of lives group)) reading.groups
    (each_has lives patterns reading.groups within)

-- ---- conditions

pub condition_met : (lives : List GroupLife) (spec : DetectorSpec) (reading : Reading) →
    AreWithin (length lives) reading.groups →
    condition_among spec reading.host (found (match_table lives (detector_patterns spec)) reading.groups) ≡ condition_of lives spec reading
condition_met lives (detector.PressureAbove cgroup resource threshold duration_s) reading within =
    rw (found_matches lives cgroup reading within) refl
condition_met lives (detector.PressureRisingBeyond cgroup resource threshold duration_s ratio) reading within =
    rw (found_matches lives cgroup reading within) refl
condition_met lives (detector.MemoryAbove cgroup threshold duration_s) reading within =
    rw (found_matches lives cgroup reading within) refl
condition_met lives (detector.MemoryReclaim cgroup duration_s) reading within = refl
condition_met lives (detector.SwapFree threshold_pct) reading within = refl
condition_met lives (detector.Exists cgroup negate) reading within = refl

pub greatest_met : (lives : List GroupLife) (spec : DetectorSpec) (reading : Reading) (past : List Reading) →
    AreWithin (length lives) reading.groups →
    greatest_of spec (found (match_table lives (detector_patterns spec)) reading.groups) ≡ greatest_kept lives spec (reading ∷ past)
greatest_met lives (detector.PressureAbove cgroup resource threshold duration_s) reading past within = refl
greatest_met lives (detector.PressureRisingBeyond cgroup resource threshold duration_s ratio) reading past within =
    rw (found_matches lives cgroup reading within) refl
greatest_met lives (detector.MemoryAbove cgroup threshold duration_s) reading past within = refl
greatest_met lives (detector.MemoryReclaim cgroup duration_s) reading past within = refl
greatest_met lives (detector.SwapFree threshold_pct) reading past within = refl
greatest_met lives (detector.Exists cgroup negate) reading past within = refl

-- ---- increases of scan counts

risen_same : (scan : ℕ) (before : Option GroupReading) →
    risen_from (scan_of before) scan ≡ grown_from scan before
risen_same scan None = refl
risen_same scan (Some before) = refl

rise_same : (past : List Reading) (group : GroupReading) →
    risen_from (last_scan past group.slot.0) group.scan ≡ rise past group
rise_same [] group = refl
rise_same (before ∷ past) group = risen_same group.scan (group_in before group.slot.0)

-- Comparing with the stored scan counts gives the same result as the specified increase of a scan
-- count.
pub risen_met : (scans : List (Option ℕ)) (past : List Reading) (groups : List GroupReading) →
    ((slot : ℕ) → scan_in scans slot ≡ last_scan past slot) →
    have_risen scans groups ≡ list_any (λ (group : GroupReading). nat_lt 0 (rise past group)) groups
risen_met scans past groups kept =
    same_any (λ (group : GroupReading). nat_lt 0 (risen_from (scan_in scans group.slot.0) group.scan))
    (λ (group : GroupReading). nat_lt 0 (rise past group)) groups
    (λ k d below. each (slice_index_or groups k d))
  where
    each : (group : GroupReading) → nat_lt 0 (risen_from (scan_in scans group.slot.0) group.scan) ≡ nat_lt 0 (rise past group)
    each group = rw (kept group.slot.0) (ap (nat_lt 0) (rise_same past group))
