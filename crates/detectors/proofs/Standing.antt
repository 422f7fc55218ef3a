-- Proves that a detector's state and its answer are correct after it takes a reading. A detector
-- represents a list of readings if taking these readings leads to its state.
use Rattle.std.proofs.Common.{◌≡◌, ℕ, ◌-◌, List, [], ◌∷◌, length, refl, sym, ap, ◌∙◌}
use Rattle.std.specs.Prelude.{Bool, true, false, ◌&&◌, ◌||◌, nat_le, if◌then◌else◌, Option, None}
use Rattle.std.specs.Prelude.{Some}
use Rattle.std.specs.List.{list_any}
use Rattle.std.proofs.lemmas.List.{length-map}
use Rattle.psi_spec.specs.declared.machine.GroupLife.{GroupLife}
use Rattle.path_match.specs.Match.{is_match}
use Rattle.ruleset_json.specs.declared.types.DetectorSpec.{DetectorSpec}
use Rattle.ruleset_json.specs.declared.types.DetectorSpec.TheVariants as detector
use Rattle.kill_spec.specs.Readings.{Reading, group_in}
use Rattle.kill_spec.specs.Detectors.{has_match, is_scanned, is_scanned_within, is_true, matches}
use Rattle.kill_spec.specs.Detectors.{of_seconds}
use Rattle.detectors.specs.Views.{DetectorView, IsAfter, IsBy, ReadingView}
use Rattle.detectors.specs.Tables.{IsTaken, answer_by, answer_of, condition_among, found, has}
use Rattle.detectors.specs.Tables.{detector_patterns, have_risen, is_recent, keeps_scans, matched_after}
use Rattle.detectors.specs.Tables.{run_after, scan_in, scan_of, match_table, begun}
use Rattle.detectors.specs.Stands.{IsMatchTable, Represents, condition_of, greatest_kept, newest_moment}
use Rattle.detectors.specs.Stands.{last_scan}
use Rattle.detectors.proofs.Runs.{long_next, recent_next}
use Rattle.detectors.proofs.Finding.{AreWithin, condition_met, found_matches, found_some}
use Rattle.detectors.proofs.Finding.{greatest_met, risen_met}

-- ---- matches

-- After the first reading, the table says which groups are matches.
table_known : (lives : List GroupLife) (spec : DetectorSpec) (history : List Reading) (matched : List Bool) →
    IsMatchTable lives (detector_patterns spec) history matched →
    matched_after (newest_moment history) matched (match_table lives (detector_patterns spec)) ≡ match_table lives (detector_patterns spec)
table_known lives spec [] matched is = refl
table_known lives spec (reading ∷ past) matched is = is

begun_table : (old : DetectorView) (lives : List GroupLife) (spec : DetectorSpec) (history : List Reading) →
    Represents old lives spec history → (begun old lives).matched ≡ match_table lives (detector_patterns spec)
begun_table old lives spec history stands =
    rw (stands.last, stands.spec_is) (table_known lives spec history old.matched stands.matched)

-- ---- scan counts

scans_next : (keeps : Bool) (was now last : Option ℕ) → was ≡ (if keeps then last else None) →
    (if keeps then now else was) ≡ (if keeps then now else None)
scans_next true was now last is = refl
scans_next false was now last is = is

-- If the detector stores scan counts, the stored counts are the counts at the last reading.
counts_kept : (keeps : Bool) (scans : List (Option ℕ)) (history : List Reading) → keeps ≡ true →
    ((slot : ℕ) → scan_in scans slot ≡ (if keeps then last_scan history slot else None)) →
    (slot : ℕ) → scan_in scans slot ≡ last_scan history slot
counts_kept true scans history is each slot = each slot
counts_kept false scans history is each slot = absurd cc

-- ---- increases

rises_next : (keeps risen scanned : Bool) (increased last : Option ℕ) (within : Bool) (now duration at : ℕ) →
    (keeps ≡ true → risen ≡ scanned) → IsBy increased last → IsAfter last now →
    (if keeps then within else false) ≡ is_recent increased duration at →
    (if keeps then (nat_le (at - now) duration && scanned) || within else false)
    ≡ is_recent (if keeps && risen then Some now else increased) duration at
rises_next true risen scanned increased last within now duration at same by later is =
    rw (is, ← same refl) (recent_next increased last risen now duration at by later)
rises_next false risen scanned increased last within now duration at same by later is = is

-- ---- one more reading

pub is_next_in : (old : DetectorView) (reading : ReadingView) (new : DetectorView) (spec : DetectorSpec) (history : List Reading) →
    IsBy old.run old.last → IsBy old.increased old.last → IsAfter old.last reading.seen.at →
    AreWithin (length reading.lives) reading.seen.groups → IsTaken (begun old reading.lives) reading new →
    Represents old reading.lives spec history → Represents new reading.lives spec (reading.seen ∷ history)
is_next_in old reading new spec history run_by increased_by later within taken stands =
    let lives = reading.lives in
    let seen = reading.seen in
    let table : new.matched ≡ match_table lives (detector_patterns spec) = taken.matched ∙ begun_table old lives spec history stands in
    let known : (begun old lives).matched ≡ match_table lives (detector_patterns spec) = begun_table old lives spec history stands in
    record {
      spec_is = taken.spec ∙ stands.spec_is;
      last = taken.last;
      slots = ap length table ∙ length-map lives (λ (life : GroupLife). is_match (detector_patterns spec) life.path);
      matched = table;
      run = λ duration at.
          let holds : condition_among old.spec seen.host (found (begun old lives).matched seen.groups) ≡ condition_of lives spec seen =
          rw (known, stands.spec_is) (condition_met lives spec seen within) in
          let run : new.run ≡ run_after old.run (condition_of lives spec seen) seen.at =
          taken.run ∙ ap (λ holds. run_after old.run holds seen.at) holds in
          rw (run, stands.run duration at) (long_next old.run old.last (condition_of lives spec seen) seen.at duration at run_by later);
      greatest = taken.greatest ∙ rw (known, stands.spec_is) (greatest_met lives spec seen history within);
      scans = λ slot.
          taken.scans slot
          ∙ rw stands.spec_is (scans_next (keeps_scans spec) (scan_in old.scans slot) (scan_of (group_in seen slot)) (last_scan history slot) (stands.scans slot));
      increased = λ duration at.
          let risen = have_risen old.scans (found (begun old lives).matched seen.groups) in
          let increased : new.increased ≡ (if keeps_scans spec && risen then Some seen.at else old.increased) = taken.increased ∙ rw stands.spec_is refl in
          let same : keeps_scans spec ≡ true → risen ≡ is_scanned lives (detector_patterns spec) seen history = λ keeps.
          rw (known, found_matches lives (detector_patterns spec) seen within)
          (risen_met old.scans history (matches lives (detector_patterns spec) seen) (counts_kept (keeps_scans spec) old.scans history keeps stands.scans)) in
          rw increased (rises_next (keeps_scans spec) risen (is_scanned lives (detector_patterns spec) seen history) old.increased old.last
          (is_scanned_within lives (detector_patterns spec) duration at history) seen.at duration at same increased_by later (stands.increased duration at));
    }

-- ---- answers

answered_by : (new : DetectorView) (lives : List GroupLife) (spec : DetectorSpec) (seen : Reading) (history : List Reading) (before : ℕ) →
    AreWithin (length lives) seen.groups → Represents new lives spec (seen ∷ history) → before ≡ greatest_kept lives spec history →
    answer_by spec new before seen ≡ is_true lives spec seen history
unfolding is_true
answered_by new lives (detector.PressureAbove cgroup resource threshold duration_s) seen history before within stands is =
    sym (stands.run (of_seconds duration_s) seen.at)
answered_by new lives (detector.PressureRisingBeyond cgroup resource threshold duration_s ratio) seen history before within stands is =
    rw (stands.greatest, is, ← stands.run (of_seconds duration_s) seen.at) refl
answered_by new lives (detector.MemoryAbove cgroup threshold duration_s) seen history before within stands is =
    sym (stands.run (of_seconds duration_s) seen.at)
answered_by new lives (detector.MemoryReclaim cgroup duration_s) seen history before within stands is =
    sym (stands.increased (of_seconds duration_s) seen.at)
answered_by new lives (detector.SwapFree threshold_pct) seen history before within stands is = refl
answered_by new lives (detector.Exists cgroup negate) seen history before within stands is =
    let some : list_any (has new.matched) seen.groups ≡ has_match lives cgroup seen = rw stands.matched (found_some lives cgroup seen within) in
    rw some refl

pub answered : (new : DetectorView) (lives : List GroupLife) (spec : DetectorSpec) (seen : Reading) (history : List Reading) (before : ℕ) →
    AreWithin (length lives) seen.groups → Represents new lives spec (seen ∷ history) → before ≡ greatest_kept lives spec history →
    answer_of new before seen ≡ is_true lives spec seen history
answered new lives spec seen history before within stands is =
    ap (λ s. answer_by s new before seen) stands.spec_is ∙ answered_by new lives spec seen history before within stands is
