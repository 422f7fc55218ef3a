use Rattle.std.proofs.Common.{◌≡◌, ℕ, ◌<◌, ◌≤◌, List, length, drop, get_or}
use Rattle.std.specs.Prelude.{◌&&◌, Some}
use Rattle.std.specs.List.{list_all}
use Rattle.ruleset_json.specs.declared.types.DetectorSpec.{DetectorSpec}
use Rattle.kill_spec.specs.Readings.{Reading}
use Rattle.kill_spec.specs.Detectors.{is_true}
use Rattle.detectors.specs.Views.{DetectorView}
use Rattle.detectors.specs.Stands.{DetectorTakes}
use Rattle.kill_engine.specs.Rulesets.{DetectorsRepresent, IsAt}
use Rattle.kill_engine.proofs.group.step_all.Given as goal

abbrev pub invariant-detectors : goal.invariant-detectors
invariant-detectors l = record {
  take : (k : ℕ) → k < l.detector-index → (d : DetectorView) → DetectorTakes (get_or l.fn.detectors k d) l.reading (get_or l.detectors k d);
  at : (k : ℕ) → k < l.detector-index → (d : DetectorView) → IsAt (Some l.reading.seen.at) (length l.reading.lives) (get_or l.detectors k d);
  left : (k : ℕ) (d : DetectorView) → l.detector-index ≤ k → get_or l.detectors k d ≡ get_or l.fn.detectors k d;
  answer : (specs : List DetectorSpec) (history : List Reading) → DetectorsRepresent l.reading.lives history l.fn.detectors specs →
      (l.hold && list_all (λ (spec : DetectorSpec). is_true l.reading.lives spec l.reading.seen history) (drop l.detector-index specs))
      ≡ list_all (λ (spec : DetectorSpec). is_true l.reading.lives spec l.reading.seen history) specs;
}
