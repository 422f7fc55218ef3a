use Rattle.std.proofs.Common.{◌≡◌, length}
use Rattle.detectors.specs.Views.{slots_of}
use Rattle.rule_tests.proofs.detections.assert_answers.Given as goal

-- the detector had the last reading, and is for its groups
abbrev pub invariant-rows : goal.invariant-rows
invariant-rows g l = record {
  last : l.detector.last ≡ l.rig.last;
  slots : length l.rig.reading.lives ≡ slots_of l.detector;
}
