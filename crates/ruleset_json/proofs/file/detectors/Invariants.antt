use Rattle.std.proofs.Common.{◌≡◌, All, length, map, drop}
use Rattle.serde_json.specs.View.{view}
use Rattle.ruleset_json.specs.declared.fault.Place.TheVariants as place
use Rattle.ruleset_json.specs.Ranges.{FitsDetector}
use Rattle.ruleset_json.specs.Rules.{each, detector_in}
use Rattle.ruleset_json.proofs.Each.{followed}
use Rattle.ruleset_json.proofs.file.detectors.Given as goal

abbrev pub invariant-items : goal.invariant-items
invariant-items l = record {
  read : followed l.found.items (each (λ k. detector_in (place.Detector l.fn.rule l.fn.group k)) l.index (drop l.index (map view l.fn.items))) ≡ each (λ k. detector_in (place.Detector l.fn.rule l.fn.group k)) 0 (map view l.fn.items);
  count : length l.found.items ≡ l.index;
  fits : All FitsDetector l.found.items;
}
