use Rattle.std.proofs.Common.{◌≡◌, ◌∷◌, map, take}
use Rattle.std.specs.Prelude.{All}
use Rattle.serde_json.specs.Data.{string}
use Rattle.serde_json.specs.View.{view}
use Rattle.dropin_rules.specs.HasPatterns.{DetectorHasPatterns}
use Rattle.dropin_rules.specs.RulesText.{detector_data}
use Rattle.dropin_rules.proofs.text.group_value.Given as goal

abbrev pub invariant-detectors : goal.invariant-detectors
invariant-detectors l = record {
  values : map view l.items.items ≡ string l.fn.group.name ∷ map detector_data (take l.index l.detectors);
  formed : All DetectorHasPatterns (take l.index l.detectors);
}
