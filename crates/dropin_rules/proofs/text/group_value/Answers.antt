use Rattle.std.proofs.Common.{◌≡◌, [], ◌∷◌, ◌++◌, map, ap, ◌∙◌, rules}
use Rattle.serde_json.specs.Data.{array, string}
use Rattle.serde_json.specs.View.{items_of, view}
use Rattle.serde_json.specs.declared.value.Value.{Array, the_lemmas}
use Rattle.dropin_rules.specs.HasPatterns.{DetectorHasPatterns}
use Rattle.dropin_rules.specs.RulesText.{detector_data}
use Rattle.dropin_rules.proofs.Steps.{all_more, data_more, data_whole}
use Rattle.dropin_rules.proofs.text.group_value.Goals as goal

pub detectors-preserved : goal.detectors-preserved
detectors-preserved c =
    let pushed : c.push-in-detectors.new.self.items ≡ c.detectors.items.items ++ c.in_ok-one.one ∷ [] = search rules in
    rw pushed (record {
      values = data_more detector_data (string c.args.group.now.name ∷ []) c.detectors.items.items c.in_ok-one.one c.items-detectors.result.now c.detectors.index _ (search rules) c.index-detectors-index.is c.detectors.invariant.values c.in_ok-one.ensures.value;
      formed = all_more DetectorHasPatterns c.items-detectors.result.now c.detectors.index _ (search rules) c.index-detectors-index.is c.detectors.invariant.formed c.detector.ensures.formed;
    })

pub returns-clause-value : goal.returns-clause-value
returns-clause-value c =
    let viewed : view (Array c.detectors.items) ≡ array (items_of (map view c.detectors.items.items)) = search (rules, the_lemmas) in
    let whole = data_whole detector_data (string c.args.group.now.name ∷ []) c.detectors.items.items c.items-detectors.result.now c.detectors.index (search rules) c.detectors.invariant.values in
    let same : c.items-detectors.result.now ≡ c.args.group.now.detectors = search rules in
    viewed ∙ ap (λ ds. array (items_of ds)) whole ∙ ap (λ ds. array (items_of (string c.args.group.now.name ∷ map detector_data ds))) same
