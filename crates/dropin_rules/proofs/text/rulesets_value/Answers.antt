use Rattle.std.proofs.Common.{◌≡◌, [], ◌∷◌, ◌++◌, map, ap, ◌∙◌, rules}
use Rattle.serde_json.specs.Data.{array}
use Rattle.serde_json.specs.View.{items_of, view}
use Rattle.serde_json.specs.declared.value.Value.{Array, the_lemmas}
use Rattle.dropin_rules.specs.HasPatterns.{RuleHasPatterns}
use Rattle.dropin_rules.specs.RulesText.{rule_data}
use Rattle.dropin_rules.proofs.Steps.{all_more, all_whole, data_more, data_whole}
use Rattle.dropin_rules.proofs.text.rulesets_value.Goals as goal

pub rules-preserved : goal.rules-preserved
rules-preserved c =
    let pushed : c.push.new.self.items ≡ c.rules.items.items ++ c.in_ok-one.one ∷ [] = search rules in
    rw pushed (record {
      values = data_more rule_data [] c.rules.items.items c.in_ok-one.one c.args.rules.now c.rules.index _ (search rules) c.index-rules-index.is c.rules.invariant.values c.in_ok-one.ensures.value;
      formed = all_more RuleHasPatterns c.args.rules.now c.rules.index _ (search rules) c.index-rules-index.is c.rules.invariant.formed c.in_ok-one.ensures.formed;
    })

pub returns-clause-value : goal.returns-clause-value
returns-clause-value c =
    let viewed : view (Array c.rules.items) ≡ array (items_of (map view c.rules.items.items)) = search (rules, the_lemmas) in
    viewed ∙ ap (λ ds. array (items_of ds)) (data_whole rule_data [] c.rules.items.items c.args.rules.now c.rules.index (search rules) c.rules.invariant.values)

pub returns-clause-formed : goal.returns-clause-formed
returns-clause-formed c = all_whole RuleHasPatterns c.args.rules.now c.rules.index (search rules) c.rules.invariant.formed
