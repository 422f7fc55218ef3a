use Rattle.std.proofs.Common.{◌≡◌, [], ◌∷◌, ◌++◌, map, ap, ◌∙◌, rules}
use Rattle.serde_json.specs.Data.{array}
use Rattle.serde_json.specs.View.{items_of, view}
use Rattle.serde_json.specs.declared.value.Value.{Array, the_lemmas}
use Rattle.dropin_rules.specs.HasPatterns.{ActionHasPatterns}
use Rattle.dropin_rules.specs.RulesText.{action_data}
use Rattle.dropin_rules.proofs.Steps.{all_more, data_more, data_whole}
use Rattle.dropin_rules.proofs.text.actions_value.Goals as goal

pub actions-preserved : goal.actions-preserved
actions-preserved c =
    let pushed : c.push.new.self.items ≡ c.actions.items.items ++ c.in_ok-one.one ∷ [] = search rules in
    rw pushed (record {
      values = data_more action_data [] c.actions.items.items c.in_ok-one.one c.args.actions.now c.actions.index _ (search rules) c.index-actions-index.is c.actions.invariant.values c.in_ok-one.ensures.value;
      formed = all_more ActionHasPatterns c.args.actions.now c.actions.index _ (search rules) c.index-actions-index.is c.actions.invariant.formed c.in_ok-one.ensures.formed;
    })

pub returns-clause-value : goal.returns-clause-value
returns-clause-value c =
    let viewed : view (Array c.actions.items) ≡ array (items_of (map view c.actions.items.items)) = search (rules, the_lemmas) in
    viewed ∙ ap (λ ds. array (items_of ds)) (data_whole action_data [] c.actions.items.items c.args.actions.now c.actions.index (search rules) c.actions.invariant.values)
