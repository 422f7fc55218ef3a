use Rattle.std.proofs.Common.{◌≡◌, [], ◌∷◌, ◌++◌, map, ap, ◌∙◌, rules}
use Rattle.serde_json.specs.Data.{array}
use Rattle.serde_json.specs.View.{items_of, view}
use Rattle.serde_json.specs.declared.value.Value.{Array, the_lemmas}
use Rattle.dropin_rules.specs.HasPatterns.{GroupHasPatterns}
use Rattle.dropin_rules.specs.RulesText.{group_data}
use Rattle.dropin_rules.proofs.Steps.{all_more, data_more, data_whole}
use Rattle.dropin_rules.proofs.text.groups_value.Goals as goal

pub groups-preserved : goal.groups-preserved
groups-preserved c =
    let pushed : c.push.new.self.items ≡ c.groups.items.items ++ c.in_ok-one.one ∷ [] = search rules in
    rw pushed (record {
      values = data_more group_data [] c.groups.items.items c.in_ok-one.one c.args.groups.now c.groups.index _ (search rules) c.index-groups-index.is c.groups.invariant.values c.in_ok-one.ensures.value;
      formed = all_more GroupHasPatterns c.args.groups.now c.groups.index _ (search rules) c.index-groups-index.is c.groups.invariant.formed c.in_ok-one.ensures.formed;
    })

pub returns-clause-value : goal.returns-clause-value
returns-clause-value c =
    let viewed : view (Array c.groups.items) ≡ array (items_of (map view c.groups.items.items)) = search (rules, the_lemmas) in
    viewed ∙ ap (λ ds. array (items_of ds)) (data_whole group_data [] c.groups.items.items c.args.groups.now c.groups.index (search rules) c.groups.invariant.values)
