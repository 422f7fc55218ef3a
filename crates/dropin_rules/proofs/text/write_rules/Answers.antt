use Rattle.std.proofs.Common.{◌≡◌, ◌++◌, ap, ◌∙◌, subst, rules}
use Rattle.serde_json.specs.View.{view}
use Rattle.ruleset_json.specs.RuleRanges.{FitsRules}
use Rattle.dropin_rules.specs.HasPatterns.{RulesHavePatterns}
use Rattle.dropin_rules.specs.RulesText.{rules_data}
use Rattle.dropin_rules.proofs.Written.{read_again, text_written}
use Rattle.dropin_rules.proofs.text.write_rules.Goals as goal

pub returns-clause-text : goal.returns-clause-text
returns-clause-text c =
    let seen : view c.in_ok-rules_value.field-0 ≡ rules_data c.args.rules.now.rules = search rules in
    let appended : c.extend_from_slice.new.self.items ≡ c.args.to.now.items ++ c.in_ok-text.text.items = search rules in
    appended ∙ ap (λ bytes. c.args.to.now.items ++ bytes) (text_written c.args.rules.now.rules _ c.in_ok-text.text.items seen c.in_ok-text.ensures.text)

pub returns-clause-again : goal.returns-clause-again
returns-clause-again c =
    let same : c.items.result.now ≡ c.args.rules.now.rules = search rules in
    let fits : FitsRules c.args.rules.now.rules = subst FitsRules same c.items.ensures.fits in
    let formed : RulesHavePatterns c.args.rules.now.rules = subst RulesHavePatterns same c.in_ok-rules_value.ensures.formed in
    read_again c.args.rules.now.rules fits formed
