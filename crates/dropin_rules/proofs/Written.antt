-- Proves properties of the text that is written for rules.
use Rattle.std.proofs.Common.{◌≡◌, ℕ, List, false, Some, Ok, sym, ap, ◌∙◌}
use Rattle.std.specs.Prelude.{IsUtf8}
use Rattle.serde_json.specs.Data.{Data}
use Rattle.serde_json.specs.Read.{read}
use Rattle.serde_json.specs.Written.{compact_text, has_float}
use Rattle.ruleset_json.specs.declared.types.Rule.{Rule}
use Rattle.ruleset_json.specs.declared.types.Rules.{Rules}
use Rattle.ruleset_json.specs.RuleRanges.{FitsRules}
use Rattle.dropin_rules.specs.HasPatterns.{RulesHavePatterns}
use Rattle.dropin_rules.specs.Laws.{ReadAgain, SameText}
use Rattle.dropin_rules.specs.RulesText.{rules_data, rules_text}
use Rattle.dropin_rules.proofs.Lists.{rules_plain}
use Rattle.dropin_rules.proofs.OnlyTexts.{text_read, text_utf8}
use Rattle.dropin_rules.proofs.RulesData.{rules_again}
use Rattle.dropin_rules.proofs.RulesTexts.{rules_only, rules_tree}

pub text_written : (rules : List Rule) (d : Data) (bytes : List ℕ) → d ≡ rules_data rules → (has_float d ≡ false → bytes ≡ compact_text d) → bytes ≡ rules_text rules
unfolding rules_text
text_written rules d bytes is text = text (ap has_float is ∙ (rules_plain rules).0) ∙ ap compact_text is

rules_utf8 : (rules : List Rule) → FitsRules rules → RulesHavePatterns rules → IsUtf8 (rules_text rules)
unfolding rules_text
rules_utf8 rules fits are = text_utf8 (rules_data rules) (rules_only rules fits are)

data_again : (rules : List Rule) → FitsRules rules → RulesHavePatterns rules → read (rules_text rules) ≡ Some (rules_data rules)
unfolding rules_text
data_again rules fits are = text_read (rules_data rules) (rules_only rules fits are) (rules_tree rules) (rules_plain rules).1

pub read_again : ReadAgain
read_again rules fits are short = rules_again rules fits are (rules_utf8 rules fits are) (data_again rules fits are) short

pub same_text : SameText
same_text rules again fits are short is =
    let both : Ok again ≡ Ok (record { rules = rules }) = sym is ∙ read_again rules fits are short in
    let same : again ≡ record { rules = rules } = cc in
    ap (λ (r : Rules). rules_text r.rules) same
