-- Proves properties of replacing a ruleset in a list.
use Rattle.std.proofs.Common.{◌≡◌, ℕ, zero, suc, ◌<◌, List, [], ◌∷◌, All, Option, length, get_or, slice_set, refl, sym, ap, subst, arith}
use Rattle.ruleset_json.specs.declared.types.Action.{Action}
use Rattle.ruleset_json.specs.declared.types.DetectorGroup.{DetectorGroup}
use Rattle.ruleset_json.specs.declared.types.Rule.{Rule}
use Rattle.ruleset_json.specs.Replaced.{replaced, replaced_at}
use Rattle.ruleset_json.specs.RuleRanges.{FitsRule}

-- Setting the element at index `n` to the replaced ruleset gives the specified list.
pub replaces : (rules : List Rule) (n : ℕ) (groups : Option (List DetectorGroup)) (actions : Option (List Action)) (was : Rule) → n < length rules
    → slice_set rules n (replaced groups actions (get_or rules n was)) ≡ replaced_at n groups actions rules
replaces [] n groups actions was below = absurd (omega arith)
replaces (rule ∷ rules) zero groups actions was below = refl
replaces (rule ∷ rules) (suc n) groups actions was below = ap (λ rs. rule ∷ rs) (replaces rules n groups actions was (omega arith))

-- If all rulesets of a list are in range, the ruleset at index `n` is in range.
pub stands : (rules : List Rule) (n : ℕ) (rule : Rule) → rule ≡ get_or rules n rule → n < length rules → All FitsRule rules → FitsRule rule
stands rules n rule is below fits = subst FitsRule (sym is) (fits n rule below)
