-- Defines how a drop-in file replaces the groups or the actions of a ruleset.
use Rattle.std.specs.Prelude.{ℕ, zero, suc, List, [], ◌∷◌, Option, unwrap_or}
use Rattle.ruleset_json.specs.declared.types.DetectorGroup.{DetectorGroup}
use Rattle.ruleset_json.specs.declared.types.Action.{Action}
use Rattle.ruleset_json.specs.declared.types.Rule.{Rule}

-- `replaced groups actions rule`: the ruleset `rule` with these groups and actions. `None` keeps
-- the old groups or actions.
abbrev pub replaced : Option (List DetectorGroup) → Option (List Action) → Rule → Rule
replaced groups actions rule = record { name = rule.name; groups = unwrap_or groups rule.groups; actions = unwrap_or actions rule.actions }

-- `replaced_at n groups actions rules`: the rulesets after the groups and the actions of the
-- ruleset at index `n` were replaced. `None` keeps the old groups or actions.
abbrev pub replaced_at : ℕ → Option (List DetectorGroup) → Option (List Action) → List Rule → List Rule
replaced_at n groups actions [] = []
replaced_at zero groups actions (rule ∷ rules) = replaced groups actions rule ∷ rules
replaced_at (suc n) groups actions (rule ∷ rules) = rule ∷ replaced_at n groups actions rules
