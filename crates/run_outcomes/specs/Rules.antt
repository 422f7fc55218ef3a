-- Defines which rules a command uses, from the bytes of its rules file and its drop-in file.
use Rattle.std.specs.Prelude.{◌≡◌, ℕ, List, [], Option, None, Some, Ok}
use Rattle.outside.specs.Outside.{Files, IsAbsent, content_of}
use Rattle.ruleset_json.specs.declared.types.Rule.{Rule}
use Rattle.ruleset_json.specs.RuleRanges.{FitsRules}
use Rattle.run_spec.specs.Outputs.{rules_from}
use Rattle.run_spec.specs.Run.{content_if_named}

-- `rules` are the rulesets of the rules file `named` with the drop-in file `drop_in` applied.
-- Without a rules file, `rules` is empty. All rulesets are in range. If the bytes of the files are
-- known, they determine the rulesets. Neither file is known to be missing.
pub record RulesOption (named drop_in : Option (List ℕ)) (files : Option Files) (rules : List Rule) : Type 0 where
  pub fit : FitsRules rules
  pub none : named ≡ None → rules ≡ []
  pub read : (name bytes : List ℕ) (over : Option (List ℕ)) → named ≡ Some name → content_of files name ≡ Some bytes
      → content_if_named files drop_in ≡ Some over → rules_from bytes over ≡ Ok (record { rules = rules })
  pub held : (name : List ℕ) → named ≡ Some name → IsAbsent files name → ⊥
  pub drop_in_held : (name : List ℕ) → drop_in ≡ Some name → IsAbsent files name → ⊥
