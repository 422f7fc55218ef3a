-- Defines the text that the program prints for a fault of a rules file.
use Rattle.std.specs.Prelude.{ℕ, List, [], ◌∷◌, ◌++◌, codes, decimal}
use Rattle.psi_spec.specs.Grammar.{joined}
use Rattle.ruleset_json.specs.declared.fault.Place.{Place}
use Rattle.ruleset_json.specs.declared.fault.Place.TheVariants as place
use Rattle.ruleset_json.specs.declared.fault.RulesCause.{RulesCause}
use Rattle.ruleset_json.specs.declared.fault.RulesCause.TheVariants as cause
use Rattle.ruleset_json.specs.declared.fault.RulesFault.{RulesFault}

-- The printed name of a cause.
abbrev pub rules_cause_name : RulesCause → List ℕ
rules_cause_name cause.TooLong = codes "TooLong"
rules_cause_name cause.BadJson = codes "BadJson"
rules_cause_name cause.MissingKey = codes "MissingKey"
rules_cause_name cause.WrongKind = codes "WrongKind"
rules_cause_name cause.UnknownPlugin = codes "UnknownPlugin"
rules_cause_name cause.BadArg = codes "BadArg"
rules_cause_name cause.TooMany = codes "TooMany"

-- The printed words for a place in a rules file, for example `ruleset 0 action 1`. The list is
-- empty for the whole file.
abbrev pub place_words : Place → List (List ℕ)
place_words place.Whole = []
place_words (place.Rule i) = codes "ruleset" ∷ decimal i ∷ []
place_words (place.Group i j) = codes "ruleset" ∷ decimal i ∷ codes "group" ∷ decimal j ∷ []
place_words (place.Detector i j k) = codes "ruleset" ∷ decimal i ∷ codes "group" ∷ decimal j ∷ codes "item" ∷ decimal k ∷ []
place_words (place.Action i k) = codes "ruleset" ∷ decimal i ∷ codes "action" ∷ decimal k ∷ []

-- `placed_text file at why`: the text of a fault. It consists of the word `file` (such as `rules`),
-- the words for the place `at`, a colon, and the name `why` of the cause.
abbrev pub placed_text : List ℕ → Place → List ℕ → List ℕ
placed_text file at why = joined (file ∷ place_words at) ++ (codes ": " ++ why)

-- The printed text of a fault of a rules file.
abbrev pub fault_text : RulesFault → List ℕ
fault_text fault = placed_text (codes "rules") fault.place (rules_cause_name fault.what)
