-- Defines the parsing of a drop-in file into its rulesets, which are called parts. A drop-in file
-- is parsed like a rules file, except that a ruleset may lack its detectors, its actions, or both.
use Rattle.std.specs.Prelude.{ℕ, List, codes, Option, None, Some, Result, Ok}
use Rattle.serde_json.specs.Data.{Data}
use Rattle.serde_json.specs.Find.{get}
use Rattle.ruleset_json.specs.declared.fault.Place.TheVariants as place
use Rattle.ruleset_json.specs.declared.fault.RulesFault.{RulesFault}
use Rattle.ruleset_json.specs.declared.types.Part.{Part}
use Rattle.psi_base.specs.ResultSteps.{◌>>=◌}
use Rattle.ruleset_json.specs.Rules.{object_at, member_at, text_at, each, delay_at, groups_at, actions_at, rulesets_of}

-- `if_there found read`: the parsed value `read` of a member of a JSON object. The result is `None`
-- if the member `found` is missing.
abbrev pub if_there : {A : Type 0} → Option Data → Result A RulesFault → Result (Option A) RulesFault
if_there None read = Ok None
if_there (Some found) read = do
  x ← read
  Ok (Some x)

-- `part_at i d`: parses the ruleset at index `i` of a drop-in file from its JSON value `d`. Returns
-- the first fault if the ruleset is rejected.
unfoldable pub part_at : ℕ → Data → Result Part RulesFault
part_at i d = do
  whole ← object_at (place.Rule i) d
  found ← member_at (place.Rule i) (codes "name") whole
  name ← text_at (place.Rule i) found
  delay ← delay_at (place.Rule i) whole
  groups ← if_there (get (codes "detectors") whole) (groups_at i whole)
  chain ← if_there (get (codes "actions") whole) (actions_at i delay whole)
  Ok (record { name = name; groups = groups; actions = chain })

-- Parses the bytes of a drop-in file. The result is the file's rulesets or its first fault.
unfoldable pub parts_of : List ℕ → Result (List Part) RulesFault
parts_of bytes = do
  items ← rulesets_of bytes
  each part_at 0 items
