-- Defines the rules that result from applying a drop-in file to a rules file. A *part* is a ruleset
-- of the drop-in file. A part names a ruleset of the rules file, and replaces that ruleset's groups
-- of detectors, its actions, or both.
use Rattle.std.specs.Prelude.{ℕ, ◌+◌, List, [], ◌∷◌, position, ◌&&◌, Bool, is_none, if◌then◌else◌, Option, None, Some, Result, Ok, Err}
use Rattle.std.specs.Str.{bytes_eq}
use Rattle.psi_base.specs.ResultSteps.{◌>>=◌}
use Rattle.ruleset_json.specs.declared.fault.Place.TheVariants as place
use Rattle.ruleset_json.specs.declared.fault.RulesFault.{RulesFault}
use Rattle.ruleset_json.specs.declared.types.Part.{Part}
use Rattle.ruleset_json.specs.declared.types.Rule.{Rule}
use Rattle.ruleset_json.specs.declared.types.Rules.{Rules}
use Rattle.ruleset_json.specs.Parts.{parts_of}
use Rattle.ruleset_json.specs.Replaced.{replaced_at}
use Rattle.dropin_rules.specs.declared.fault.DropCause.{DropCause}
use Rattle.dropin_rules.specs.declared.fault.DropCause.TheVariants as cause
use Rattle.dropin_rules.specs.declared.fault.DropFault.{DropFault}

-- Rejects the ruleset at index `i` of a drop-in file, with the cause `what`.
abbrev pub refused_part : {A : Type 0} → ℕ → DropCause → Result A DropFault
refused_part i what = Err (record { place = place.Rule i; what = what })

-- Returns the value in the option. If the option is `None`, rejects the ruleset at index `i` of a
-- drop-in file, with the cause `what`.
abbrev pub or_refused_part : {A : Type 0} → ℕ → DropCause → Option A → Result A DropFault
or_refused_part i what None = refused_part i what
or_refused_part i what (Some x) = Ok x

-- Whether the ruleset has the name `name`.
abbrev pub is_named : List ℕ → Rule → Bool
is_named name rule = bytes_eq rule.name name

-- Whether the part (a ruleset of a drop-in file) has neither groups of detectors nor actions.
abbrev pub gives_nothing : Part → Bool
gives_nothing part = is_none part.groups && is_none part.actions

-- Applies the part at index `i` of a drop-in file to the rulesets. The part replaces the groups of
-- detectors, the actions, or both, of the first ruleset with its name. The part is rejected if it
-- has neither groups nor actions, or if no ruleset has its name.
unfoldable pub part_joined : ℕ → Part → List Rule → Result (List Rule) DropFault
part_joined i part rules =
    if gives_nothing part then refused_part i cause.NoParts
    else do
      first ← or_refused_part i cause.UnknownRule (position (is_named part.name) rules)
      Ok (replaced_at first part.groups part.actions rules)

-- Applies the parts (rulesets of a drop-in file) to the rulesets, in order. `i` is the index of the
-- first part.
abbrev pub joined_from : ℕ → List Part → List Rule → Result (List Rule) DropFault
joined_from i [] rules = Ok rules
joined_from i (part ∷ parts) rules = do
  with_part ← part_joined i part rules
  joined_from (i + 1) parts with_part

-- Applies all parts (rulesets) of a drop-in file to the rules `base`. Returns the new rules or the
-- first fault.
unfoldable pub parts_joined : Rules → List Part → Result Rules DropFault
parts_joined base parts = do
  rules ← joined_from 0 parts base.rules
  Ok (record { rules = rules })

-- Converts a parse error to a fault of a drop-in file.
abbrev pub of_reading : RulesFault → DropFault
of_reading fault = record { place = fault.place; what = cause.Rules fault.what }

-- Converts the result of parsing a drop-in file: a parse error becomes a fault of the drop-in file.
abbrev pub parts_read : Result (List Part) RulesFault → Result (List Part) DropFault
parts_read (Ok parts) = Ok parts
parts_read (Err fault) = Err (of_reading fault)

-- Applies the drop-in file with these bytes to the rules `base`. Returns the new rules or the
-- file's first fault. Parse errors take precedence over other faults.
unfoldable pub dropped_in : Rules → List ℕ → Result Rules DropFault
dropped_in base bytes = do
  parts ← parts_read (parts_of bytes)
  parts_joined base parts
