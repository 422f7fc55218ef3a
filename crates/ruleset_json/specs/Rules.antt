-- Defines the rules that a rules file spells, or the file's first fault in depth-first order. The
-- parameter `at` of a definition is the place in the file that its faults report.
use Rattle.std.specs.Prelude.{ℕ, ◌+◌, List, [], ◌∷◌, drop, length, nat_lt, if◌then◌else◌, codes, Option, None, Some, is_some, Result, Ok}
use Rattle.std.specs.List.{slice_get}
use Rattle.std.specs.Str.{is_utf8}
use Rattle.serde_json.specs.Data.{Data, Items, no_items, item}
use Rattle.serde_json.specs.Find.{get, as_array, as_object, as_str}
use Rattle.serde_json.specs.Read as json
use Rattle.ruleset_json.specs.declared.fault.Place.{Place}
use Rattle.ruleset_json.specs.declared.fault.Place.TheVariants as place
use Rattle.ruleset_json.specs.declared.fault.RulesCause.TheVariants as cause
use Rattle.ruleset_json.specs.declared.fault.RulesFault.{RulesFault}
use Rattle.ruleset_json.specs.declared.name.ActionName.{ActionName}
use Rattle.ruleset_json.specs.declared.name.Key.TheVariants as key
use Rattle.ruleset_json.specs.declared.types.DetectorSpec.{DetectorSpec}
use Rattle.ruleset_json.specs.declared.types.DetectorGroup.{DetectorGroup}
use Rattle.ruleset_json.specs.declared.types.Action.{Action}
use Rattle.ruleset_json.specs.declared.types.Rule.{Rule}
use Rattle.ruleset_json.specs.declared.types.Rules.{Rules}
use Rattle.psi_base.specs.ResultSteps.{◌>>=◌}
use Rattle.ruleset_json.specs.Arguments.{refused_for, or_fault, number, optional, argument_at, made_of_arguments}
use Rattle.ruleset_json.specs.Names.{detector_named, action_named}
use Rattle.ruleset_json.specs.Plugins.{Plugin, detector_of, action_of, after_arguments, longest}

-- ---- JSON values of the expected kind

-- `object_at at d`: the JSON value `d` if it is an object. Any other value is rejected with
-- `WrongKind`.
abbrev pub object_at : Place → Data → Result Data RulesFault
object_at at d = if is_some (as_object d) then Ok d else refused_for at cause.WrongKind

-- `member_at at key d`: the member of the JSON object `d` with the key `key`. A missing member is
-- rejected with `MissingKey`.
abbrev pub member_at : Place → List ℕ → Data → Result Data RulesFault
member_at at key d = or_fault at cause.MissingKey (get key d)

-- `text_at at d`: the contents of the JSON string `d`. Any other JSON value is rejected with
-- `WrongKind`.
abbrev pub text_at : Place → Data → Result (List ℕ) RulesFault
text_at at d = or_fault at cause.WrongKind (as_str d)

-- The items of a JSON array as a list.
abbrev pub items_list : Items → List Data
items_list no_items = []
items_list (item d ds) = d ∷ items_list ds

-- `few at most ds`: the list `ds` if it has at most `most` items. A longer list is rejected with
-- `TooMany`.
abbrev pub few : Place → ℕ → List Data → Result (List Data) RulesFault
few at most ds = if nat_lt most (length ds) then refused_for at cause.TooMany else Ok ds

-- `list_at at most d`: the items of the JSON array `d`, which has at most `most` items. Any other
-- JSON value is rejected with `WrongKind`, and a longer array with `TooMany`.
unfoldable pub list_at : Place → ℕ → Data → Result (List Data) RulesFault
list_at at most d = do
  items ← or_fault at cause.WrongKind (as_array d)
  few at most (items_list items)

-- `each f i ds`: applies `f` to each item of `ds` with its index, in order, and collects the
-- results. Stops at the first fault, and returns it. `i` is the index of the first item.
abbrev pub each : {A : Type 0} → (ℕ → Data → Result A RulesFault) → ℕ → List Data → Result (List A) RulesFault
each f i [] = Ok []
each f i (d ∷ ds) = do
  first ← f i d
  rest ← each f (i + 1) ds
  Ok (first ∷ rest)

-- ---- parsing plugins (detectors and actions)

-- `arguments_in at args`: the JSON object with a plugin's arguments, or `None` if the key `args` is
-- missing. A value that isn't an object is rejected.
abbrev pub arguments_in : Place → Option Data → Result (Option Data) RulesFault
arguments_in at None = Ok None
arguments_in at (Some d) = do
  whole ← object_at at d
  Ok (Some whole)

-- `made_at at known args`: parses the arguments of the plugin `known`, and makes the detector or
-- action from them. Returns the first fault if an argument is rejected. `args` is the JSON object
-- of the arguments, or `None`.
unfoldable pub made_at : {Made : Type 0} → Place → Plugin Made → Option Data → Result Made RulesFault
made_at at known args = made_of_arguments at known.arguments known.make args

-- `action_made_at at delay name args`: makes the action with the name `name` from the JSON object
-- of its arguments. Returns the first fault if an argument is rejected. `delay` is the ruleset's
-- delay (s) after a kill.
unfoldable pub action_made_at : Place → ℕ → ActionName → Option Data → Result Action RulesFault
action_made_at at delay name args = do
  make ← made_at at (action_of name) args
  after ← made_at at (after_arguments delay) args
  Ok (make after)

-- `plugin_at name_of made at d`: parses a plugin object, which is a JSON object with `name` and
-- `args`. `name_of` parses the name, and `made` makes the detector or action from the name and the
-- arguments. Returns the first fault if the object is rejected.
unfoldable pub plugin_at : {Name Made : Type 0} → (List ℕ → Option Name) → (Name → Option Data → Result Made RulesFault) → Place
    → Data → Result Made RulesFault
plugin_at name_of made at d = do
  whole ← object_at at d
  found ← member_at at (codes "name") whole
  text ← text_at at found
  name ← or_fault at cause.UnknownPlugin (name_of text)
  args ← arguments_in at (get (codes "args") whole)
  made name args

-- `detector_in at d`: parses the plugin object `d` as a detector. Returns the first fault if the
-- object is rejected.
abbrev pub detector_in : Place → Data → Result DetectorSpec RulesFault
detector_in at d = plugin_at detector_named (λ name. made_at at (detector_of name)) at d

-- `action_in delay at d`: parses the plugin object `d` as an action. Returns the first fault if the
-- object is rejected. `delay` is the ruleset's delay (s) after a kill.
abbrev pub action_in : ℕ → Place → Data → Result Action RulesFault
action_in delay at d = plugin_at action_named (action_made_at at delay) at d

-- ---- parsing groups of detectors, rulesets and files

-- `group_at i j d`: parses the group of detectors at index `j` of the ruleset at index `i`. `d` is
-- its JSON value, an array with the group's name and at most 16 detectors.
unfoldable pub group_at : ℕ → ℕ → Data → Result DetectorGroup RulesFault
group_at i j d = do
  items ← list_at (place.Group i j) 17 d
  first ← or_fault (place.Group i j) cause.MissingKey (slice_get items 0)
  name ← text_at (place.Group i j) first
  found ← each (λ k. detector_in (place.Detector i j k)) 0 (drop 1 items)
  Ok (record { name = name; detectors = found })

-- `delay_at at whole`: the delay (s) of the ruleset `whole` after a kill, 15 s by default. Actions
-- without their own delay use this delay.
abbrev pub delay_at : Place → Data → Result ℕ RulesFault
delay_at at whole = argument_at at (optional key.PostActionDelay (number longest) 15) (Some whole)

-- `groups_at i whole`: parses the groups of detectors of the ruleset at index `i`. `whole` is the
-- JSON object of the ruleset. Returns the first fault if a group is rejected.
abbrev pub groups_at : ℕ → Data → Result (List DetectorGroup) RulesFault
groups_at i whole = do
  found ← member_at (place.Rule i) (codes "detectors") whole
  items ← list_at (place.Rule i) 16 found
  each (group_at i) 0 items

-- `actions_at i delay whole`: parses the actions of the ruleset at index `i`. `whole` is the JSON
-- object of the ruleset, and `delay` is its delay (s) after a kill. Returns the first fault if an
-- action is rejected.
abbrev pub actions_at : ℕ → ℕ → Data → Result (List Action) RulesFault
actions_at i delay whole = do
  found ← member_at (place.Rule i) (codes "actions") whole
  items ← list_at (place.Rule i) 16 found
  each (λ k. action_in delay (place.Action i k)) 0 items

-- `rule_at i d`: parses the ruleset at index `i` of a rules file from its JSON value `d`. Returns
-- the first fault if the ruleset is rejected.
unfoldable pub rule_at : ℕ → Data → Result Rule RulesFault
rule_at i d = do
  whole ← object_at (place.Rule i) d
  found ← member_at (place.Rule i) (codes "name") whole
  name ← text_at (place.Rule i) found
  delay ← delay_at (place.Rule i) whole
  groups ← groups_at i whole
  chain ← actions_at i delay whole
  Ok (record { name = name; groups = groups; actions = chain })

-- `rulesets_in d`: the JSON values of the rulesets of a file, at most 64, or a fault. `d` is the
-- JSON value of the file.
unfoldable pub rulesets_in : Data → Result (List Data) RulesFault
rulesets_in d = do
  whole ← object_at place.Whole d
  found ← member_at place.Whole (codes "rulesets") whole
  list_at place.Whole 64 found

-- `data_of bytes`: parses the bytes as JSON. The result is `None` if they aren't UTF-8 or aren't
-- valid JSON.
abbrev pub data_of : List ℕ → Option Data
data_of bytes = if is_utf8 bytes then json.read bytes else None

-- `rulesets_of bytes`: the JSON values of the rulesets of a file with these bytes, or a fault. The
-- file must have at most 1,048,576 bytes.
abbrev pub rulesets_of : List ℕ → Result (List Data) RulesFault
rulesets_of bytes =
    if nat_lt 1048576 (length bytes) then refused_for place.Whole cause.TooLong
    else or_fault place.Whole cause.BadJson (data_of bytes) >>= rulesets_in

-- Parses the bytes of a rules file. The result is the file's rules or its first fault.
unfoldable pub rules_of : List ℕ → Result Rules RulesFault
rules_of bytes = do
  items ← rulesets_of bytes
  rules ← each rule_at 0 items
  Ok (record { rules = rules })
