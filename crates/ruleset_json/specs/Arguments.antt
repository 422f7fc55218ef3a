-- Defines the arguments of plugins (detectors and actions): the kinds of arguments, the values that
-- their texts have, and their defaults.
use Rattle.std.specs.Prelude.{ℕ, List, [], ◌∷◌, Bool, true, false, codes, decimal, Option, None, Some, option_and_then, Result, Ok, Err}
use Rattle.psi_base.specs.declared.event.Res.{Res}
use Rattle.psi_base.specs.ResultSteps.{◌>>=◌}
use Rattle.path_match.specs.Match.{patterns_of}
use Rattle.path_match.specs.declared.fault.PatternFault.{PatternFault}
use Rattle.path_match.specs.declared.fault.PatternFault.TheVariants as pattern
use Rattle.serde_json.specs.Data.{Num, unsigned, Data, boolean, number as numeric, string}
use Rattle.serde_json.specs.Find.{get}
use Rattle.ruleset_json.specs.declared.types.Size.{Size}
use Rattle.ruleset_json.specs.declared.fault.Place.{Place}
use Rattle.ruleset_json.specs.declared.fault.RulesCause.{RulesCause}
use Rattle.ruleset_json.specs.declared.fault.RulesCause.TheVariants as cause
use Rattle.ruleset_json.specs.declared.fault.RulesFault.{RulesFault}
use Rattle.ruleset_json.specs.declared.name.Key.{Key}
use Rattle.ruleset_json.specs.Names.{key_word}
use Rattle.ruleset_json.specs.Forms.{number_up_to, ratio_of, size_of, truth_of, resource_of}

-- ---- rejection of an argument

-- `refused_for at what`: a rejection with the cause `what` at the place `at` in the rules file.
abbrev pub refused_for : {A : Type 0} → Place → RulesCause → Result A RulesFault
refused_for at what = Err (record { place = at; what = what })

-- `or_fault at what option`: the value of an option. `None` is rejected with the cause `what` at
-- the place `at` in the rules file.
abbrev pub or_fault : {A : Type 0} → Place → RulesCause → Option A → Result A RulesFault
or_fault at what None = refused_for at what
or_fault at what (Some x) = Ok x

-- ---- kinds of plugin arguments

-- The kind of an argument: path patterns, a resource, a number up to `most`, a ratio in
-- thousandths, a size, or a Boolean.
pub data ArgumentKind : Type 0 where
  patterns : ArgumentKind
  resource : ArgumentKind
  number : (most : ℕ) → ArgumentKind
  ratio : ArgumentKind
  size : ArgumentKind
  truth : ArgumentKind

-- The type of the parsed values of each kind of argument.
abbrev pub ArgumentValue : ArgumentKind → Type 0
ArgumentValue patterns = List (List (List ℕ))
ArgumentValue resource = Res
ArgumentValue (number most) = ℕ
ArgumentValue ratio = ℕ
ArgumentValue size = Size
ArgumentValue truth = Bool

-- The cause for which a list of patterns is rejected: `BadArg` for a malformed pattern, and
-- `TooMany` for too many patterns.
abbrev pub pattern_cause : PatternFault → RulesCause
pattern_cause pattern.BadPattern = cause.BadArg
pattern_cause pattern.TooMany = cause.TooMany

-- `or_pattern at read`: the result of parsing patterns. A fault of the patterns is converted to a
-- fault of the rules file at the place `at`.
abbrev pub or_pattern : {A : Type 0} → Place → Result A PatternFault → Result A RulesFault
or_pattern at (Ok x) = Ok x
or_pattern at (Err fault) = refused_for at (pattern_cause fault)

-- `argument_of at k text`: parses the text of an argument of kind `k`. Too many patterns are
-- rejected with `TooMany`. Any other text without a value of this kind is rejected with `BadArg`. A
-- fault reports the place `at`.
unfoldable pub argument_of : Place → (k : ArgumentKind) → List ℕ → Result (ArgumentValue k) RulesFault
argument_of at patterns text = or_pattern at (patterns_of text)
argument_of at resource text = or_fault at cause.BadArg (resource_of text)
argument_of at (number most) text = or_fault at cause.BadArg (number_up_to most text)
argument_of at ratio text = or_fault at cause.BadArg (ratio_of text)
argument_of at size text = or_fault at cause.BadArg (size_of text)
argument_of at truth text = or_fault at cause.BadArg (truth_of text)

-- ---- the texts of arguments in JSON

-- The text of a Boolean in a rules file.
abbrev pub truth_text : Bool → List ℕ
truth_text true = codes "true"
truth_text false = codes "false"

-- The decimal text of a natural number, or `None` for any other JSON number.
abbrev pub number_text : Num → Option (List ℕ)
number_text (unsigned n) = Some (decimal n)
number_text _ = None

-- Converts the JSON value of an argument to text. The text of a string is its contents. A natural
-- number or a Boolean is spelled out. The result is `None` for any other JSON value.
abbrev pub argument_text : Data → Option (List ℕ)
argument_text (string text) = Some text
argument_text (numeric n) = number_text n
argument_text (boolean b) = Some (truth_text b)
argument_text _ = None

-- `value_at at k d`: parses the JSON value `d` of an argument of kind `k`. A fault reports the
-- place `at`.
unfoldable pub value_at : Place → (k : ArgumentKind) → Data → Result (ArgumentValue k) RulesFault
value_at at k d = do
  text ← or_fault at cause.WrongKind (argument_text d)
  argument_of at k text

-- ---- the known arguments of a plugin

-- A known argument of a plugin: its key, its kind, and its default. A required argument has no
-- default.
pub record Argument : Type 0 where
  pub key : Key
  pub kind : ArgumentKind
  pub default : Option (ArgumentValue kind)

-- `required key k`: a required argument with this key and of the kind `k`.
abbrev pub required : Key → ArgumentKind → Argument
required key k = record { key = key; kind = k; default = None }

-- `optional key k default`: an optional argument with this key and default, and of the kind `k`.
abbrev pub optional : Key → (k : ArgumentKind) → ArgumentValue k → Argument
optional key k default = record { key = key; kind = k; default = Some default }

-- `found_or at k default value`: parses the JSON value of an argument of kind `k`. If the argument
-- is missing (`value` is `None`), the result is its default. A missing argument without a default
-- is rejected with `MissingKey`. A fault reports the place `at`.
abbrev pub found_or : Place → (k : ArgumentKind) → Option (ArgumentValue k) → Option Data → Result (ArgumentValue k) RulesFault
found_or at k None None = refused_for at cause.MissingKey
found_or at k (Some default) None = Ok default
found_or at k default (Some d) = value_at at k d

-- `argument_at at a args`: the value of the argument `a` of a plugin. `args` is the JSON object of
-- all arguments of the plugin, or `None` if the plugin has no `args`. A fault reports the place
-- `at`.
unfoldable pub argument_at : Place → (a : Argument) → Option Data → Result (ArgumentValue a.kind) RulesFault
argument_at at a args = found_or at a.kind a.default (option_and_then (get (key_word a.key)) args)

-- The type of functions that take the values of the arguments in `known`, in order, and return a
-- `Made`.
abbrev pub ArgumentsMaker : List Argument → Type 0 → Type 0
ArgumentsMaker [] Made = Made
ArgumentsMaker (a ∷ known) Made = ArgumentValue a.kind → ArgumentsMaker known Made

-- `made_of_arguments at known make args`: parses the arguments in `known` in order, applies `make`
-- to their values, and returns the result. Returns the first fault if an argument is rejected.
-- `args` is the JSON object of all arguments, or `None` if the plugin has no `args`.
abbrev pub made_of_arguments : {Made : Type 0} → Place → (known : List Argument) → ArgumentsMaker known Made → Option Data
    → Result Made RulesFault
made_of_arguments at [] made args = Ok made
made_of_arguments at (a ∷ known) make args = do
  value ← argument_at at a args
  made_of_arguments at known (make value) args
