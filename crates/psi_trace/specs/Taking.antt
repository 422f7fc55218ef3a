-- Relates the result of a function that parses words of a line to the result that its definition
-- gives. The function removes the parsed words from the line.
use Rattle.std.specs.Prelude.{◌≡◌, ℕ, List, [], ◌∷◌, Bool, true, false, Option, None, Some, Result, Ok, Err, ⊤}
use Rattle.psi_base.specs.declared.event.Act.{Act}
use Rattle.psi_base.specs.declared.event.Cause.{Cause}
use Rattle.psi_base.specs.declared.event.Event.{Event}
use Rattle.psi_base.specs.declared.event.Fault.{Fault}
use Rattle.psi_base.specs.declared.event.Fault.TheVariants.{Refused, NoMemory}
use Rattle.psi_spec.specs.Fields.{Kind, path}
use Rattle.psi_spec.specs.Grammar.{Verb, kinds_of, verb_of}

-- `TakesWords result rest read`: `result` (of the function) and the remaining words `rest` agree
-- with `read`, the result according to the definition.
abbrev pub TakesWords : {A W : Type 0} → Result A Cause → W → Result (A × W) Cause → Type 0
TakesWords (Ok x) rest read = read ≡ Ok (x, rest)
TakesWords (Err cause) rest read = read ≡ Err cause

-- `TakesAny result rest read`: `result` (of the function) and the remaining words `rest` agree with
-- `read`, the result according to the definition. If memory ran out, `read` is arbitrary.
abbrev pub TakesAny : {A W : Type 0} → Result A (Fault Cause) → W → Result (A × W) Cause → Type 0
TakesAny (Ok x) rest read = read ≡ Ok (x, rest)
TakesAny (Err (Refused cause)) rest read = read ≡ Err cause
TakesAny (Err (NoMemory _)) rest read = ⊤

-- `dated at act`: the event at the time `at` (ns) that does `act`. If `act` is the cause for which
-- the words of an event are malformed, the result is this cause.
abbrev pub dated : ℕ → Result Act Cause → Result Event Cause
dated at (Ok what) = Ok (record { at = at; act = what })
dated at (Err why) = Err why

-- Whether the list of field kinds contains a path.
abbrev pub has_path : List Kind → Bool
has_path [] = false
has_path (path ∷ ks) = true
has_path (k ∷ ks) = has_path ks

-- Whether the optional verb exists and one of its fields is a path.
abbrev pub takes_path : Option Verb → Bool
takes_path None = false
takes_path (Some verb) = has_path (kinds_of verb)

-- Whether the first word is one of the verbs and one of the fields of this verb is a path.
abbrev pub names_path : List Verb → List (List ℕ) → Bool
names_path verbs [] = false
names_path verbs (text ∷ words) = takes_path (verb_of verbs text)
