-- The grammar of the lines of a trace: the bytes that spell a header or an event, and the cause of
-- rejection for all other lines.
use Rattle.std.specs.Prelude.{ℕ, ◌+◌, ◌<◌, ◌^◌, List, [], ◌∷◌, ◌++◌, map, codes, decimal, Option, None, Some, Result, Ok, Err}
use Rattle.std.specs.List.{flat_map, range_with_len}
use Rattle.psi_base.specs.Number.{number_of}
use Rattle.psi_base.specs.Path.{parts_at}
use Rattle.psi_base.specs.declared.event.Act.{Act}
use Rattle.psi_base.specs.declared.event.Act.TheVariants as act
use Rattle.psi_base.specs.declared.event.Event.{Event}
use Rattle.psi_base.specs.declared.event.Cause.{Cause}
use Rattle.psi_base.specs.declared.event.Cause.TheVariants as cause
use Rattle.psi_base.specs.ResultSteps.{◌>>=◌}
use Rattle.psi_spec.specs.Fields.{Kind, Value, InRange, word, IsAmong, value_of, named}
use Rattle.psi_spec.specs.Fields as kind

-- Joins the words with single spaces.
abbrev pub joined : List (List ℕ) → List ℕ
joined [] = []
joined (text ∷ []) = text
joined (text ∷ next ∷ words) = text ++ 32 ∷ joined (next ∷ words)

-- The versions of the trace format.
pub data Version : Type 0 where
  One : Version
  Two : Version

-- All versions of the trace format.
abbrev pub versions : List Version
versions = One ∷ Two ∷ []

-- The number of a version, as the header spells it.
abbrev pub version_number : Version → ℕ
version_number One = 1
version_number Two = 2

-- The content of a header line: the version of the format and the number of processors.
pub record Header : Type 0 where
  pub version : Version
  pub cpus : ℕ

-- The header line for a version number and a number of processors, without a newline.
unfoldable pub header : ℕ → ℕ → List ℕ
header version cpus = codes "psitrace " ++ decimal version ++ codes " cpus=" ++ decimal cpus

-- The type of a function that takes one value of each kind of the list, in order, and returns an
-- act (what an event does).
abbrev pub Maker : List Kind → Type 0
Maker [] = Act
Maker (k ∷ ks) = Value k → Maker ks

-- The verbs of event lines. Each verb has the name of the act (what an event does) that it spells.
pub data Verb : Type 0 where
  Group : Verb
  Remove : Verb
  Prefer : Verb
  Fork : Verb
  Wake : Verb
  Switch : Verb
  Stall : Verb
  Unstall : Verb
  Migrate : Verb
  Move : Verb
  Mem : Verb
  Host : Verb
  Trigger : Verb
  Irq : Verb
  Pressure : Verb
  End : Verb

-- The syntax of the event lines with one verb: the verb's word, the kinds of the fields, and the
-- function from the values of the fields to the act (what the event does).
pub record Form : Type 0 where
  pub word : List ℕ
  pub kinds : List Kind
  pub act : Maker kinds

-- Makes the syntax of a verb from its word, the kinds of its fields, and the function from the
-- values of the fields to the act (what the event does).
abbrev pub form : (text : List ℕ) (kinds : List Kind) → Maker kinds → Form
form text kinds act = record { word = text; kinds = kinds; act = act }

-- The table of verbs: the syntax of each verb.
abbrev pub form_of : Verb → Form
form_of Group = form (codes "group") (kind.path ∷ []) act.Group
form_of Remove = form (codes "rmgroup") (kind.path ∷ []) act.Remove
form_of Prefer = form (codes "prefer") (kind.path ∷ kind.preference ∷ []) act.Prefer
form_of Fork = form (codes "fork") (kind.pid ∷ kind.path ∷ kind.cpu ∷ []) act.Fork
form_of Wake = form (codes "wake") (kind.pid ∷ kind.cpu ∷ []) act.Wake
form_of Switch = form (codes "switch") (kind.cpu ∷ kind.next ∷ kind.how ∷ []) act.Switch
form_of Stall = form (codes "stall") (kind.pid ∷ []) act.Stall
form_of Unstall = form (codes "unstall") (kind.pid ∷ []) act.Unstall
form_of Migrate = form (codes "migrate") (kind.pid ∷ kind.cpu ∷ []) act.Migrate
form_of Move = form (codes "move") (kind.pid ∷ kind.path ∷ []) act.Move
form_of Mem = form (codes "mem") (kind.path ∷ kind.amount ∷ kind.amount ∷ kind.amount ∷ []) act.Mem
form_of Host = form (codes "host") (kind.amount ∷ kind.amount ∷ kind.amount ∷ []) act.Host
form_of Trigger = form (codes "trigger") (kind.path ∷ kind.resource ∷ kind.level ∷ kind.number ∷ kind.number ∷ []) act.Trigger
form_of Irq = form (codes "irq") (kind.cpu ∷ kind.number ∷ []) act.Irq
form_of Pressure = form (codes "pressure") (kind.path ∷ kind.account ∷ []) act.Pressure
form_of End = form (codes "end") [] act.End

-- The word for a verb in an event line.
abbrev pub verb_word : Verb → List ℕ
verb_word verb = (form_of verb).word

-- The kinds of a verb's fields, in order.
abbrev pub kinds_of : Verb → List Kind
kinds_of verb = (form_of verb).kinds

-- The verbs that every version has. The most frequent verbs come first.
abbrev pub first_verbs : List Verb
first_verbs = Switch ∷ Wake ∷ Stall ∷ Unstall ∷ Migrate ∷ Move ∷ Fork ∷ Mem ∷ Host ∷ Group ∷ Remove ∷ Prefer ∷ Trigger ∷ End ∷ []

-- The verbs of a version that are not in `first_verbs`.
abbrev pub more_verbs : Version → List Verb
more_verbs One = []
more_verbs Two = Irq ∷ Pressure ∷ []

-- All verbs of a version. Different verbs have different words.
abbrev pub verbs_of : Version → List Verb
verbs_of version = first_verbs ++ more_verbs version

-- The type of tuples with one value of each kind of the list.
abbrev pub Values : List Kind → Type 0
Values [] = Unit {0}
Values (k ∷ ks) = Value k × Values ks

-- What an event does, represented by the event's verb and the values of its fields.
pub record Phrase : Type 0 where
  pub verb : Verb
  pub values : Values (kinds_of verb)

-- Makes the phrase with this verb and these values. A phrase represents what an event does.
abbrev pub phrase : (verb : Verb) → Values (kinds_of verb) → Phrase
phrase verb values = record { verb = verb; values = values }

-- Decomposes an act (what an event does) into its verb and the values of its fields.
abbrev pub phrase_of : Act → Phrase
phrase_of (act.Group path) = phrase Group (path, tt)
phrase_of (act.Remove path) = phrase Remove (path, tt)
phrase_of (act.Prefer path preference) = phrase Prefer (path, (preference, tt))
phrase_of (act.Fork pid path cpu) = phrase Fork (pid, (path, (cpu, tt)))
phrase_of (act.Wake pid cpu) = phrase Wake (pid, (cpu, tt))
phrase_of (act.Switch cpu next how) = phrase Switch (cpu, (next, (how, tt)))
phrase_of (act.Stall pid) = phrase Stall (pid, tt)
phrase_of (act.Unstall pid) = phrase Unstall (pid, tt)
phrase_of (act.Migrate pid cpu) = phrase Migrate (pid, (cpu, tt))
phrase_of (act.Move pid path) = phrase Move (pid, (path, tt))
phrase_of (act.Mem path current swap scan) = phrase Mem (path, (current, (swap, (scan, tt))))
phrase_of (act.Host mem_total swap_total swap_free) = phrase Host (mem_total, (swap_total, (swap_free, tt)))
phrase_of (act.Trigger path res level threshold_us window_us) = phrase Trigger (path, (res, (level, (threshold_us, (window_us, tt)))))
phrase_of (act.Irq cpu ns) = phrase Irq (cpu, (ns, tt))
phrase_of (act.Pressure path on) = phrase Pressure (path, (on, tt))
phrase_of act.End = phrase End tt

-- ---- the spelling of event lines

-- The words for the values of fields of the kinds `ks`, in order.
abbrev pub field_words : (ks : List Kind) → Values ks → List (List ℕ)
field_words [] values = []
field_words (k ∷ ks) values = word k values.0 ∷ field_words ks values.1

-- Each of the values is in the range that a trace allows for its kind.
abbrev pub AreInRange : (ks : List Kind) → Values ks → Type 0
AreInRange [] values = Unit {0}
AreInRange (k ∷ ks) values = InRange k values.0 × AreInRange ks values.1

-- The words of an event line after its time: the verb, followed by the values of the fields.
abbrev pub act_words : Act → List (List ℕ)
act_words what = verb_word (phrase_of what).verb ∷ field_words (kinds_of (phrase_of what).verb) (phrase_of what).values

-- The line of an event, without its newline. Each event has exactly one line.
unfoldable pub spelling : Event → List ℕ
spelling event = joined (decimal event.at ∷ act_words event.act)

-- The values of an event's fields are in range.
abbrev pub ActFits : Act → Type 0
ActFits what = AreInRange (kinds_of (phrase_of what).verb) (phrase_of what).values

-- The time (ns) of an event and the values of its fields are in range.
pub record Fits (event : Event) : Type 0 where
  pub at : event.at < 2 ^ 64
  pub act : ActFits event.act

-- The list of verbs contains the verb of the event.
abbrev pub IsKnown : List Verb → Event → Type 0
IsKnown verbs event = IsAmong (phrase_of event.act).verb verbs

-- ---- parsing of header lines and event lines

-- `or_bad i value words`: the value with the remaining `words`. If `value` is `None`, the result is
-- the cause that field number `i` is bad.
abbrev pub or_bad : {A : Type 0} → ℕ → Option A → List (List ℕ) → Result (A × List (List ℕ)) Cause
or_bad i None words = Err (cause.BadField i)
or_bad i (Some x) words = Ok (x, words)

-- Parses the first word as a value of kind `k`, which is field number `i` of a line. The result is
-- the value with the remaining words, or the cause that field `i` is bad.
abbrev pub field : ℕ → (k : Kind) → List (List ℕ) → Result (Value k × List (List ℕ)) Cause
field i k [] = Err (cause.BadField i)
field i k (text ∷ words) = or_bad i (value_of k text) words

-- Parses the words as fields of the kinds `ks`, numbered from `i`, and applies `make` to the values
-- of the fields. The error names the leftmost field that is malformed, missing or superfluous.
abbrev pub made_from : ℕ → (ks : List Kind) → Maker ks → List (List ℕ) → Result Act Cause
made_from i [] made [] = Ok made
made_from i [] made (text ∷ words) = Err (cause.BadField i)
made_from i (k ∷ ks) make words = do
  first ← field i k words
  made_from (i + 1) ks (make first.0) first.1

-- Parses the words as the fields of `verb`. The result is what the event does.
unfoldable pub act_from : Verb → List (List ℕ) → Result Act Cause
act_from verb words = made_from 1 (kinds_of verb) (form_of verb).act words

-- The verb of the list that the word `text` names, or `None`.
unfoldable pub verb_of : List Verb → List ℕ → Option Verb
verb_of verbs text = named verb_word verbs text

-- `act_in verb words`: parses the words as the fields of the verb. The error is BadVerb if `verb`
-- is `None`.
abbrev pub act_in : Option Verb → List (List ℕ) → Result Act Cause
act_in None words = Err cause.BadVerb
act_in (Some verb) words = act_from verb words

-- Parses the words of a line after the time: a verb of the list, and the fields of the verb.
unfoldable pub act_at : List Verb → List (List ℕ) → Result Act Cause
act_at verbs [] = Err cause.BadVerb
act_at verbs (text ∷ words) = act_in (verb_of verbs text) words

-- `event_in verbs at words`: parses the verb and the fields of an event at time `at` (ns). The
-- error is BadTime if `at` is `None`.
abbrev pub event_in : List Verb → Option ℕ → List (List ℕ) → Result Event Cause
event_in verbs None words = Err cause.BadTime
event_in verbs (Some at) words = do
  what ← act_at verbs words
  Ok (record { at = at; act = what })

-- Parses the words of a line as an event: a time, a verb of the list, and the fields of the verb.
unfoldable pub event_at : List Verb → List (List ℕ) → Result Event Cause
event_at verbs [] = Err cause.BadTime
event_at verbs (time ∷ words) = event_in verbs (number_of time) words

-- Parses a line without its newline as an event with a verb of the list. The error is the first
-- cause for which the line is rejected.
unfoldable pub event_of : List Verb → List ℕ → Result Event Cause
event_of verbs line = event_at verbs (parts_at 32 line)

-- The line of a header, without a newline.
abbrev pub header_line : Header → List ℕ
header_line head = header (version_number head.version) head.cpus

-- All headers of a version: one for each number of processors from 1 to 64.
abbrev pub headers_of : Version → List Header
headers_of version = map (λ cpus. let head : Header = record { version = version; cpus = cpus } in head) (range_with_len 1 64)

-- Parses a line as a header with one of the versions. The result is `None` if the line isn't such a
-- header.
unfoldable pub header_of : List Version → List ℕ → Option Header
header_of versions line = named header_line (flat_map headers_of versions) line
