-- Laws of the grammar of lines: parsing is the inverse of spelling, and a rejected line is rejected
-- for its leftmost error.
use Rattle.std.specs.Prelude.{◌≡◌, ◌≢◌, ◌↔◌, ℕ, ◌+◌, ◌≤◌, ◌<◌, ◌^◌, List, drop, length, slice_get, slice_index, EachIndex, Option, None, Some, Ok, Err}
use Rattle.psi_base.specs.Path.{parts_at}
use Rattle.psi_base.specs.declared.event.Cause.{Cause}
use Rattle.psi_base.specs.declared.event.Cause.TheVariants as cause
use Rattle.psi_base.specs.declared.event.Event.{Event}
use Rattle.psi_spec.specs.Fields.{Kind, Value, InRange, word, IsAmong}
use Rattle.psi_spec.specs.Fields as kind
use Rattle.psi_spec.specs.Grammar.{Header, Verb, Version, Fits, IsKnown, event_of, header, header_line, header_of, kinds_of, spelling, verb_word}

-- The word `text` spells some value of kind `k`.
abbrev pub Spells : Kind → List ℕ → Type 0
Spells k text = (value : Value k) × (InRange k value × (text ≡ word k value))

-- A field is good: the line needs a field of kind `k` at this position, the field is present, and
-- it spells a value of kind `k`.
abbrev pub IsGood : Option Kind → Option (List ℕ) → Type 0
IsGood (Some k) (Some text) = Spells k text
IsGood (Some k) None = ⊥
IsGood None part = ⊥

-- A field is bad: it is missing, it spells no value of the required kind, or the line has too many
-- fields.
abbrev pub IsBad : Option Kind → Option (List ℕ) → Type 0
IsBad (Some k) (Some text) = Spells k text → ⊥
IsBad (Some k) None = Unit {0}
IsBad None (Some text) = Unit {0}
IsBad None None = ⊥

-- Field `at` (from 0) is the leftmost bad field among the words `parts`. The required kinds of the
-- fields are `ks`.
pub record IsFirstBad (ks : List Kind) (parts : List (List ℕ)) (at : ℕ) : Type 0 where
  pub before : (i : ℕ) → i < at → IsGood (slice_get ks i) (slice_get parts i)
  pub here : IsBad (slice_get ks at) (slice_get parts at)

-- The first word of a line spells a time (ns) below 2^64.
abbrev pub HasTime : List (List ℕ) → Type 0
HasTime parts = IsGood (Some kind.number) (slice_get parts 0)

-- The second word of a line is the word of `verb`, and `verb` is in the list of verbs.
abbrev pub HasVerb : List Verb → List (List ℕ) → Verb → Type 0
HasVerb verbs parts verb = IsAmong verb verbs × (slice_get parts 1 ≡ Some (verb_word verb))

-- The time and the verb of a line are valid, and the leftmost bad field has number `number` (from
-- 1).
pub record HasBadField (verbs : List Verb) (parts : List (List ℕ)) (number : ℕ) : Type 0 where
  pub time : HasTime parts
  pub verb : Verb
  pub has_verb : HasVerb verbs parts verb
  pub at : ℕ
  pub is_number : number ≡ at + 1
  pub first : IsFirstBad (kinds_of verb) (drop 2 parts) at

-- A line is rejected with this cause, whatever tasks and groups exist. BadTime: the first word
-- isn't a time. BadVerb: the time is valid, but the second word is missing or isn't a verb of the
-- list. BadField: time and verb are valid; the cause has the number of the leftmost field that is
-- missing, malformed or superfluous. No other cause applies.
abbrev pub IsCause : List Verb → List (List ℕ) → Cause → Type 0
IsCause verbs parts cause.BadTime = HasTime parts → ⊥
IsCause verbs parts cause.BadVerb = HasTime parts × ((verb : Verb) → HasVerb verbs parts verb → ⊥)
IsCause verbs parts (cause.BadField number) = HasBadField verbs parts number
IsCause verbs parts _ = ⊥

-- A line is parsed as an event if and only if the line is the spelling of the event, the event's
-- values are in range, and the list of verbs contains the event's verb.
abbrev pub ReadsSpelled : Type 0
ReadsSpelled =
    (verbs : List Verb) (line : List ℕ) (event : Event)
    → (event_of verbs line ≡ Ok event) ↔ (Fits event × IsKnown verbs event × (line ≡ spelling event))

-- A line is rejected with a cause if and only if that cause describes the leftmost error in the
-- line (`IsCause`).
abbrev pub FindsCauses : Type 0
FindsCauses = (verbs : List Verb) (line : List ℕ) (why : Cause) → (event_of verbs line ≡ Err why) ↔ IsCause verbs (parts_at 32 line) why

-- A line is parsed as a header if and only if it is the line of that header, the list of versions
-- contains the header's version, and the number of processors is from 1 to 64.
abbrev pub HeadersSpelled : Type 0
HeadersSpelled = (versions : List Version) (line : List ℕ) (head : Header) →
    (header_of versions line ≡ Some head) ↔ (IsAmong head.version versions × (1 ≤ head.cpus) × (head.cpus ≤ 64) × (line ≡ header_line head))

-- The bytes can be a line: they contain no newline, and there are at most 512 bytes.
pub record IsLine (bytes : List ℕ) : Type 0 where
  pub one : EachIndex bytes (λ k. slice_index bytes k ≢ 10)
  pub short : length bytes ≤ 512

-- The spelling of an event whose values are in range is a valid line.
abbrev pub SpelledInLine : Type 0
SpelledInLine = (event : Event) → Fits event → IsLine (spelling event)

-- A header line is a valid line.
abbrev pub HeadedByLine : Type 0
HeadedByLine = (version cpus : ℕ) → version < 2 ^ 64 → cpus < 2 ^ 64 → IsLine (header version cpus)

-- Two events with the same spelling are equal.
abbrev pub SpelledApart : Type 0
SpelledApart = (first second : Event) → Fits first → Fits second → spelling first ≡ spelling second → first ≡ second
