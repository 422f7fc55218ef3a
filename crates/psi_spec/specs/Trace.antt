-- Defines how a trace is parsed: the trace that the bytes of a file spell, or the first bad line
-- with its cause.
use Rattle.std.specs.Prelude.{◌≡◌, ℕ, ◌+◌, ◌*◌, ◌≤◌, List, [], ◌∷◌, ◌++◌, length, nat_lt, if◌then◌else◌, Option, None, Some, Result, Ok, Err}
use Rattle.std.specs.List.{flat_map}
use Rattle.psi_base.specs.Path.{parts_at}
use Rattle.psi_base.specs.declared.event.Act.TheVariants as act
use Rattle.psi_base.specs.declared.event.Event.{Event}
use Rattle.psi_base.specs.declared.event.Cause.{Cause}
use Rattle.psi_base.specs.declared.event.Cause.TheVariants as cause
use Rattle.psi_base.specs.declared.event.Refusal.{Refusal}
use Rattle.psi_spec.specs.Grammar.{Fits, Header, IsKnown, Verb, Version, event_of, header, header_of, spelling, verbs_of, version_number}
use Rattle.psi_spec.specs.World.{World, Limits, first_world, after_event, most_cpus}
use Rattle.psi_spec.specs.Refusal.{cause_of, AreLegal}

-- A trace: the version of its format, its number of processors, and its events.
pub record Trace : Type 0 where
  pub version : Version
  pub cpus : ℕ
  pub events : List Event

-- A trace may have this number of processors: 1 to 64.
abbrev pub IsCpuCount : ℕ → Type 0
IsCpuCount cpus = (1 ≤ cpus) × (cpus ≤ most_cpus)

-- The limits of a trace, given the length `tick` (ns) of a tick and the number of processors. The
-- latest time is a million ticks.
abbrev pub limits_of : ℕ → ℕ → Limits
limits_of tick cpus = record { cpus = cpus; latest = 1000000 * tick }

-- ---- the text of a trace

-- The text of events: the spelling of each event, followed by a newline.
abbrev pub lines_of : List Event → List ℕ
lines_of events = flat_map (λ event. spelling event ++ 10 ∷ []) events

-- The text of a trace: the header line followed by the event lines.
abbrev pub text_of : Trace → List ℕ
text_of trace = header (version_number trace.version) trace.cpus ++ 10 ∷ lines_of trace.events

-- The values of each event of the list are in range.
abbrev pub AllFit : List Event → Type 0
AllFit [] = Unit {0}
AllFit (event ∷ events) = Fits event × AllFit events

-- The last event of the list is an `end` event.
abbrev pub EndsLast : List Event → Type 0
EndsLast events = (prefix : List Event) × (at : ℕ) × (events ≡ prefix ++ record { at = at; act = act.End } ∷ [])

-- The events form a trace within the limits: the values of each event are in range, each event is
-- legal in the world before it, and the last event is `end`.
pub record IsAccepted (limits : Limits) (events : List Event) : Type 0 where
  pub fit : AllFit events
  pub legal : AreLegal limits first_world events
  pub ends : EndsLast events

-- The list of verbs contains the verb of each event.
abbrev pub AreKnown : List Verb → List Event → Type 0
AreKnown verbs [] = Unit {0}
AreKnown verbs (event ∷ events) = IsKnown verbs event × AreKnown verbs events

-- The rules by which a parser accepts traces: the tick length (ns), which limits the times; the
-- versions; and the verbs of each version.
pub record Accepts : Type 0 where
  pub tick : ℕ
  pub versions : List Version
  pub verbs : Version → List Verb

-- The rules of a parser that accepts these versions with all their verbs, and this tick length
-- (ns).
abbrev pub accepts_with : List Version → ℕ → Accepts
accepts_with versions tick = record { tick = tick; versions = versions; verbs = verbs_of }

-- ---- parsing one line

-- `if_legal why event`: the error `why`, which is the cause for rejecting the event, or `event` if
-- `why` is `None`.
abbrev pub if_legal : Option Cause → Event → Result Event Cause
if_legal None event = Ok event
if_legal (Some why) event = Err why

-- Checks whether a parsed event is legal in world `w` (the tasks and groups before the event). The
-- result is the event, or the first cause against it. An error of the parser is returned unchanged.
abbrev pub then_legal : Limits → World → Result Event Cause → Result Event Cause
then_legal limits w (Err why) = Err why
then_legal limits w (Ok event) = if_legal (cause_of limits w event) event

-- Parses a line after the header, without its newline. `w` is the world (the tasks and groups)
-- before the line. The error is the first cause that applies: the trace has ended, the line is
-- longer than 512 bytes, it spells no event with a verb of the list, or the event isn't legal.
unfoldable pub line_event : List Verb → Limits → World → List ℕ → Result Event Cause
line_event verbs limits w line =
    if w.ended then Err cause.AfterEnd else if nat_lt 512 (length line) then Err cause.LineTooLong
    else then_legal limits w (event_of verbs line)

-- The cause for which the bytes `rest` after the last newline are rejected, or `None`. After an
-- `end` line, `rest` must be empty. Before an `end` line, the input must not end.
unfoldable pub rest_cause : World → List ℕ → Option Cause
rest_cause w rest =
    if w.ended then (if nat_lt 0 (length rest) then Some cause.AfterEnd else None) else if nat_lt 512 (length rest)
    then Some cause.LineTooLong else Some cause.NoEnd

-- The parsed header, or the error BadHeader if the header is `None`.
abbrev pub or_bad_header : Option Header → Result Header Cause
or_bad_header None = Err cause.BadHeader
or_bad_header (Some head) = Ok head

-- Parses the first line, which must be a header of at most 512 bytes.
unfoldable pub first_line : List Version → List ℕ → Result Header Cause
first_line versions line = if nat_lt 512 (length line) then Err cause.LineTooLong else or_bad_header (header_of versions line)

-- The cause of rejection for an input that ends before its first newline.
unfoldable pub first_rest : List ℕ → Cause
first_rest rest = if nat_lt 512 (length rest) then cause.LineTooLong else cause.BadHeader

-- ---- parsing all lines

-- The refusal of line number `line` (from 1) with cause `why`.
abbrev pub refused : ℕ → Cause → Refusal
refused line why = record { line = line; cause = why }

-- `at_end line why`: the result for the bytes after the last newline, which are line number `line`.
-- The result is the refusal of this line with cause `why`, or no further events if `why` is `None`.
abbrev pub at_end : ℕ → Option Cause → Result (List Event) Refusal
at_end line None = Ok []
at_end line (Some why) = Err (refused line why)

-- Prepends the events `prefix` to the events of the later lines. A refusal of a later line is
-- returned unchanged.
abbrev pub followed : List Event → Result (List Event) Refusal → Result (List Event) Refusal
followed prefix (Ok events) = Ok (prefix ++ events)
followed prefix (Err refusal) = Err refusal

-- Applies `next` to the parsed content of line number `line`. If the line was rejected, the result
-- is the refusal of this line.
abbrev pub or_refused : {A : Type 0} → ℕ → Result A Cause → (A → Result (List Event) Refusal) → Result (List Event) Refusal
or_refused line (Err why) next = Err (refused line why)
or_refused line (Ok event) next = next event

-- Parses the parts of the input between newlines. The first part is line number `line`, and the
-- last part is the incomplete line after the last newline. The result is the events, or the first
-- bad line and its cause. `w` is the world (the tasks and groups) before the first part.
unfoldable pub events_from : List Verb → Limits → World → ℕ → List (List ℕ) → Result (List Event) Refusal
events_from verbs limits w line [] = at_end line (rest_cause w [])
events_from verbs limits w line (rest ∷ []) = at_end line (rest_cause w rest)
events_from verbs limits w line (part ∷ next ∷ parts) =
    or_refused line (line_event verbs limits w part) (λ event. followed (event ∷ [])
    (events_from verbs limits (after_event w event) (line + 1) (next ∷ parts)))

-- Makes a trace from a header and its events. The refusal of an event line is returned unchanged.
abbrev pub with_events : Header → Result (List Event) Refusal → Result Trace Refusal
with_events head (Ok events) = Ok (record { version = head.version; cpus = head.cpus; events = events })
with_events head (Err refusal) = Err refusal

-- Parses the lines after a parsed header. If the header is bad, the result is a refusal at line 1.
abbrev pub headed : Accepts → Result Header Cause → List (List ℕ) → Result Trace Refusal
headed accepts (Err why) parts = Err (refused 1 why)
headed accepts (Ok head) parts =
    with_events head (events_from (accepts.verbs head.version) (limits_of accepts.tick head.cpus) first_world 2 parts)

-- Parses the parts of the input between newlines as a trace. The first part is the header.
unfoldable pub trace_of_parts : Accepts → List (List ℕ) → Result Trace Refusal
trace_of_parts accepts [] = Err (refused 1 cause.BadHeader)
trace_of_parts accepts (rest ∷ []) = Err (refused 1 (first_rest rest))
trace_of_parts accepts (line ∷ next ∷ parts) = headed accepts (first_line accepts.versions line) (next ∷ parts)

-- Parses bytes as a trace, according to the rules `accepts`. The error is the number of the first
-- bad line and the first cause against it.
unfoldable pub trace_of : Accepts → List ℕ → Result Trace Refusal
trace_of accepts bytes = trace_of_parts accepts (parts_at 10 bytes)
