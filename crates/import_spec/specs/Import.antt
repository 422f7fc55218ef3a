-- Defines the import of a whole ftrace text: its trace events, or the first bad line.
use Rattle.std.specs.Prelude.{ℕ, ◌+◌, List, [], ◌∷◌, ◌++◌, length, nat_lt, if◌then◌else◌, Option, None, Some, Result, Ok, Err}
use Rattle.psi_base.specs.Path.{parts_at}
use Rattle.psi_base.specs.declared.event.Act.TheVariants as act
use Rattle.psi_base.specs.declared.event.Event.{Event}
use Rattle.psi_spec.specs.Grammar.{One}
use Rattle.psi_spec.specs.Trace.{Trace}
use Rattle.import_spec.specs.declared.cause.ImportCause.{ImportCause}
use Rattle.import_spec.specs.declared.cause.ImportCause.TheVariants as cause
use Rattle.import_spec.specs.Events.{LineEvents, Reached, events_of_line, unreached}

-- A rejected line: its number (from 1), and the cause.
pub record Refused : Type 0 where
  pub line : ℕ
  pub cause : ImportCause

-- The rejection of line number `line` (from 1) with cause `why`.
abbrev pub import_refused : ℕ → ImportCause → Refused
import_refused line why = record { line = line; cause = why }

-- The maximum number of lines of an ftrace text.
abbrev pub most_text_lines : ℕ
most_text_lines = 16000000

-- The `end` event of the imported trace. Its time is the trace time (ns) of the last marked line.
abbrev pub end_at : Reached → Event
end_at reached = record { at = reached.moment; act = act.End }

-- The result of line number `number`, which is passed without its newline, or the cause of its
-- rejection. A text has at most 16,000,000 lines, and a line has at most 512 bytes.
unfoldable pub yield_of_line : ℕ → Reached → ℕ → List ℕ → Result LineEvents ImportCause
yield_of_line cpus reached number line =
    if nat_lt most_text_lines number then Err cause.TooManyLines
    else if nat_lt 512 (length line) then Err cause.LineTooLong
    else events_of_line cpus reached line

-- The cause for which the bytes after the last newline are rejected, or `None` if there are no such
-- bytes.
unfoldable pub tail_cause : ℕ → List ℕ → Option ImportCause
tail_cause number [] = None
tail_cause number (byte ∷ rest) =
    if nat_lt most_text_lines number then Some cause.TooManyLines
    else if nat_lt 512 (length (byte ∷ rest)) then Some cause.LineTooLong
    else Some cause.Cut

-- The `end` event, or the rejection of line number `number` if the bytes after the last newline are
-- rejected with a cause.
abbrev pub ends_or : Reached → ℕ → Option ImportCause → Result (List Event) Refused
ends_or reached number None = Ok (end_at reached ∷ [])
ends_or reached number (Some why) = Err (import_refused number why)

-- Prepends the events `prefix` to the events of the later lines. A rejection of a later line is
-- returned unchanged.
abbrev pub events_followed : List Event → Result (List Event) Refused → Result (List Event) Refused
events_followed prefix (Ok events) = Ok (prefix ++ events)
events_followed prefix (Err refusal) = Err refusal

-- The events of line number `number`, followed by the events of the later lines, which `suffix`
-- computes. If the line is rejected, the result is its rejection.
abbrev pub or_refused_line : ℕ → Result LineEvents ImportCause → (Reached → Result (List Event) Refused) → Result (List Event) Refused
or_refused_line number (Err why) suffix = Err (import_refused number why)
or_refused_line number (Ok line_events) suffix = events_followed line_events.events (suffix line_events.reached)

-- Imports the parts of a text between newlines: the first part is line number `number`, and the
-- last part is the rest after the last newline. The result is the events, or the first bad line.
unfoldable pub import_from : ℕ → Reached → ℕ → List (List ℕ) → Result (List Event) Refused
import_from cpus reached number [] = Ok (end_at reached ∷ [])
import_from cpus reached number (rest ∷ []) = ends_or reached number (tail_cause number rest)
import_from cpus reached number (line ∷ next ∷ parts) =
    or_refused_line number (yield_of_line cpus reached number line)
    (λ suffix. import_from cpus suffix (number + 1) (next ∷ parts))

-- Imports a text from a machine with `cpus` processors. The result is the events, including `end`,
-- or the first bad line.
unfoldable pub import_of : ℕ → List ℕ → Result (List Event) Refused
import_of cpus bytes = import_from cpus unreached 1 (parts_at 10 bytes)

-- The trace of version 1 with these events on `cpus` processors.
abbrev pub import_trace : ℕ → List Event → Trace
import_trace cpus events = record { version = One; cpus = cpus; events = events }
