-- Defines how a line of an ftrace text is parsed. A *marked* line contains the name of a tracepoint
-- that is imported; other lines are ignored.
use Rattle.std.specs.Prelude.{ℕ, ◌+◌, List, [], ◌∷◌, take, drop, length, find, Bool, if◌then◌else◌, codes, Option, None, Some, is_some, Result, Ok, Err}
use Rattle.import_spec.specs.declared.cause.ImportCause.{ImportCause}
use Rattle.import_spec.specs.declared.cause.ImportCause.TheVariants as cause
use Rattle.import_spec.specs.declared.seen.LineKind.{LineKind}
use Rattle.import_spec.specs.declared.seen.LineKind.TheVariants as kind
use Rattle.import_spec.specs.declared.seen.Seen.{Seen}
use Rattle.import_spec.specs.declared.seen.Seen.TheVariants as seen
use Rattle.import_spec.specs.declared.seen.Sighting.{Sighting}
use Rattle.psi_base.specs.OptionSteps.{◌>>=◌}
use Rattle.import_spec.specs.Places.{begins_with, after_last, first_place, last_place}
use Rattle.import_spec.specs.Tails.{cpu_in, field_in, how_in, pid_in, time_in}

-- ---- the marks of imported lines

-- A mark: the name of a tracepoint as it occurs in a line, and the kind of the lines that contain
-- it.
pub record Mark : Type 0 where
  pub text : List ℕ
  pub kind : LineKind

-- Makes a mark from its text and the kind of its lines.
abbrev pub mark : List ℕ → LineKind → Mark
mark text which = record { text = text; kind = which }

-- The marks of all tracepoints that are imported.
abbrev pub marks : List Mark
marks =
    mark (codes ": sched_switch: ") kind.Switch
    ∷ mark (codes ": sched_wakeup: ") kind.Wakeup
    ∷ mark (codes ": sched_wakeup_new: ") kind.Wakeup
    ∷ mark (codes ": sched_migrate_task: ") kind.Migration ∷ []

-- The mark at the beginning of the bytes, or `None` if the bytes begin with no mark.
unfoldable pub mark_of : List ℕ → Option Mark
mark_of bytes = find (λ (each : Mark). begins_with each.text bytes) marks

-- Whether the bytes begin with a mark.
abbrev pub begins_marked : List ℕ → Bool
begins_marked bytes = is_some (mark_of bytes)

-- A marked line, split at its mark: its kind, the bytes before the mark (the head), and the bytes
-- after the mark (the tail).
pub record Marked : Type 0 where
  pub kind : LineKind
  pub head : List ℕ
  pub tail : List ℕ

-- Splits a line at its leftmost mark. The result is `None` if the line contains no mark or begins
-- with `#`.
unfoldable pub marked_of : List ℕ → Option Marked
marked_of line = if begins_with (codes "#") line then None else do
  at ← first_place begins_marked line
  found ← mark_of (drop at line)
  Some (record { kind = found.kind; head = take at line; tail = drop (at + length found.text) line })

-- ---- the content of a marked line

-- Parses the tail of a `sched_switch` line on processor `cpu`: the previous task before the last
-- arrow, and the next task after the arrow. The result is `None` if the tail is malformed.
unfoldable pub switch_in : ℕ → List ℕ → Option Seen
switch_in cpu tail = do
  arrow ← last_place (begins_with (codes " ==> ")) tail
  previous ← field_in (codes " prev_pid=") (take arrow tail)
  state ← after_last (codes " prev_state=") (take arrow tail)
  how ← how_in state
  next ← field_in (codes " next_pid=") (drop (arrow + length (codes " ==> ")) tail)
  Some (seen.Switch (record { 0 = cpu }) (pid_in previous) (pid_in next) how)

-- Parses the tail of a wakeup line. The result is `None` if the tail is malformed.
unfoldable pub wakeup_in : List ℕ → Option Seen
wakeup_in tail = do
  number ← field_in (codes " pid=") tail
  pid ← pid_in number
  target ← field_in (codes " target_cpu=") tail
  Some (seen.Wakeup pid (record { 0 = target }))

-- Parses the tail of a migration line. The result is `None` if the tail is malformed.
unfoldable pub migration_in : List ℕ → Option Seen
migration_in tail = do
  number ← field_in (codes " pid=") tail
  pid ← pid_in number
  target ← field_in (codes " dest_cpu=") tail
  Some (seen.Migration pid (record { 0 = target }))

-- Parses the tail of a line of a given kind on processor `cpu`. The result is `None` if the tail is
-- malformed.
abbrev pub seen_in : LineKind → ℕ → List ℕ → Option Seen
seen_in kind.Switch cpu tail = switch_in cpu tail
seen_in kind.Wakeup cpu tail = wakeup_in tail
seen_in kind.Migration cpu tail = migration_in tail

-- Parses a marked line: its time and what it reports. The result is `None` if the line is
-- malformed.
unfoldable pub sighting_of : Marked → Option Sighting
sighting_of line = do
  time ← time_in line.head
  cpu ← cpu_in line.head
  what ← seen_in line.kind cpu line.tail
  Some (record { at = time; seen = what })

-- The parsed content of a marked line, or the cause BadLine if the line is malformed.
abbrev pub if_formed : Option Sighting → Result (Option Sighting) ImportCause
if_formed None = Err cause.BadLine
if_formed (Some sighting) = Ok (Some sighting)

-- Parses an optional marked line. `None` is an unmarked line, which has no content.
abbrev pub read_marked : Option Marked → Result (Option Sighting) ImportCause
read_marked None = Ok None
read_marked (Some line) = if_formed (sighting_of line)

-- Parses a line without its newline: its time and what it reports. The result is `Ok None` if the
-- line isn't marked, and the cause BadLine if the line is marked but malformed.
unfoldable pub read_line : List ℕ → Result (Option Sighting) ImportCause
read_line line = read_marked (marked_of line)
