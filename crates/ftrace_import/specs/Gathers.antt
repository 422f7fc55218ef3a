-- Defines the results of collecting the events of an ftrace text. A `Gathering` is the state of an
-- import: the stored events, the table of tasks after them, and the times of the marked lines.
use Rattle.std.specs.Prelude.{◌≡◌, ℕ, ◌+◌, ◌-◌, ◌≤◌, List, [], ◌∷◌, ◌++◌, length, take, Bool, true, false, Option, None, Some, OnOk, IsErrOf, Result, Ok, Err, ⊤}
use Rattle.outside.specs.Outside.{HasCauses, ShelfCounts}
use Rattle.outside.specs.Reads.{ReadCall, ReadsFile, ReadsFrom}
use Rattle.outside.specs.Reads.Progress.{Next}
use Rattle.outside.specs.declared.shelf.ShelfFault.{ShelfFault}
use Rattle.outside.specs.declared.shelf.ShelfFault.TheVariants as shelf
use Rattle.psi_base.specs.Path.{parts_at}
use Rattle.psi_base.specs.declared.event.Event.{Event}
use Rattle.psi_base.specs.declared.event.Fault.{Fault}
use Rattle.psi_base.specs.declared.event.Fault.TheVariants as fault
use Rattle.psi_spec.specs.World.{after_from, first_world}
use Rattle.psi_lines.specs.Lines.{HasNoNewline, Reader, left, line_count}
use Rattle.psi_lines.specs.Next.{furthest}
use Rattle.psi_lines.specs.declared.lines.LineFault.{LineFault}
use Rattle.psi_lines.specs.declared.lines.LineFault.TheVariants as lines
use Rattle.import_spec.specs.declared.cause.ImportCause.{ImportCause}
use Rattle.import_spec.specs.declared.cause.ImportCause.TheVariants as cause
use Rattle.import_spec.specs.Events.{LineEvents, Reached, unreached}
use Rattle.import_spec.specs.Import.{Refused, end_at, events_followed, import_from, import_of, import_refused}
use Rattle.ftrace_import.specs.declared.taking.Gathering.{Gathering}
use Rattle.ftrace_import.specs.declared.text.ImportFault.{ImportFault}
use Rattle.ftrace_import.specs.declared.text.ImportFault.TheVariants as import
use Rattle.ftrace_import.specs.Deeds.{events_by}
use Rattle.ftrace_import.specs.Stands.{Ends, IsUnderWay, Run, limits}

-- ---- line by line

-- Returns the progress of an import: the time of the first marked line, the trace time of the last
-- marked line, and the world (the state of all tasks and groups) after the stored events.
abbrev pub reached_in : Gathering → Reached
reached_in g = record { first = g.first; moment = g.moment; world = g.table.world }

-- `IsGathered g`: the invariant of an import between two lines. The table has the limits of the
-- import, and its world is the world after the stored events. These events are legal and can be
-- written as lines of a trace.
pub record IsGathered (g : Gathering) : Type 0 where
  pub limits_are : g.table.limits ≡ limits g.cpus
  pub under : IsUnderWay g.cpus (reached_in g)
  pub run : Run g.cpus first_world (events_by g.kept.items)
  pub after_them : g.table.world ≡ after_from first_world (events_by g.kept.items)

-- `HasTaken line_events old new`: the line was accepted, and its events were appended to the stored
-- events. `new` is the state after the line, and satisfies the invariant.
pub record HasTaken (line_events : Result LineEvents ImportCause) (old new : Gathering) : Type 0 where
  pub suffix : LineEvents
  pub is : line_events ≡ Ok suffix
  pub kept : events_by new.kept.items ≡ events_by old.kept.items ++ suffix.events
  pub reached : reached_in new ≡ suffix.reached
  pub cpus : new.cpus ≡ old.cpus
  pub so : IsGathered new

-- `TakesLine line_events old new result`: the result of importing one line. `line_events` has the
-- events that import_spec defines for the line, or the reason for rejecting it. The events were
-- stored, or `result` is this reason, or memory ran out.
abbrev pub TakesLine : Result LineEvents ImportCause → Gathering → Gathering → Result (Unit {0}) (Fault ImportCause) → Type 0
TakesLine line_events old new (Ok done) = HasTaken line_events old new
TakesLine line_events old new (Err (fault.Refused why)) = line_events ≡ Err why
TakesLine line_events old new (Err (fault.NoMemory _)) = ⊤

-- ---- reading the lines of a file

-- `rest_from cpus reached number bytes`: the events of the remaining bytes of a text, or the
-- rejection of one of their lines. `cpus` is the number of processors, `reached` the progress of
-- the import before these bytes, and `number` the number of the first remaining line (from 1).
abbrev pub rest_from : ℕ → Reached → ℕ → List ℕ → Result (List Event) Refused
rest_from cpus reached number bytes = import_from cpus reached number (parts_at 10 bytes)

-- `RefusalOf fault read`: if `fault` reports a rejected line, `read` reports the same line and
-- cause. `read` is the result that import_spec defines. Any other `fault` is allowed.
abbrev pub RefusalOf : ImportFault → Result (List Event) Refused → Type 0
RefusalOf (import.Refused number why) read = read ≡ Err (import_refused number why)
RefusalOf import.NoFile read = ⊤
RefusalOf import.ReadFault read = ⊤
RefusalOf (import.NoMemory _) read = ⊤

-- `IsLineFault number fault result`: if line `number` fails with `fault`, the import fails with
-- `result`.
abbrev pub IsLineFault : ℕ → Fault ImportCause → ImportFault → Type 0
IsLineFault number (fault.Refused why) result = result ≡ import.Refused number why
IsLineFault number (fault.NoMemory none) result = result ≡ import.NoMemory none

-- Converts the error of reading a line to the error of the import.
abbrev pub import_fault : LineFault → ImportFault
import_fault (lines.TooLong number) = import.Refused number cause.LineTooLong
import_fault (lines.Cut number) = import.Refused number cause.Cut
import_fault lines.NoFile = import.NoFile
import_fault lines.ReadFault = import.ReadFault
import_fault (lines.NoMemory none) = import.NoMemory none

-- `LineTaken number old new before suffix known`: line `number` was imported. `before` and `suffix`
-- are functions from the content of the file to the bytes that remain before and after the call. If
-- the content is known, the import of the bytes before the call gives the line's events, followed
-- by the import of the bytes after the call.
pub record LineTaken (number : ℕ) (old new : Gathering) (before suffix : List ℕ → List ℕ) (known : Option (List ℕ)) : Type 0 where
  pub so : IsGathered new
  pub cpus : new.cpus ≡ old.cpus
  pub events : List Event
  pub kept : events_by new.kept.items ≡ events_by old.kept.items ++ events
  pub read : (bytes : List ℕ) → known ≡ Some bytes → rest_from old.cpus (reached_in old) number (before bytes)
      ≡ events_followed events (rest_from old.cpus (reached_in new) (number + 1) (suffix bytes))

-- `NextGives number old new before suffix known result`: the result of reading and importing line
-- `number`. It is true if the line was imported, false at the end of the file, or an error.
-- `before`, `suffix` and `known` have the same meaning as in `LineTaken`.
abbrev pub NextGives : ℕ → Gathering → Gathering → (List ℕ → List ℕ) → (List ℕ → List ℕ) → Option (List ℕ) → Result Bool ImportFault
    → Type 0
NextGives number old new before suffix known (Ok true) = LineTaken number old new before suffix known
NextGives number old new before suffix known (Ok false) =
    (new ≡ old) × ((bytes : List ℕ) → known ≡ Some bytes
    → rest_from old.cpus (reached_in old) number (before bytes) ≡ Ok (end_at (reached_in old) ∷ []))
NextGives number old new before suffix known (Err fault) =
    (bytes : List ℕ) → known ≡ Some bytes → RefusalOf fault (rest_from old.cpus (reached_in old) number (before bytes))

-- `CausesImportFault before now result`: the counts of failed reads and of missing files increased
-- from `before` to `now` if and only if `result` reports such a failure.
abbrev pub CausesImportFault : {A : Type 0} → ShelfCounts → ShelfCounts → Result A ImportFault → Type 0
CausesImportFault before now result = HasCauses before now (IsErrOf result import.ReadFault) (IsErrOf result import.NoFile)

-- Returns the failure of file access that an import's error reports: a missing file or a failed
-- read. Returns `None` for any other error.
abbrev pub shelf_fault : ImportFault → Option ShelfFault
shelf_fault (import.Refused number why) = None
shelf_fault import.NoFile = Some shelf.NoFile
shelf_fault import.ReadFault = Some shelf.Failed
shelf_fault (import.NoMemory _) = None

-- Returns the failure of file access that a result reports: a missing file or a failed read.
-- Returns `None` for any other result.
abbrev pub shelf_fault_in : {A : Type 0} → Result A ImportFault → Option ShelfFault
shelf_fault_in (Ok x) = None
shelf_fault_in (Err found) = shelf_fault found

-- `LineInOrder name at place before now result`: the reads for one line were appended to the log of
-- reads. They continue from offset `at` to offset `place` (bytes), or up to a failed read or the
-- end of the file.
abbrev pub LineInOrder : List ℕ → ℕ → ℕ → List ReadCall → List ReadCall → Result Bool ImportFault → Type 0
LineInOrder name at place before now (Ok true) = ReadsFrom name (Next at) before now (Next place)
LineInOrder name at place before now (Ok false) = ReadsFile name at before now None
LineInOrder name at place before now (Err found) = ReadsFile name at before now (shelf_fault found)

-- `ReadsLine known old new counts counts_now bytes_read read_now result`: the effect of reading the
-- next line on the reader and on the counts of failures. The effect doesn't depend on the content
-- of the line. `bytes_read` and `read_now` are the numbers of bytes read before and after the call.
pub record ReadsLine {A : Type 0} (known : Option (List ℕ)) (old new : Reader) (counts counts_now : ShelfCounts) (bytes_read read_now : ℕ)
    (result : Result A ImportFault) : Type 0 where
  pub name : new.name ≡ old.name
  pub number : OnOk result (new.number ≤ old.number + 1)
  pub missed : IsErrOf result import.NoFile → known ≡ None
  pub cause : CausesImportFault counts counts_now result
  pub counted : read_now + old.at ≡ bytes_read + new.at
  pub place : new.at ≤ furthest old.number

-- `KeepsLines known old new result`: `old` and `new` are the reader before and after it read a
-- line. The number of the next line plus the number of remaining lines stays the same. If the read
-- failed, the next line stays the same, and no complete line is buffered. If a line is rejected,
-- its number is `old.number`.
pub record KeepsLines {A : Type 0} (known : Option (List ℕ)) (old new : Reader) (result : Result A ImportFault) : Type 0 where
  pub lines : (bytes : List ℕ) → known ≡ Some bytes → new.number + line_count (left new bytes) ≡ old.number + line_count (left old bytes)
  pub failed : IsErrOf result import.ReadFault → (new.number ≡ old.number)
      × ((bytes : List ℕ) → known ≡ Some bytes → HasNoNewline new.buffered (length new.buffered))
  pub refused : (number : ℕ) (why : ImportCause) → IsErrOf result (import.Refused number why) → number ≡ old.number

-- `StopsAtRefusal read known bytes_read read_now result`: reading stops at the first rejected line.
-- `bytes_read` and `read_now` are the numbers of bytes read before and after the import, and `read`
-- maps a file's content to the specified result. If line `number` is rejected, the import reads at
-- most `furthest number` bytes: the greatest size of the earlier lines, and one full buffer. If a
-- read fails, the bytes read so far end within the first rejected line or before it.
abbrev pub StopsAtRefusal : {A : Type 0} → (List ℕ → Result (List Event) Refused) → Option (List ℕ) → ℕ → ℕ → Result A ImportFault → Type 0
StopsAtRefusal read known bytes_read read_now (Ok x) = ⊤
StopsAtRefusal read known bytes_read read_now (Err (import.Refused number why)) = read_now ≤ bytes_read + furthest number
StopsAtRefusal read known bytes_read read_now (Err import.NoFile) = ⊤
StopsAtRefusal read known bytes_read read_now (Err import.ReadFault) =
    (bytes : List ℕ) (refusal : Refused) → known ≡ Some bytes → read bytes ≡ Err refusal
    → line_count (take (read_now - bytes_read) bytes) ≤ refusal.line
StopsAtRefusal read known bytes_read read_now (Err (import.NoMemory _)) = ⊤

-- `ShowsNothing result`: the result is an error that doesn't depend on the file's bytes: `NoFile`,
-- `ReadFault` or `NoMemory`.
abbrev pub ShowsNothing : {A : Type 0} → Result A ImportFault → Type 0
ShowsNothing (Ok x) = ⊥
ShowsNothing (Err (import.Refused number why)) = ⊥
ShowsNothing (Err import.NoFile) = ⊤
ShowsNothing (Err import.ReadFault) = ⊤
ShowsNothing (Err (import.NoMemory _)) = ⊤

-- ---- a whole text

-- Returns all events of an import, including the end of the trace.
abbrev pub whole_events : Gathering → List Event
whole_events g = events_by g.kept.items ++ end_at (reached_in g) ∷ []

-- `LinesGive cpus new before known result`: the result of importing all lines of a file. `before`
-- maps the content of the file to the bytes that haven't been read yet.
abbrev pub LinesGive : ℕ → Gathering → (List ℕ → List ℕ) → Option (List ℕ) → Result (Unit {0}) ImportFault → Type 0
LinesGive cpus new before known (Ok done) =
    IsGathered new × (new.cpus ≡ cpus) × ((bytes : List ℕ) → known ≡ Some bytes
    → rest_from cpus unreached 1 (before bytes) ≡ Ok (whole_events new))
LinesGive cpus new before known (Err fault) =
    (bytes : List ℕ) → known ≡ Some bytes → RefusalOf fault (rest_from cpus unreached 1 (before bytes))

-- The maximum number of bytes that an import reads: the greatest offset of a reader after
-- 16,000,000 lines.
abbrev pub most_of_text : ℕ
most_of_text = furthest 16000001

-- `AllTaken cpus g known`: all lines of a file were imported, and their events with the end form a
-- legal trace. If the file's bytes are known, these are the events that import_spec defines for the
-- bytes.
pub record AllTaken (cpus : ℕ) (g : Gathering) (known : Option (List ℕ)) : Type 0 where
  pub so : IsGathered g
  pub cpus_are : g.cpus ≡ cpus
  pub ends : Ends cpus first_world (whole_events g)
  pub read : (bytes : List ℕ) → known ≡ Some bytes → import_of cpus bytes ≡ Ok (whole_events g)

-- `Gathers cpus known result`: the result of importing a text. If the file's content `known` isn't
-- `None`, the result agrees with the definition `import_of` of import_spec.
abbrev pub Gathers : ℕ → Option (List ℕ) → Result Gathering ImportFault → Type 0
Gathers cpus known (Ok g) = AllTaken cpus g known
Gathers cpus known (Err fault) = (bytes : List ℕ) → known ≡ Some bytes → RefusalOf fault (import_of cpus bytes)
