-- Defines the results of reading a trace from a file store (`Shelf`): which events were played,
-- which bytes were read, and how the result follows from the file's bytes if these are known. The
-- parameter `known` is the content of the file, or `None` if it is unknown.
use Rattle.std.specs.Prelude.{◌≡◌, ◌≢◌, ℕ, ◌+◌, ◌<◌, ◌≤◌, ◌-◌, List, [], ◌∷◌, ◌++◌, length, take, Option, None, Some, Result, Ok, Err, IsErrOf, OnOk, ⊤, true, false}
use Rattle.outside.specs.Outside.{HasCauses, ShelfCounts}
use Rattle.outside.specs.Reads.{ReadCall, ReadsFile, ReadsFrom}
use Rattle.outside.specs.Reads.Progress.{Next}
use Rattle.outside.specs.declared.shelf.ShelfFault.{ShelfFault}
use Rattle.outside.specs.declared.shelf.ShelfFault.TheVariants as shelf
use Rattle.psi_base.specs.Path.{parts_at}
use Rattle.psi_base.specs.declared.event.Event.{Event}
use Rattle.psi_base.specs.declared.event.Refusal.{Refusal}
use Rattle.psi_base.specs.declared.event.Cause.{Cause}
use Rattle.psi_base.specs.declared.event.Cause.TheVariants as cause
use Rattle.psi_base.specs.declared.event.Fault.{Fault}
use Rattle.psi_base.specs.declared.event.Fault.TheVariants as fault
use Rattle.psi_spec.specs.World.{World, Limits, after, first_world, most_events}
use Rattle.psi_spec.specs.Refusal.{AreLegal}
use Rattle.psi_spec.specs.Grammar.{One, Verb, Version, verbs_of, versions}
use Rattle.psi_spec.specs.Header.{IsVersion, header_with, version_of}
use Rattle.psi_spec.specs.Trace.{AllFit, AreKnown, IsAccepted, IsCpuCount, Trace, accepts_with, events_from, followed, limits_of, line_event, refused, trace_of, with_events}
use Rattle.psi_lines.specs.Lines.{HasNoNewline, Reader, left, line_count}
use Rattle.psi_lines.specs.Next.{furthest}
use Rattle.psi_lines.specs.declared.lines.LineFault.{LineFault}
use Rattle.psi_lines.specs.declared.lines.LineFault.TheVariants as lines
use Rattle.psi_trace.specs.declared.header.Header.{Header}
use Rattle.trace_player.specs.Playing.{IsPlayed, PlayerTakes, Plays}
use Rattle.proc_plan.specs.Plans.{PlansView, Represent}
use Rattle.trace_file.specs.declared.trace.TraceFault.{TraceFault}
use Rattle.trace_file.specs.declared.trace.TraceFault.TheVariants.{Refused, NoFile, ReadFault, NoMemory}

-- ---- players of a trace

-- `HasKept cpus kept limits_now w limits events`: the invariant of a `Keeper`, which plays the
-- events of a trace and stores them. Its table of tasks has played `events`, the list `kept` has
-- these events, and `cpus` is the number of processors in the limits.
pub record HasKept (cpus : ℕ) (kept : List Event) (limits_now : Limits) (w : World) (limits : Limits) (events : List Event) : Type 0 where
  pub played : IsPlayed limits_now w limits events
  pub kept_are : kept ≡ events
  pub cpus_are : cpus ≡ limits.cpus

-- `Legally verbs Played`: like `Played`, but with two more conditions: the events are legal in this
-- order, and they can be written as lines with the verbs in the list.
abbrev pub Legally : List Verb → Plays → Plays
Legally verbs Played limits events = Played limits events × AllFit events × AreKnown verbs events × AreLegal limits first_world events

-- `TakesRead Before After read result`: the event of a parsed line is played, or the result is the
-- fault that the parser found. `Before` and `After` are the properties of the player before and
-- after the call.
abbrev pub TakesRead : Plays → Plays → Result Event (Fault Cause) → Result (Unit {0}) (Fault Cause) → Type 0
TakesRead Before After (Ok event) result = PlayerTakes Before After event result
TakesRead Before After (Err why) result = result ≡ Err why

-- ---- a single line

-- `TakesLine verbs Before After line result`: the effect of reading and playing a line, if the
-- trace hasn't ended. Either the line's event is played after fewer than 4,000,000 earlier events,
-- or the line is rejected with the cause that psi_spec's `line_event` returns.
abbrev pub TakesLine : List Verb → Plays → Plays → List ℕ → Result (Unit {0}) (Fault Cause) → Type 0
TakesLine verbs Before After line (Ok x) =
    (limits : Limits) (events : List Event) → Before limits events → (after events).ended ≡ false
    → (event : Event) × (line_event verbs limits (after events) line ≡ Ok event) × After limits (events ++ event ∷ [])
    × (length events < most_events)
TakesLine verbs Before After line (Err (fault.Refused why)) =
    (limits : Limits) (events : List Event) → Before limits events → (after events).ended ≡ false
    → line_event verbs limits (after events) line ≡ Err why
TakesLine verbs Before After line (Err (fault.NoMemory _)) = ⊤

-- `rest_from verbs limits w line bytes`: the events of the remaining bytes, parsed with these
-- verbs. `w` is the scheduler state (`World`) before the events, and `line` is the number of the
-- first remaining line.
abbrev pub rest_from : List Verb → Limits → World → ℕ → List ℕ → Result (List Event) Refusal
rest_from verbs limits w line bytes = events_from verbs limits w line (parts_at 10 bytes)

-- `RefusalOf fault read`: if `fault` is a rejection, it is the rejection in `read`, the specified
-- result. Other faults aren't constrained.
abbrev pub RefusalOf : {A : Type 0} → TraceFault → Result A Refusal → Type 0
RefusalOf (Refused refusal) read = read ≡ Err refusal
RefusalOf NoFile read = ⊤
RefusalOf ReadFault read = ⊤
RefusalOf (NoMemory _) read = ⊤

-- `IsTraceFault line fault result`: `result` is the fault `fault` of line number `line` (from 1),
-- converted to a fault of the trace.
abbrev pub IsTraceFault : ℕ → Fault Cause → TraceFault → Type 0
IsTraceFault line (fault.Refused why) result = result ≡ Refused (refused line why)
IsTraceFault line (fault.NoMemory none) result = result ≡ NoMemory none

-- `trace_fault cut fault`: converts the fault of reading a line to a fault of the trace. If the end
-- of the input cuts off the line, the line is rejected with the cause `cut`.
abbrev pub trace_fault : Cause → LineFault → TraceFault
trace_fault cut (lines.TooLong line) = Refused (refused line cause.LineTooLong)
trace_fault cut (lines.Cut line) = Refused (refused line cut)
trace_fault cut lines.NoFile = NoFile
trace_fault cut lines.ReadFault = ReadFault
trace_fault cut (lines.NoMemory none) = NoMemory none

-- `NextPlayed verbs After limits events line before after_bytes known`: one more event was played
-- after `events`. `line` is the number of its line. `before` and `after_bytes` map the content of
-- the file to the remaining bytes before and after the call. If the content is known, the event is
-- the first event of the remaining bytes before the call.
pub record NextPlayed (verbs : List Verb) (After : Plays) (limits : Limits) (events : List Event) (line : ℕ)
    (before after_bytes : List ℕ → List ℕ) (known : Option (List ℕ)) : Type 0 where
  pub event : Event
  pub played : After limits (events ++ event ∷ [])
  pub few : length events < most_events
  pub read : (bytes : List ℕ) → known ≡ Some bytes → rest_from verbs limits (after events) line (before bytes)
      ≡ followed (event ∷ []) (rest_from verbs limits (after (events ++ event ∷ [])) (line + 1) (after_bytes bytes))

-- `NextGives verbs Before After line before after_bytes known result`: the result of reading and
-- playing line number `line`, if the trace hasn't ended. Either an event was played, or the line is
-- rejected as specified. `before` and `after_bytes` map the content of the file to the remaining
-- bytes before and after the call.
abbrev pub NextGives : List Verb → Plays → Plays → ℕ → (List ℕ → List ℕ) → (List ℕ → List ℕ) → Option (List ℕ)
    → Result (Unit {0}) TraceFault → Type 0
NextGives verbs Before After line before after_bytes known (Ok x) =
    (limits : Limits) (events : List Event) → Before limits events → (after events).ended ≡ false
    → NextPlayed verbs After limits events line before after_bytes known
NextGives verbs Before After line before after_bytes known (Err fault) =
    (limits : Limits) (events : List Event) → Before limits events → (after events).ended ≡ false → (bytes : List ℕ)
    → known ≡ Some bytes → RefusalOf fault (rest_from verbs limits (after events) line (before bytes))

-- `TailGives line bytes result`: the result of checking that nothing follows the `end` line.
-- `bytes` are the bytes after it, and `line` is the number of the next line. Either there are no
-- bytes, or the next line is rejected with the cause `AfterEnd`.
abbrev pub TailGives : {A : Type 0} → ℕ → List ℕ → Result A TraceFault → Type 0
TailGives line bytes (Ok x) = bytes ≡ []
TailGives line bytes (Err (Refused refusal)) = (bytes ≢ []) × (refusal ≡ refused line cause.AfterEnd)
TailGives line bytes (Err NoFile) = ⊤
TailGives line bytes (Err ReadFault) = ⊤
TailGives line bytes (Err (NoMemory _)) = ⊤

-- ---- all lines of a trace

-- `RestPlayed verbs Played limits before known`: all events after the header were played, up to the
-- end of the trace. `before` maps the content of the file to the bytes after the header. If the
-- content is known, the events are those that these bytes represent.
pub record RestPlayed (verbs : List Verb) (Played : Plays) (limits : Limits) (before : List ℕ → List ℕ)
    (known : Option (List ℕ)) : Type 0 where
  pub events : List Event
  pub played : Played limits events
  pub ended : (after events).ended ≡ true
  pub read : (bytes : List ℕ) → known ≡ Some bytes → rest_from verbs limits first_world 2 (before bytes) ≡ Ok events

-- `RestGives verbs Played limits before known result`: the result of reading and playing the lines
-- after the header. `before` maps the content of the file to the bytes after the header.
abbrev pub RestGives : List Verb → Plays → Limits → (List ℕ → List ℕ) → Option (List ℕ) → Result (Unit {0}) TraceFault → Type 0
RestGives verbs Played limits before known (Ok x) = RestPlayed verbs Played limits before known
RestGives verbs Played limits before known (Err fault) =
    (bytes : List ℕ) → known ≡ Some bytes → RefusalOf fault (rest_from verbs limits first_world 2 (before bytes))

-- `verbs_in number`: the verbs of the trace version with this number.
abbrev pub verbs_in : ℕ → List Verb
verbs_in number = verbs_of (version_of number)

-- `HeadGives tick before after result`: the result of reading the header of the bytes `before`. If
-- a header was read, the bytes `after` follow it, and the whole trace consists of the header and
-- the events of `after`. If the header was rejected, the whole trace is rejected in the same way.
-- `tick` is the length (ns) of a tick.
abbrev pub HeadGives : ℕ → List ℕ → List ℕ → Result Header TraceFault → Type 0
HeadGives tick before after (Ok head) =
    trace_of (accepts_with versions tick) before ≡ with_events (header_with head.version head.cpus)
    (rest_from (verbs_in head.version) (limits_of tick head.cpus) first_world 2 after)
HeadGives tick before after (Err fault) = RefusalOf fault (trace_of (accepts_with versions tick) before)

-- `IsHead head`: the header has a valid version number and a valid number of processors.
pub record IsHead (head : Header) : Type 0 where
  pub numbered : IsVersion head.version
  pub counted : IsCpuCount head.cpus

-- `trace_with version cpus events`: the trace with this version, number of processors and events.
abbrev pub trace_with : Version → ℕ → List Event → Trace
trace_with version cpus events = record { version = version; cpus = cpus; events = events }

-- `plain_trace cpus events`: the trace of version 1 with this number of processors and these
-- events.
abbrev pub plain_trace : ℕ → List Event → Trace
plain_trace cpus events = trace_with One cpus events

-- `TracePlayed Played number tick known`: all events of an accepted trace were played. `number` is
-- the number of its version, and `tick` is the length (ns) of a tick. If the content of the file is
-- known, it is the text of the trace.
pub record TracePlayed (Played : Plays) (number tick : ℕ) (known : Option (List ℕ)) : Type 0 where
  pub numbered : IsVersion number
  pub cpus : ℕ
  pub counted : IsCpuCount cpus
  pub events : List Event
  pub played : Played (limits_of tick cpus) events
  pub known_verbs : AreKnown (verbs_in number) events
  pub accepted : IsAccepted (limits_of tick cpus) events
  pub read : (bytes : List ℕ) → known ≡ Some bytes → trace_of (accepts_with versions tick) bytes
      ≡ Ok (trace_with (version_of number) cpus events)

-- `PlansRead plans number tick known`: the plans (the changes of each processor) represent an
-- accepted trace. `number` is the number of its version, and `tick` is the length (ns) of a tick.
-- If the content of the file is known, it is the text of the trace.
pub record PlansRead (plans : PlansView) (number tick : ℕ) (known : Option (List ℕ)) : Type 0 where
  pub numbered : IsVersion number
  pub trace : Trace
  pub counted : IsCpuCount trace.cpus
  pub version : version_of number ≡ trace.version
  pub represents : Represent plans trace.cpus trace.events
  pub known_verbs : AreKnown (verbs_of trace.version) trace.events
  pub accepted : IsAccepted (limits_of tick trace.cpus) trace.events
  pub read : (bytes : List ℕ) → known ≡ Some bytes → trace_of (accepts_with versions tick) bytes ≡ Ok trace

-- `TraceRefused fault tick known`: if the content of the file is known and `fault` is a rejection,
-- it is the specified rejection of this content. `tick` is the length (ns) of a tick.
abbrev pub TraceRefused : TraceFault → ℕ → Option (List ℕ) → Type 0
TraceRefused fault tick known = (bytes : List ℕ) → known ≡ Some bytes → RefusalOf fault (trace_of (accepts_with versions tick) bytes)

-- `CausesTraceFault before now result`: the file store counted a failed read or a missing file if
-- and only if `result` reports it.
abbrev pub CausesTraceFault : {A : Type 0} → ShelfCounts → ShelfCounts → Result A TraceFault → Type 0
CausesTraceFault before now result = HasCauses before now (IsErrOf result ReadFault) (IsErrOf result NoFile)

-- `shelf_fault fault`: the fault of the file store that a fault of the trace reports, or `None` if
-- it reports none.
abbrev pub shelf_fault : TraceFault → Option ShelfFault
shelf_fault (Refused refusal) = None
shelf_fault NoFile = Some shelf.NoFile
shelf_fault ReadFault = Some shelf.Failed
shelf_fault (NoMemory _) = None

-- `shelf_fault_in result`: the fault of the file store that a result reports, or `None` if it
-- reports none.
abbrev pub shelf_fault_in : {A : Type 0} → Result A TraceFault → Option ShelfFault
shelf_fault_in (Ok x) = None
shelf_fault_in (Err found) = shelf_fault found

-- `LineInOrder name at place before now result`: the log of read calls grew from `before` to `now`
-- by the reads for one line. They start at offset `at` (bytes). They end at offset `place` (bytes),
-- or with a fault.
abbrev pub LineInOrder : {A : Type 0} → List ℕ → ℕ → ℕ → List ReadCall → List ReadCall → Result A TraceFault → Type 0
LineInOrder name at place before now (Ok x) = ReadsFrom name (Next at) before now (Next place)
LineInOrder name at place before now (Err found) = ReadsFile name at before now (shelf_fault found)

-- `ReadsLine known old new counts counts_now bytes_read read_now result`: the effect of reading the
-- next line, whatever the line contains. `old` and `new` are the states of the reader before and
-- after the call, `counts` and `counts_now` are the failure counts of the file store, and
-- `bytes_read` and `read_now` are the numbers of bytes that the file store had returned.
pub record ReadsLine {A : Type 0} (known : Option (List ℕ)) (old new : Reader) (counts counts_now : ShelfCounts) (bytes_read read_now : ℕ)
    (result : Result A TraceFault) : Type 0 where
  pub name : new.name ≡ old.name
  pub number : OnOk result (new.number ≡ old.number + 1)
  pub missed : IsErrOf result NoFile → known ≡ None
  pub cause : CausesTraceFault counts counts_now result
  pub counted : read_now + old.at ≡ bytes_read + new.at
  pub place : new.at ≤ furthest old.number

-- `KeepsLines known old new result`: reading a line doesn't change the sum of the next line's
-- number and the number of remaining lines. `old` and `new` are the states of the reader before and
-- after the call. If a read failed, no line was returned, and the buffer contains no complete line.
-- If a line is rejected, its number is `old.number`.
pub record KeepsLines {A : Type 0} (known : Option (List ℕ)) (old new : Reader) (result : Result A TraceFault) : Type 0 where
  pub lines : (bytes : List ℕ) → known ≡ Some bytes → new.number + line_count (left new bytes) ≡ old.number + line_count (left old bytes)
  pub failed : IsErrOf result ReadFault → (new.number ≡ old.number)
      × ((bytes : List ℕ) → known ≡ Some bytes → HasNoNewline new.buffered (length new.buffered))
  pub refused : (refusal : Refusal) → IsErrOf result (Refused refusal) → refusal.line ≡ old.number

-- `FailsAt bytes old new read`: a read failed at line number `new.number`, whose newline isn't
-- buffered. `old` and `new` are states of the reader, and `bytes` is the content of the file. If
-- the specified result `read` rejects a line of the trace, that line isn't before line
-- `new.number`.
pub record FailsAt {A : Type 0} (bytes : List ℕ) (old new : Reader) (read : Result A Refusal) : Type 0 where
  pub lines : new.number + line_count (left new bytes) ≡ old.number + line_count (left old bytes)
  pub none : HasNoNewline new.buffered (length new.buffered)
  pub later : (refusal : Refusal) → read ≡ Err refusal → new.number ≤ refusal.line

-- `StopsReading known old new bytes_read read_now read result`: reading stops at the first rejected
-- line. `bytes_read` and `read_now` are the numbers of bytes read before and after the call. If a
-- line is rejected, at most one full buffer is read beyond the lines before it. A read can fail
-- only while that line is incomplete. `read` maps the content of the file to the specified result.
pub record StopsReading {A B : Type 0} (known : Option (List ℕ)) (old new : Reader) (bytes_read read_now : ℕ)
    (read : List ℕ → Result B Refusal) (result : Result A TraceFault) : Type 0 where
  pub counted : read_now + old.at ≡ bytes_read + new.at
  pub refused : (refusal : Refusal) → IsErrOf result (Refused refusal) → new.at ≤ furthest refusal.line
  pub failed : IsErrOf result ReadFault → (bytes : List ℕ) → known ≡ Some bytes → FailsAt bytes old new (read bytes)

-- `StopsAtRefusal tick known bytes_read read_now result`: reading a trace stops at the first
-- rejected line. `bytes_read` and `read_now` are the numbers of bytes read before and after the
-- call. If a line is rejected, at most one full buffer is read beyond the lines before it. A read
-- can fail only while the bytes read so far don't include the whole rejected line.
abbrev pub StopsAtRefusal : {A : Type 0} → ℕ → Option (List ℕ) → ℕ → ℕ → Result A TraceFault → Type 0
StopsAtRefusal tick known bytes_read read_now (Ok x) = ⊤
StopsAtRefusal tick known bytes_read read_now (Err (Refused refusal)) = read_now ≤ bytes_read + furthest refusal.line
StopsAtRefusal tick known bytes_read read_now (Err NoFile) = ⊤
StopsAtRefusal tick known bytes_read read_now (Err ReadFault) =
    (bytes : List ℕ) (refusal : Refusal) → known ≡ Some bytes → trace_of (accepts_with versions tick) bytes ≡ Err refusal
    → line_count (take (read_now - bytes_read) bytes) ≤ refusal.line
StopsAtRefusal tick known bytes_read read_now (Err (NoMemory _)) = ⊤

-- `ShowsNothing result`: the result doesn't depend on the file's bytes. It is `NoFile`, `ReadFault`
-- or `NoMemory`.
abbrev pub ShowsNothing : {A : Type 0} → Result A TraceFault → Type 0
ShowsNothing (Ok x) = ⊥
ShowsNothing (Err (Refused refusal)) = ⊥
ShowsNothing (Err NoFile) = ⊤
ShowsNothing (Err ReadFault) = ⊤
ShowsNothing (Err (NoMemory _)) = ⊤
