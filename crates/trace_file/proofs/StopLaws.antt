-- Proofs that reading a trace stops at the first rejected line.
use Rattle.std.proofs.Common.{◌≡◌, ℕ, ◌+◌, ◌-◌, ◌≤◌, List, [], ◌∷◌, length, refl, sym, ap, ◌∙◌, subst, arith, Bool}
use Rattle.std.specs.Prelude.{Option, None, Some, Result, Ok, Err, IsErrOf}
use Rattle.std.specs.Borrow.{Bor}
use Rattle.outside.specs.Outside.{Files, content_of}
use Rattle.psi_base.specs.declared.event.Event.{Event}
use Rattle.psi_base.specs.declared.event.Cause.{Cause}
use Rattle.psi_base.specs.declared.event.Cause.TheVariants as cause
use Rattle.psi_base.specs.declared.event.Refusal.{Refusal}
use Rattle.psi_base.specs.declared.event.Fault.{Fault}
use Rattle.psi_base.specs.declared.event.Fault.TheVariants as fault
use Rattle.psi_lines.specs.Lines.{BeginsWithLine, HasNoNewline, Reader, left, line_count}
use Rattle.psi_lines.specs.Lent.{LendsLine, lent_line}
use Rattle.psi_lines.specs.Next.{IsNumbered, IsReadFault, furthest}
use Rattle.psi_lines.specs.declared.lines.LineFault.{LineFault}
use Rattle.psi_lines.specs.declared.lines.LineFault.TheVariants as lines
use Rattle.psi_lines.proofs.Counts.{count-line, lines_read, lines_stay}
use Rattle.psi_spec.specs.World.{World, Limits, after, after_event, first_world}
use Rattle.psi_spec.specs.Grammar.{Header, Verb, versions}
use Rattle.psi_spec.specs.Trace.{Accepts, Trace, accepts_with, at_end, events_from, first_line, followed, headed, line_event, or_refused, refused, trace_of, trace_of_parts, with_events}
use Rattle.trace_laws.proofs.Reading.{Events}
use Rattle.trace_file.specs.Reads.{IsTraceFault, KeepsLines, StopsAtRefusal, StopsReading, rest_from, trace_fault}
use Rattle.trace_file.specs.declared.trace.TraceFault.{TraceFault}
use Rattle.trace_file.specs.declared.trace.TraceFault.TheVariants.{Refused, NoFile, ReadFault, NoMemory}

-- ---- the number of a rejected line

at_end-line : (line : ℕ) (why : Option Cause) (refusal : Refusal) → at_end line why ≡ Err refusal → line ≤ refusal.line
at_end-line line None refusal is = absurd (cc is)
at_end-line line (Some why) refusal is =
    let same : refused line why ≡ refusal = cc is in
    let number = ap (λ (r : Refusal). r.line) same in
    omega (arith, number)

followed-err : (prefix : List Event) (rest : Events) (refusal : Refusal) → followed prefix rest ≡ Err refusal → rest ≡ Err refusal
followed-err prefix (Ok events) refusal is = absurd (cc is)
followed-err prefix (Err why) refusal is = is

or_refused-line : (line : ℕ) (read : Result Event Cause) (next : Event → Events) (refusal : Refusal) → ((event : Event) → next event ≡ Err refusal → line ≤ refusal.line) → or_refused line read next ≡ Err refusal → line ≤ refusal.line
or_refused-line line (Ok event) next refusal later is = later event is
or_refused-line line (Err why) next refusal later is = at_end-line line (Some why) refusal is

-- The events from line `line` are rejected at this line or at a later line.
from_line : (verbs : List Verb) (limits : Limits) (w : World) (line : ℕ) (parts : List (List ℕ)) (refusal : Refusal) → events_from verbs limits w line parts ≡ Err refusal → line ≤ refusal.line
unfolding events_from
from_line verbs limits w line [] refusal is = at_end-line line _ refusal is
from_line verbs limits w line (rest ∷ []) refusal is = at_end-line line _ refusal is
from_line verbs limits w line (part ∷ next ∷ parts) refusal is =
    or_refused-line line (line_event verbs limits w part) (λ event. followed (event ∷ []) (events_from verbs limits (after_event w event) (line + 1) (next ∷ parts))) refusal
    (λ event found. let later = from_line verbs limits (after_event w event) (line + 1) (next ∷ parts) refusal (followed-err (event ∷ []) _ refusal found) in omega (arith, later)) is

with_events-err : (head : Header) (rest : Events) (refusal : Refusal) → with_events head rest ≡ Err refusal → rest ≡ Err refusal
with_events-err head (Ok events) refusal is = absurd (cc is)
with_events-err head (Err why) refusal is = cc is

first_refused : (why : Cause) (refusal : Refusal) → (let r : Result Trace Refusal = Err (refused 1 why) in r) ≡ Err refusal → 1 ≤ refusal.line
first_refused why refusal is =
    let same : refused 1 why ≡ refusal = cc is in
    let number = ap (λ (r : Refusal). r.line) same in
    omega (arith, number)

headed-line : (accepts : Accepts) (read : Result Header Cause) (parts : List (List ℕ)) (refusal : Refusal) → headed accepts read parts ≡ Err refusal → 1 ≤ refusal.line
headed-line accepts (Err why) parts refusal is = first_refused why refusal is
headed-line accepts (Ok head) parts refusal is =
    let later = from_line _ _ first_world 2 parts refusal (with_events-err head _ refusal is) in omega (arith, later)

parts-line : (accepts : Accepts) (parts : List (List ℕ)) (refusal : Refusal) → trace_of_parts accepts parts ≡ Err refusal → 1 ≤ refusal.line
unfolding trace_of_parts
parts-line accepts [] refusal is = first_refused cause.BadHeader refusal is
parts-line accepts (rest ∷ []) refusal is = first_refused _ refusal is
parts-line accepts (line ∷ next ∷ parts) refusal is = headed-line accepts (first_line accepts.versions line) (next ∷ parts) refusal is

-- A rejected line has a number of at least 1.
pub trace-line : (accepts : Accepts) (bytes : List ℕ) (refusal : Refusal) → trace_of accepts bytes ≡ Err refusal → 1 ≤ refusal.line
unfolding trace_of
trace-line accepts bytes refusal is = parts-line accepts _ refusal is

-- ---- one line

-- A line that was read has no read fault.
pub line_was_read : (line : ℕ) (why : Fault Cause) (found : TraceFault) → IsTraceFault line why found → found ≡ ReadFault → ⊥
line_was_read line (fault.Refused cause) found is read = absurd (cc is)
line_was_read line (fault.NoMemory none) found is read = absurd (cc is)

pub line_number : (line : ℕ) (why : Fault Cause) (found : TraceFault) (refusal : Refusal) → IsTraceFault line why found → found ≡ Refused refusal → refusal.line ≡ line
line_number line (fault.Refused cause) found refusal is at =
    let same : Refused (refused line cause) ≡ Refused refusal = sym is ∙ at in
    let both : refused line cause ≡ refusal = cc same in
    sym (ap (λ (r : Refusal). r.line) both)
line_number line (fault.NoMemory none) found refusal is at = absurd (cc (sym is ∙ at))

-- If the fault of the trace is a failed read, so is the fault of the line.
pub read_failed : (cut : Cause) (why : LineFault) → trace_fault cut why ≡ ReadFault → why ≡ lines.ReadFault
read_failed cut (lines.TooLong n) is = absurd (cc is)
read_failed cut (lines.Cut n) is = absurd (cc is)
read_failed cut lines.NoFile is = absurd (cc is)
read_failed cut lines.ReadFault is = refl
read_failed cut (lines.NoMemory none) is = absurd (cc is)

refusal_number : (n : ℕ) (why : Cause) (refusal : Refusal) → Refused (refused n why) ≡ Refused refusal → refusal.line ≡ n
refusal_number n why refusal is =
    let both : refused n why ≡ refusal = cc is in
    sym (ap (λ (r : Refusal). r.line) both)

pub fault_number : (number : ℕ) (cut : Cause) (why : LineFault) (refusal : Refusal) → IsNumbered number (Err why) → trace_fault cut why ≡ Refused refusal → refusal.line ≡ number
fault_number number cut (lines.TooLong n) refusal at is = refusal_number n cause.LineTooLong refusal is ∙ at
fault_number number cut (lines.Cut n) refusal at is = refusal_number n cut refusal is ∙ at
fault_number number cut lines.NoFile refusal at is = absurd (cc is)
fault_number number cut lines.ReadFault refusal at is = absurd (cc is)
fault_number number cut (lines.NoMemory none) refusal at is = absurd (cc is)

same_fault : (lent : Result (Option (Bor (List ℕ))) LineFault) (why : LineFault) → lent ≡ Err why → why ≡ lines.ReadFault → lent ≡ Err lines.ReadFault
same_fault lent why is read = is ∙ ap (λ f. let r : Result (Option (Bor (List ℕ))) LineFault = Err f in r) read

-- If the check after the `end` line fails, its fault is a failed read.
pub same_look : (seen : Result Bool LineFault) (why : LineFault) → seen ≡ Err why → why ≡ lines.ReadFault → seen ≡ Err lines.ReadFault
same_look seen why is read = is ∙ ap (λ f. let r : Result Bool LineFault = Err f in r) read

pub no_refusal : (cut : Cause) (why : LineFault) (refusal : Refusal) → IsReadFault {T = Bool} (Err why) → trace_fault cut why ≡ Refused refusal → ⊥
no_refusal cut (lines.TooLong n) refusal reads is = reads
no_refusal cut (lines.Cut n) refusal reads is = reads
no_refusal cut lines.NoFile refusal reads is = cc is
no_refusal cut lines.ReadFault refusal reads is = cc is
no_refusal cut (lines.NoMemory none) refusal reads is = cc is

err_same : {A : Type 0} (found other : TraceFault) → (let r : Result A TraceFault = Err found in r) ≡ Err other → found ≡ other
err_same found other is = cc is

-- Reading a line keeps the sum of the next line's number and the number of remaining lines
-- (`KeepsLines`), by the contract of a borrowed line.
keeps_lines : {A : Type 0} (files : Option Files) (bytes_read read_now : ℕ) (old new : Reader) (lent : Result (Option (Bor (List ℕ))) LineFault) (result : Result A TraceFault) → LendsLine files bytes_read read_now old new lent → (IsErrOf result ReadFault → lent ≡ Err lines.ReadFault)
    → ((refusal : Refusal) → IsErrOf result (Refused refusal) → refusal.line ≡ old.number) → KeepsLines (content_of files old.name) old new result
keeps_lines files bytes_read read_now old new lent result lends only at = record {
  lines = λ bytes shows. lines_stay bytes old new (lent_line old.number lent) (lends.line bytes shows) lends.number;
  failed = λ is. let from = only is in (rw from at lends.number, λ bytes shows. let found = rw from at (lends.line bytes shows) in found.1);
  refused = at;
}

-- `KeepsLines` holds if the line was consumed.
pub taken_keeps : {A : Type 0} (files : Option Files) (bytes_read read_now : ℕ) (old new : Reader) (lent : Result (Option (Bor (List ℕ))) LineFault) (x : A) → LendsLine files bytes_read read_now old new lent → KeepsLines (content_of files old.name) old new (Ok x)
taken_keeps files bytes_read read_now old new lent x lends = keeps_lines files bytes_read read_now old new lent (Ok x) lends (λ is. absurd (cc is)) (λ refusal is. absurd (cc is))

-- `KeepsLines` holds if the line was read and rejected.
pub faulted_keeps : {A : Type 0} (files : Option Files) (bytes_read read_now : ℕ) (old new : Reader) (lent : Result (Option (Bor (List ℕ))) LineFault) (line : ℕ) (why : Fault Cause) (found : TraceFault) → LendsLine files bytes_read read_now old new lent → line ≡ old.number → IsTraceFault line why found
    → KeepsLines {A = A} (content_of files old.name) old new (Err found)
faulted_keeps files bytes_read read_now old new lent line why found lends at faults =
    keeps_lines files bytes_read read_now old new lent (Err found) lends
    (λ is. absurd (line_was_read line why found faults (err_same found ReadFault is)))
    (λ refusal is. line_number line why found refusal faults (err_same found (Refused refusal) is) ∙ at)

-- `KeepsLines` holds if the line can't be read.
pub unread_keeps : {A : Type 0} (files : Option Files) (bytes_read read_now : ℕ) (old new : Reader) (lent : Result (Option (Bor (List ℕ))) LineFault) (why : LineFault) (cut : Cause) (found : TraceFault) → LendsLine files bytes_read read_now old new lent → lent ≡ Err why → IsNumbered old.number (lent_line old.number lent) → found ≡ trace_fault cut why
    → KeepsLines {A = A} (content_of files old.name) old new (Err found)
unread_keeps files bytes_read read_now old new lent why cut found lends is numbered from =
    keeps_lines files bytes_read read_now old new lent (Err found) lends
    (λ read. same_fault lent why is (read_failed cut why (sym from ∙ err_same found ReadFault read)))
    (λ refusal refuses. fault_number old.number cut why refusal (rw is at numbered) (sym from ∙ err_same found (Refused refusal) refuses))

-- `KeepsLines` holds if a buffered line was passed.
passes_line : {A : Type 0} (known : Option (List ℕ)) (old new : Reader) (part : List ℕ) (result : Result A TraceFault) → ((bytes : List ℕ) → known ≡ Some bytes → BeginsWithLine (left old bytes) part (left new bytes)) → new.number ≡ old.number + 1 → (IsErrOf result ReadFault → ⊥)
    → ((refusal : Refusal) → IsErrOf result (Refused refusal) → refusal.line ≡ old.number) → KeepsLines known old new result
passes_line known old new part result begins number never at = record {
  lines = λ bytes shows. let one = count-line (left old bytes) part (left new bytes) (begins bytes shows) in omega (arith, one, number);
  failed = λ is. absurd (never is);
  refused = at;
}

pub passed_taken : {A : Type 0} (known : Option (List ℕ)) (old new : Reader) (part : List ℕ) (x : A) → ((bytes : List ℕ) → known ≡ Some bytes → BeginsWithLine (left old bytes) part (left new bytes)) → new.number ≡ old.number + 1 → KeepsLines known old new (Ok x)
passed_taken known old new part x begins number = passes_line known old new part (Ok x) begins number (λ is. absurd (cc is)) (λ refusal is. absurd (cc is))

pub passed_faulted : {A : Type 0} (known : Option (List ℕ)) (old new : Reader) (part : List ℕ) (why : Fault Cause) (found : TraceFault) → ((bytes : List ℕ) → known ≡ Some bytes → BeginsWithLine (left old bytes) part (left new bytes)) → new.number ≡ old.number + 1 → IsTraceFault old.number why found
    → KeepsLines {A = A} known old new (Err found)
passed_faulted known old new part why found begins number faults =
    passes_line known old new part (Err found) begins number
    (λ is. line_was_read old.number why found faults (err_same found ReadFault is))
    (λ refusal is. line_number old.number why found refusal faults (err_same found (Refused refusal) is))

no_newline : (buffered : List ℕ) → buffered ≡ [] → HasNoNewline buffered (length buffered)
no_newline buffered none = rw none (λ k below. absurd (omega (arith, below)))

-- The check after the `end` line consumes no line.
pub look_keeps : {A : Type 0} (known : Option (List ℕ)) (old new : Reader) (result : Result A TraceFault) → ((bytes : List ℕ) → known ≡ Some bytes → left new bytes ≡ left old bytes) → new.number ≡ old.number → (IsErrOf result ReadFault → new.buffered ≡ [])
    → ((refusal : Refusal) → IsErrOf result (Refused refusal) → refusal.line ≡ old.number) → KeepsLines known old new result
look_keeps known old new result same number none at = record {
  lines = λ bytes shows. rw (number, same bytes shows) refl;
  failed = λ is. (number, λ bytes shows. no_newline new.buffered (none is));
  refused = at;
}

-- `KeepsLines` holds for the file's bytes before the call if it holds for the bytes after the call,
-- because the bytes are equal.
pub known_keeps : {A : Type 0} (files files_now : Option Files) (name name_now : List ℕ) (old new : Reader) (result : Result A TraceFault) → files_now ≡ files → name_now ≡ name → KeepsLines (content_of files_now name_now) old new result → KeepsLines (content_of files name) old new result
known_keeps files files_now name name_now old new result same named keeps =
    subst (λ n. KeepsLines (content_of files n) old new result) named (subst (λ f. KeepsLines (content_of f name_now) old new result) same keeps)

-- ---- all lines

-- A line that is rejected after some events were played is the next line or a later line.
later_refusal : (verbs : List Verb) (limits : Limits) (events : List Event) (line : ℕ) (bytes : List ℕ) (whole : Events) (refusal : Refusal) → followed events (rest_from verbs limits (after events) line bytes) ≡ whole → whole ≡ Err refusal → line ≤ refusal.line
later_refusal verbs limits events line bytes whole refusal is refused = from_line verbs limits (after events) line _ refusal (followed-err events _ refusal (is ∙ refused))

-- Reading stops at the line that the reader has reached.
pub stops_here : {A : Type 0} (verbs : List Verb) (limits : Limits) (events : List Event) (known : Option (List ℕ)) (first old new : Reader) (bytes_read read_before read_now : ℕ) (result : Result A TraceFault) → read_before + first.at ≡ bytes_read + old.at → read_now + old.at ≡ read_before + new.at → new.at ≤ furthest old.number
    → ((bytes : List ℕ) → known ≡ Some bytes → old.number + line_count (left old bytes) ≡ first.number + line_count (left first bytes))
    → ((bytes : List ℕ) → known ≡ Some bytes → followed events (rest_from verbs limits (after events) old.number (left old bytes)) ≡ rest_from verbs limits first_world 2 (left first bytes))
    → KeepsLines known old new result → StopsReading known first new bytes_read read_now (λ bytes. rest_from verbs limits first_world 2 (left first bytes)) result
stops_here verbs limits events known first old new bytes_read read_before read_now result before counted place stay read keeps = record {
  counted = omega (arith, before, counted);
  refused = λ refusal is. let at = keeps.refused refusal is in rw at place;
  failed = λ is bytes shows.
      let here = keeps.failed is in
      record {
        lines = keeps.lines bytes shows ∙ stay bytes shows;
        none = here.1 bytes shows;
        later = λ refusal refused. rw here.0 (later_refusal verbs limits events old.number (left old bytes) (rest_from verbs limits first_world 2 (left first bytes)) refusal (read bytes shows) refused);
      };
}

-- ---- the trace

-- The reader before the first line of a file.
abbrev pub fresh_reader : List ℕ → Reader
fresh_reader name = record { name = name; number = 1; buffered = []; at = 0 }

-- Reading stops at the header if the header is rejected or can't be read.
pub head_stops : {A : Type 0} (B : Type 0) (tick : ℕ) (known : List ℕ → Option (List ℕ)) (name : List ℕ) (old new : Reader) (bytes_read read_now : ℕ) (found : TraceFault) → old ≡ fresh_reader name → read_now + old.at ≡ bytes_read + new.at → new.at ≤ furthest old.number → KeepsLines {A = A} (known old.name) old new (Err found)
    → StopsAtRefusal {A = B} tick (known name) bytes_read read_now (Err found)
head_stops B tick known name old new bytes_read read_now (Refused refusal) fresh counted place keeps =
    let start : old.at ≡ 0 = ap (λ (r : Reader). r.at) fresh in
    let at = keeps.refused refusal refl in
    rw at (omega (arith, counted, place, start))
head_stops B tick known name old new bytes_read read_now NoFile fresh counted place keeps = tt
head_stops B tick known name old new bytes_read read_now ReadFault fresh counted place keeps = λ bytes refusal shows is.
    let first : old.number ≡ 1 = ap (λ (r : Reader). r.number) fresh in
    let start : old.at ≡ 0 = ap (λ (r : Reader). r.at) fresh in
    let named : old.name ≡ name = ap (λ (r : Reader). r.name) fresh in
    let here = keeps.failed refl in
    let known_here : known old.name ≡ Some bytes = ap known named ∙ shows in
    let all : left old bytes ≡ bytes = rw fresh refl in
    let whole = ap line_count all in
    let stay = keeps.lines bytes known_here in
    let count = lines_read bytes new (omega (arith, stay, whole, first)) (here.1 bytes known_here) in
    let later = trace-line (accepts_with versions tick) bytes refusal is in
    let total : read_now - bytes_read ≡ new.at = omega (arith, counted, start) in
    let number = here.0 in
    rw total (omega (arith, count, number, first, later))
head_stops B tick known name old new bytes_read read_now (NoMemory none) fresh counted place keeps = tt

-- Reading stops at the first rejected line after the header.
pub rest_stops : {A B : Type 0} (C : Type 0) (tick : ℕ) (known : List ℕ → Option (List ℕ)) (name : List ℕ) (old middle new : Reader) (bytes_read read_before read_now : ℕ) (head : Header) (header : B) (rest : List ℕ → Events) (found : TraceFault) → old ≡ fresh_reader name → middle.name ≡ old.name → read_before + old.at ≡ bytes_read + middle.at
    → KeepsLines (known old.name) old middle (Ok header) → ((bytes : List ℕ) → known old.name ≡ Some bytes → trace_of (accepts_with versions tick) (left old bytes) ≡ with_events head (rest bytes)) → StopsReading {A = A} (known middle.name) middle new read_before read_now rest (Err found)
    → StopsAtRefusal {A = C} tick (known name) bytes_read read_now (Err found)
rest_stops C tick known name old middle new bytes_read read_before read_now head header rest (Refused refusal) fresh same counted keeps heads stops =
    let start : old.at ≡ 0 = ap (λ (r : Reader). r.at) fresh in
    let more = stops.counted in
    let place = stops.refused refusal refl in
    omega (arith, counted, more, start, place)
rest_stops C tick known name old middle new bytes_read read_before read_now head header rest NoFile fresh same counted keeps heads stops = tt
rest_stops C tick known name old middle new bytes_read read_before read_now head header rest ReadFault fresh same counted keeps heads stops = λ bytes refusal shows is.
    let first : old.number ≡ 1 = ap (λ (r : Reader). r.number) fresh in
    let start : old.at ≡ 0 = ap (λ (r : Reader). r.at) fresh in
    let named : old.name ≡ name = ap (λ (r : Reader). r.name) fresh in
    let more = stops.counted in
    let known_here : known old.name ≡ Some bytes = ap known named ∙ shows in
    let fails = stops.failed refl bytes (ap known same ∙ known_here) in
    let all : left old bytes ≡ bytes = rw fresh refl in
    let whole = ap line_count all in
    let stay = keeps.lines bytes known_here in
    let on = fails.lines in
    let count = lines_read bytes new (omega (arith, on, stay, whole, first)) fails.none in
    let refuses = with_events-err head (rest bytes) refusal (sym (heads bytes known_here) ∙ ap (trace_of (accepts_with versions tick)) all ∙ is) in
    let later = fails.later refusal refuses in
    let total : read_now - bytes_read ≡ new.at = omega (arith, counted, more, start) in
    rw total (omega (arith, count, later))
rest_stops C tick known name old middle new bytes_read read_before read_now head header rest (NoMemory none) fresh same counted keeps heads stops = tt
