-- Proofs that reading a text stops at the first rejected line.
use Rattle.std.proofs.Common.{◌≡◌, ℕ, ◌+◌, ◌-◌, ◌≤◌, List, [], ◌∷◌, length, refl, sym, ap, ◌∙◌, subst, arith, Bool}
use Rattle.std.specs.Prelude.{Option, None, Some, Result, Ok, Err, IsErrOf}
use Rattle.std.specs.Borrow.{Bor}
use Rattle.outside.specs.Outside.{Files, content_of}
use Rattle.psi_base.specs.declared.event.Event.{Event}
use Rattle.psi_base.specs.declared.event.Fault.{Fault}
use Rattle.psi_base.specs.declared.event.Fault.TheVariants as fault
use Rattle.psi_lines.specs.Lines.{HasNoNewline, Reader, left, line_count}
use Rattle.psi_lines.specs.Lent.{LendsLine, lent_line}
use Rattle.psi_lines.specs.Next.{IsNumbered, IsReadFault, furthest}
use Rattle.psi_lines.specs.declared.lines.LineFault.{LineFault}
use Rattle.psi_lines.specs.declared.lines.LineFault.TheVariants as lines
use Rattle.psi_lines.proofs.Counts.{lines_read, lines_stay}
use Rattle.import_spec.specs.declared.cause.ImportCause.{ImportCause}
use Rattle.import_spec.specs.declared.cause.ImportCause.TheVariants as cause
use Rattle.import_spec.specs.Events.{LineEvents, Reached, unreached}
use Rattle.import_spec.specs.Import.{Refused, ends_or, events_followed, import_from, import_of, import_refused, yield_of_line, or_refused_line, tail_cause}
use Rattle.ftrace_import.specs.declared.taking.Gathering.{Gathering}
use Rattle.ftrace_import.specs.declared.text.ImportFault.{ImportFault}
use Rattle.ftrace_import.specs.declared.text.ImportFault.TheVariants as import
use Rattle.ftrace_import.specs.Deeds.{events_by}
use Rattle.ftrace_import.specs.Gathers.{IsLineFault, KeepsLines, StopsAtRefusal, import_fault, reached_in, rest_from}
use Rattle.ftrace_import.proofs.Texts.{SoFar, fresh_reader}

abbrev Answer : Type 0
Answer = Result (List Event) Refused

-- ---- the number of a rejected line

same_number : (number : ℕ) (why : ImportCause) (refusal : Refused) → (let r : Answer = Err (import_refused number why) in r) ≡ Err refusal → number ≤ refusal.line
same_number number why refusal is =
    let same : import_refused number why ≡ refusal = cc is in
    let line = ap (λ (r : Refused). r.line) same in
    omega (arith, line)

ends_or-line : (reached : Reached) (number : ℕ) (why : Option ImportCause) (refusal : Refused) → ends_or reached number why ≡ Err refusal → number ≤ refusal.line
ends_or-line reached number None refusal is = absurd (cc is)
ends_or-line reached number (Some why) refusal is = same_number number why refusal is

followed-err : (prefix : List Event) (rest : Answer) (refusal : Refused) → events_followed prefix rest ≡ Err refusal → rest ≡ Err refusal
followed-err prefix (Ok events) refusal is = absurd (cc is)
followed-err prefix (Err why) refusal is = is

or_refused-line : (number : ℕ) (line_events : Result LineEvents ImportCause) (suffix : Reached → Answer) (refusal : Refused) → ((reached : Reached) → suffix reached ≡ Err refusal → number ≤ refusal.line) → or_refused_line number line_events suffix ≡ Err refusal → number ≤ refusal.line
or_refused-line number (Ok line_events) suffix refusal later is = later line_events.reached (followed-err line_events.events (suffix line_events.reached) refusal is)
or_refused-line number (Err why) suffix refusal later is = same_number number why refusal is

-- The lines from number `number` are rejected at this line or at a later line.
from_line : (cpus : ℕ) (reached : Reached) (number : ℕ) (parts : List (List ℕ)) (refusal : Refused) → import_from cpus reached number parts ≡ Err refusal → number ≤ refusal.line
unfolding import_from
from_line cpus reached number [] refusal is = absurd (cc is)
from_line cpus reached number (rest ∷ []) refusal is = ends_or-line reached number (tail_cause number rest) refusal is
from_line cpus reached number (line ∷ next ∷ parts) refusal is =
    or_refused-line number (yield_of_line cpus reached number line) (λ suffix. import_from cpus suffix (number + 1) (next ∷ parts)) refusal
    (λ suffix found. let later = from_line cpus suffix (number + 1) (next ∷ parts) refusal found in omega (arith, later)) is

-- ---- one line

err_same : {A : Type 0} (found other : ImportFault) → (let r : Result A ImportFault = Err found in r) ≡ Err other → found ≡ other
err_same found other is = cc is

same_fault : (lent : Result (Option (Bor (List ℕ))) LineFault) (why : LineFault) → lent ≡ Err why → why ≡ lines.ReadFault → lent ≡ Err lines.ReadFault
same_fault lent why is read = is ∙ ap (λ f. let r : Result (Option (Bor (List ℕ))) LineFault = Err f in r) read

-- A line that was read has no read fault.
line_was_read : (line : ℕ) (why : Fault ImportCause) (found : ImportFault) → IsLineFault line why found → found ≡ import.ReadFault → ⊥
line_was_read line (fault.Refused cause) found is read = absurd (cc (sym is ∙ read))
line_was_read line (fault.NoMemory none) found is read = absurd (cc (sym is ∙ read))

refusal_number : (n number : ℕ) (had why : ImportCause) → import.Refused n had ≡ import.Refused number why → number ≡ n
refusal_number n number had why is = cc is

line_number : (line : ℕ) (why : Fault ImportCause) (found : ImportFault) (number : ℕ) (because : ImportCause) → IsLineFault line why found → found ≡ import.Refused number because → number ≡ line
line_number line (fault.Refused had) found number because is at = refusal_number line number had because (sym is ∙ at)
line_number line (fault.NoMemory none) found number because is at = absurd (cc (sym is ∙ at))

-- If the fault of the import is a failed read, so is the fault of the line.
read_failed : (why : LineFault) → import_fault why ≡ import.ReadFault → why ≡ lines.ReadFault
read_failed (lines.TooLong n) is = absurd (cc is)
read_failed (lines.Cut n) is = absurd (cc is)
read_failed lines.NoFile is = absurd (cc is)
read_failed lines.ReadFault is = refl
read_failed (lines.NoMemory none) is = absurd (cc is)

fault_number : (at : ℕ) (why : LineFault) (number : ℕ) (because : ImportCause) → IsNumbered at (Err why) → import_fault why ≡ import.Refused number because → number ≡ at
fault_number at (lines.TooLong n) number because same is = refusal_number n number cause.LineTooLong because is ∙ same
fault_number at (lines.Cut n) number because same is = refusal_number n number cause.Cut because is ∙ same
fault_number at lines.NoFile number because same is = absurd (cc is)
fault_number at lines.ReadFault number because same is = absurd (cc is)
fault_number at (lines.NoMemory none) number because same is = absurd (cc is)

-- Reading a line keeps the sum of the next line's number and the number of remaining lines
-- (`KeepsLines`), by the contract of a borrowed line.
keeps_lines : {A : Type 0} (files : Option Files) (bytes_read read_now : ℕ) (old new : Reader) (lent : Result (Option (Bor (List ℕ))) LineFault) (result : Result A ImportFault) → LendsLine files bytes_read read_now old new lent → (IsErrOf result import.ReadFault → lent ≡ Err lines.ReadFault)
    → ((number : ℕ) (why : ImportCause) → IsErrOf result (import.Refused number why) → number ≡ old.number) → KeepsLines (content_of files old.name) old new result
keeps_lines files bytes_read read_now old new lent result lends only at = record {
  lines = λ bytes shows. lines_stay bytes old new (lent_line old.number lent) (lends.line bytes shows) lends.number;
  failed = λ is. let from = only is in (rw from at lends.number, λ bytes shows. let found = rw from at (lends.line bytes shows) in found.1);
  refused = at;
}

-- `KeepsLines` holds if a line was taken, or if no line remains.
pub taken_keeps : {A : Type 0} (files : Option Files) (bytes_read read_now : ℕ) (old new : Reader) (lent : Result (Option (Bor (List ℕ))) LineFault) (x : A) → LendsLine files bytes_read read_now old new lent → KeepsLines (content_of files old.name) old new (Ok x)
taken_keeps files bytes_read read_now old new lent x lends = keeps_lines files bytes_read read_now old new lent (Ok x) lends (λ is. absurd (cc is)) (λ number why is. absurd (cc is))

-- `KeepsLines` holds if the line was read and rejected.
pub faulted_keeps : {A : Type 0} (files : Option Files) (bytes_read read_now : ℕ) (old new : Reader) (lent : Result (Option (Bor (List ℕ))) LineFault) (why : Fault ImportCause) (found : ImportFault) → LendsLine files bytes_read read_now old new lent → IsLineFault old.number why found
    → KeepsLines {A = A} (content_of files old.name) old new (Err found)
faulted_keeps files bytes_read read_now old new lent why found lends faults =
    keeps_lines files bytes_read read_now old new lent (Err found) lends
    (λ is. absurd (line_was_read old.number why found faults (err_same found import.ReadFault is)))
    (λ number because is. line_number old.number why found number because faults (err_same found (import.Refused number because) is))

-- `KeepsLines` holds if the line can't be read.
pub unread_keeps : {A : Type 0} (files : Option Files) (bytes_read read_now : ℕ) (old new : Reader) (lent : Result (Option (Bor (List ℕ))) LineFault) (why : LineFault) (found : ImportFault) → LendsLine files bytes_read read_now old new lent → lent ≡ Err why → IsNumbered old.number (lent_line old.number lent) → found ≡ import_fault why
    → KeepsLines {A = A} (content_of files old.name) old new (Err found)
unread_keeps files bytes_read read_now old new lent why found lends is numbered from =
    keeps_lines files bytes_read read_now old new lent (Err found) lends
    (λ read. same_fault lent why is (read_failed why (sym from ∙ err_same found import.ReadFault read)))
    (λ number because refuses. fault_number old.number why number because (rw is at numbered) (sym from ∙ err_same found (import.Refused number because) refuses))

no_newline : (buffered : List ℕ) → buffered ≡ [] → HasNoNewline buffered (length buffered)
no_newline buffered none = rw none (λ k below. absurd (omega (arith, below)))

-- The check that nothing follows the last line consumes no line.
look_keeps : {A : Type 0} (known : Option (List ℕ)) (old new : Reader) (result : Result A ImportFault) → ((bytes : List ℕ) → known ≡ Some bytes → left new bytes ≡ left old bytes) → new.number ≡ old.number → (IsErrOf result import.ReadFault → new.buffered ≡ [])
    → ((number : ℕ) (why : ImportCause) → IsErrOf result (import.Refused number why) → number ≡ old.number) → KeepsLines known old new result
look_keeps known old new result same number none at = record {
  lines = λ bytes shows. rw (number, same bytes shows) refl;
  failed = λ is. (number, λ bytes shows. no_newline new.buffered (none is));
  refused = at;
}

pub ended_keeps : {A : Type 0} (known : Option (List ℕ)) (old new : Reader) (x : A) → ((bytes : List ℕ) → known ≡ Some bytes → left new bytes ≡ left old bytes) → new.number ≡ old.number → KeepsLines known old new (Ok x)
ended_keeps known old new x same number = look_keeps known old new (Ok x) same number (λ is. absurd (cc is)) (λ number why is. absurd (cc is))

-- `KeepsLines` holds if bytes follow the last allowed line, so that the text is rejected.
pub many_keeps : {A : Type 0} (known : Option (List ℕ)) (old new : Reader) (line : ℕ) (had : ImportCause) → ((bytes : List ℕ) → known ≡ Some bytes → left new bytes ≡ left old bytes) → new.number ≡ old.number → line ≡ old.number → KeepsLines {A = A} known old new (Err (import.Refused line had))
many_keeps {A} known old new line had same number at =
    look_keeps {A = A} known old new (Err (import.Refused line had)) same number (λ is. absurd (cc is))
    (λ number why is. refusal_number line number had why (err_same (import.Refused line had) (import.Refused number why) is) ∙ at)

no_refusal : (why : LineFault) (number : ℕ) (because : ImportCause) → IsReadFault {T = Bool} (Err why) → import_fault why ≡ import.Refused number because → ⊥
no_refusal (lines.TooLong n) number because reads is = reads
no_refusal (lines.Cut n) number because reads is = reads
no_refusal lines.NoFile number because reads is = absurd (cc is)
no_refusal lines.ReadFault number because reads is = absurd (cc is)
no_refusal (lines.NoMemory none) number because reads is = absurd (cc is)

-- `KeepsLines` holds if the check for further bytes fails.
pub unseen_keeps : {A : Type 0} (known : Option (List ℕ)) (old new : Reader) (seen : Result Bool LineFault) (why : LineFault) (found : ImportFault) → ((bytes : List ℕ) → known ≡ Some bytes → left new bytes ≡ left old bytes) → new.number ≡ old.number → (IsErrOf seen lines.ReadFault → new.buffered ≡ []) → IsReadFault seen → seen ≡ Err why → found ≡ import_fault why
    → KeepsLines {A = A} known old new (Err found)
unseen_keeps {A} known old new seen why found same number none reads is from =
    look_keeps {A = A} known old new (Err found) same number
    (λ read. none (is ∙ ap (λ f. let r : Result Bool LineFault = Err f in r) (read_failed why (sym from ∙ err_same found import.ReadFault read))))
    (λ number because refuses. absurd (no_refusal why number because (rw is at reads) (sym from ∙ err_same found (import.Refused number because) refuses)))

-- `KeepsLines` holds for the file's bytes before the call if it holds for the bytes after the call,
-- because the bytes are equal.
pub known_keeps : {A : Type 0} (files files_now : Option Files) (name name_now : List ℕ) (old new : Reader) (result : Result A ImportFault) → files_now ≡ files → name_now ≡ name → KeepsLines (content_of files_now name_now) old new result → KeepsLines (content_of files name) old new result
known_keeps files files_now name name_now old new result same named keeps =
    subst (λ n. KeepsLines (content_of files n) old new result) named (subst (λ f. KeepsLines (content_of f name_now) old new result) same keeps)

-- ---- all lines

-- Reading stops at the line that the reader has reached.
pub stops_here : (A : Type 0) (cpus : ℕ) (g : Gathering) (known : Option (List ℕ)) (first old new : Reader) (bytes_read read_before read_now : ℕ) (found : ImportFault) → first.number ≡ 1 → first.buffered ≡ [] → first.at ≡ 0 → read_before + first.at ≡ bytes_read + old.at → read_now + old.at ≡ read_before + new.at → new.at ≤ furthest old.number
    → ((bytes : List ℕ) → known ≡ Some bytes → old.number + line_count (left old bytes) ≡ first.number + line_count (left first bytes))
    → SoFar cpus old.number g (left first) (left old) known → KeepsLines {A = Bool} known old new (Err found) → StopsAtRefusal {A = A} (rest_from cpus unreached 1) known bytes_read read_now (Err found)
stops_here A cpus g known first old new bytes_read read_before read_now (import.Refused number why) one buffered start before counted place stay so keeps =
    let at = keeps.refused number why refl in
    rw at (omega (arith, start, before, counted, place))
stops_here A cpus g known first old new bytes_read read_before read_now import.NoFile one buffered start before counted place stay so keeps = tt
stops_here A cpus g known first old new bytes_read read_before read_now import.ReadFault one buffered start before counted place stay so keeps = λ bytes refusal shows is.
    let here = keeps.failed refl in
    let number = here.0 in
    let all : left first bytes ≡ bytes = rw (buffered, start) refl in
    let whole = ap line_count all in
    let now = keeps.lines bytes shows in
    let was = stay bytes shows in
    let count = lines_read bytes new (omega (arith, now, was, whole, one)) (here.1 bytes shows) in
    let refused = followed-err (events_by g.kept.items) _ refusal (so.read bytes shows ∙ ap (rest_from cpus unreached 1) all ∙ is) in
    let later = from_line cpus (reached_in g) old.number _ refusal refused in
    let total : read_now - bytes_read ≡ new.at = omega (arith, start, before, counted) in
    rw total (omega (arith, count, number, later))
stops_here A cpus g known first old new bytes_read read_before read_now (import.NoMemory none) one buffered start before counted place stay so keeps = tt

-- ---- a whole text

whole : (cpus : ℕ) (bytes : List ℕ) → import_of cpus bytes ≡ rest_from cpus unreached 1 bytes
unfolding import_of
whole cpus bytes = refl

pub gather_stops : (A B : Type 0) (n cpus : ℕ) (known : List ℕ → Option (List ℕ)) (name : List ℕ) (old : Reader) (bytes_read read_now : ℕ) (found : ImportFault) → n ≡ cpus → old ≡ fresh_reader name → StopsAtRefusal {A = A} (rest_from n unreached 1) (known old.name) bytes_read read_now (Err found) → StopsAtRefusal {A = B} (import_of cpus) (known name) bytes_read read_now (Err found)
gather_stops A B n cpus known name old bytes_read read_now (import.Refused number why) same fresh stops = stops
gather_stops A B n cpus known name old bytes_read read_now import.NoFile same fresh stops = tt
gather_stops A B n cpus known name old bytes_read read_now import.ReadFault same fresh stops = λ bytes refusal shows is.
    let named : old.name ≡ name = ap (λ (r : Reader). r.name) fresh in
    stops bytes refusal (ap known named ∙ shows) (rw same (sym (whole cpus bytes) ∙ is))
gather_stops A B n cpus known name old bytes_read read_now (import.NoMemory none) same fresh stops = tt
