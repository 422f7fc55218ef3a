-- Proofs that reading the lines of a trace after its header agrees with the definition for its
-- bytes.
use Rattle.std.proofs.Common.{◌≡◌, ◌≢◌, ℕ, ◌+◌, ◌<◌, ◌≤◌, List, [], ◌∷◌, ◌++◌, length, drop, append_assoc, get_or, refl, sym, ap, ◌∙◌, subst, arith, ◌⊎◌, ⊎_elim, true, false, Bool}
use Rattle.std.specs.Prelude.{IfOk, Result, Ok, Err, Option, None, Some, nat_lt, if◌then◌else◌}
use Rattle.std.proofs.lemmas.List.{append-nil, length-append}
use Rattle.std.proofs.Math.Seq.{get_or-append_seam}
use Rattle.psi_base.specs.declared.event.Event.{Event}
use Rattle.psi_base.specs.declared.event.Cause.{Cause}
use Rattle.psi_base.specs.declared.event.Cause.TheVariants as cause
use Rattle.psi_base.specs.declared.event.Refusal.{Refusal}
use Rattle.psi_base.specs.declared.event.Fault.{Fault}
use Rattle.psi_base.specs.declared.event.Fault.TheVariants as fault
use Rattle.psi_lines.specs.Lines.{BeginsWithLine, IsTooLong, IsCut, Reader, left}
use Rattle.psi_lines.specs.Next.{NextOf}
use Rattle.psi_lines.specs.declared.lines.LineFault.{LineFault}
use Rattle.psi_lines.specs.declared.lines.LineFault.TheVariants as lines
use Rattle.psi_trace.specs.Prefix.{BeginsBufferWith}
use Rattle.trace_laws.proofs.GrammarReads.{known_still, reads_spelled, spelled_in_line}
use Rattle.psi_spec.specs.World.{World, Limits, after, after_event, first_world}
use Rattle.psi_spec.specs.Refusal.{cause_of}
use Rattle.psi_spec.specs.Grammar.{Fits, IsKnown, Verb, Version, event_of, spelling, verbs_of, versions}
use Rattle.psi_spec.specs.Header.{IsVersion, header_with}
use Rattle.psi_spec.specs.Trace.{AllFit, AreKnown, IsCpuCount, accepts_with, line_event, rest_cause, then_legal, at_end, or_refused, followed, refused, with_events, trace_of, limits_of}
use Rattle.trace_laws.proofs.Splitting.{Cut, cut}
use Rattle.trace_laws.proofs.Reading.{Events, rest_from-line, rest_from-rest, nothing_left, followed-followed}
use Rattle.psi_spec.proofs.Following.{last_end}
use Rattle.proc_plan.proofs.Taking.{legal_push}
use Rattle.plan_laws.proofs.PlanLaws.{after-push}
use Rattle.psi_base.specs.Gives.{Gives}
use Rattle.trace_player.specs.Playing.{PlayerTakes, Plays}
use Rattle.trace_file.specs.Reads.{Legally, rest_from, RefusalOf, IsTraceFault, NextGives, RestGives, TailGives, TakesLine, TakesRead, TracePlayed, trace_fault, verbs_in}
use Rattle.trace_file.specs.declared.trace.TraceFault.{TraceFault}
use Rattle.trace_file.specs.declared.trace.TraceFault.TheVariants.{Refused, NoFile, ReadFault, NoMemory}

-- ---- earlier events and later events

followed-none : (rest : Events) → followed [] rest ≡ rest
followed-none (Ok events) = refl
followed-none (Err refusal) = refl

-- One more event can be moved from the rest to the earlier events.
pub push_read : (prefix : List Event) (event : Event) (rest more whole : Events) → followed prefix rest ≡ whole → rest ≡ followed (event ∷ []) more → followed (prefix ++ event ∷ []) more ≡ whole
push_read prefix event rest more whole is next = sym (followed-followed prefix (event ∷ []) more) ∙ ap (followed prefix) (sym next) ∙ is

-- A rejection of the rest of the input is the rejection of the whole input.
pub whole_refused : (prefix : List Event) (rest whole : Events) (refusal : Refusal) → followed prefix rest ≡ whole → rest ≡ Err refusal → whole ≡ Err refusal
whole_refused prefix rest whole refusal is refused = sym is ∙ ap (followed prefix) refused

-- A fault of the rest of the input is the fault of the whole input.
pub whole_fault : (prefix : List Event) (rest whole : Events) (fault : TraceFault) → followed prefix rest ≡ whole → RefusalOf fault rest → RefusalOf fault whole
whole_fault prefix rest whole (Refused refusal) is found = whole_refused prefix rest whole refusal is found
whole_fault prefix rest whole _ is found = tt

-- ---- a line

pub not_long : (n : ℕ) → n ≤ 512 → nat_lt 512 n ≡ false
not_long n short = grind (arith, short)

pub line_taken : (verbs : List Verb) (limits : Limits) (w : World) (line : ℕ) (bytes part suffix : List ℕ) (event : Event) → BeginsWithLine bytes part suffix → line_event verbs limits w part ≡ Ok event → rest_from verbs limits w line bytes ≡ followed (event ∷ []) (rest_from verbs limits (after_event w event) (line + 1) suffix)
line_taken verbs limits w line bytes part suffix event begins is =
    ap (rest_from verbs limits w line) begins.whole ∙ rest_from-line verbs limits w line part suffix begins.one ∙ ap (λ r. or_refused line r (λ e. followed (e ∷ []) (rest_from verbs limits (after_event w e) (line + 1) suffix))) is

pub line_refused : (verbs : List Verb) (limits : Limits) (w : World) (line : ℕ) (bytes part suffix : List ℕ) (why : Cause) → BeginsWithLine bytes part suffix → line_event verbs limits w part ≡ Err why → rest_from verbs limits w line bytes ≡ Err (refused line why)
line_refused verbs limits w line bytes part suffix why begins is =
    ap (rest_from verbs limits w line) begins.whole ∙ rest_from-line verbs limits w line part suffix begins.one ∙ ap (λ r. or_refused line r (λ e. followed (e ∷ []) (rest_from verbs limits (after_event w e) (line + 1) suffix))) is

-- ---- a line that is played

legal_line : (ended long : Bool) (read : Result Event Cause) (limits : Limits) (w : World) (event : Event) → ended ≡ false → long ≡ false → read ≡ Ok event → cause_of limits w event ≡ None → (if ended then Err cause.AfterEnd else if long then Err cause.LineTooLong else then_legal limits w read) ≡ Ok event
legal_line ended long read limits w event running short is legal = rw (running, short, is, legal) refl

refused_line : (ended long : Bool) (read : Result Event Cause) (limits : Limits) (w : World) (event : Event) (why : Cause) → ended ≡ false → long ≡ false → read ≡ Ok event → cause_of limits w event ≡ Some why → (if ended then Err cause.AfterEnd else if long then Err cause.LineTooLong else then_legal limits w read) ≡ Err why
refused_line ended long read limits w event why running short is refused = rw (running, short, is, refused) refl

unread_line : (ended long : Bool) (read : Result Event Cause) (limits : Limits) (w : World) (why : Cause) → ended ≡ false → long ≡ false → read ≡ Err why → (if ended then Err cause.AfterEnd else if long then Err cause.LineTooLong else then_legal limits w read) ≡ Err why
unread_line ended long read limits w why running short is = rw (running, short, is) refl

takes_event : (verbs : List Verb) (Before After : Plays) (line : List ℕ) (event : Event) (result : Result (Unit {0}) (Fault Cause)) → length line ≤ 512 → event_of verbs line ≡ Ok event → PlayerTakes Before After event result → TakesLine verbs Before After line result
unfolding line_event
takes_event verbs Before After line event (Ok x) short is takes = λ limits events before running.
    let taken = takes limits events before in
    (event, legal_line (after events).ended (nat_lt 512 (length line)) (event_of verbs line) limits (after events) event running (not_long (length line) short) is taken.0, taken.1, taken.2)
takes_event verbs Before After line event (Err (fault.Refused why)) short is takes = λ limits events before running.
    refused_line (after events).ended (nat_lt 512 (length line)) (event_of verbs line) limits (after events) event why running (not_long (length line) short) is (takes limits events before)
takes_event verbs Before After line event (Err (fault.NoMemory _)) short is takes = tt

takes_none : (verbs : List Verb) (Before After : Plays) (line : List ℕ) (why : Fault Cause) → length line ≤ 512 → Gives {A = Event} (Err why) (event_of verbs line) → TakesLine verbs Before After line (Err why)
unfolding line_event
takes_none verbs Before After line (fault.Refused why) short is = λ limits events before running.
    unread_line (after events).ended (nat_lt 512 (length line)) (event_of verbs line) limits (after events) why running (not_long (length line) short) is
takes_none verbs Before After line (fault.NoMemory _) short is = tt

pub takes_read : (verbs : List Verb) (Before After : Plays) (line : List ℕ) (read : Result Event (Fault Cause)) (result : Result (Unit {0}) (Fault Cause)) → length line ≤ 512 → Gives read (event_of verbs line) → TakesRead Before After read result → TakesLine verbs Before After line result
takes_read verbs Before After line (Ok event) result short is takes = takes_event verbs Before After line event result short is takes
takes_read verbs Before After line (Err why) result short is same = subst (TakesLine verbs Before After line) (sym same) (takes_none verbs Before After line why short is)

-- If a line is played, its event comes before the events of the rest of the input.
pub line_played : (verbs : List Verb) (Before After : Plays) (line : ℕ) (part : List ℕ) (before suffix : List ℕ → List ℕ) (known : Option (List ℕ)) (x : Unit {0}) → TakesLine verbs Before After part (Ok x) → ((bytes : List ℕ) → known ≡ Some bytes → BeginsWithLine (before bytes) part (suffix bytes))
    → NextGives verbs Before After line before suffix known (Ok x)
line_played verbs Before After line part before suffix known x takes begins = λ limits events played running.
    let taken = takes limits events played running in
    record {
      event = taken.0;
      played = taken.2;
      few = taken.3;
      read = λ bytes shows.
          line_taken verbs limits (after events) line (before bytes) part (suffix bytes) taken.0 (begins bytes shows) taken.1
          ∙ ap (λ w. followed (taken.0 ∷ []) (rest_from verbs limits w (line + 1) (suffix bytes))) (sym (after-push events taken.0));
    }

-- The fault of a line is the fault of the rest of the input.
pub line_faulted : (verbs : List Verb) (Before After : Plays) (line : ℕ) (part : List ℕ) (before suffix : List ℕ → List ℕ) (known : Option (List ℕ)) (why : Fault Cause) (found : TraceFault) → IsTraceFault line why found → TakesLine verbs Before After part (Err why) → ((bytes : List ℕ) → known ≡ Some bytes → BeginsWithLine (before bytes) part (suffix bytes))
    → NextGives verbs Before After line before suffix known (Err found)
line_faulted verbs Before After line part before suffix known (fault.Refused why) found at takes begins = λ limits events played running bytes shows.
    rw at (line_refused verbs limits (after events) line (before bytes) part (suffix bytes) why (begins bytes shows) (takes limits events played running))
line_faulted verbs Before After line part before suffix known (fault.NoMemory _) found at takes begins = λ limits events played running bytes shows. rw at tt

-- ---- players of legal events

fits_push : (events : List Event) (event : Event) → AllFit events → Fits event → AllFit (events ++ event ∷ [])
fits_push [] event all one = (one, tt)
fits_push (first ∷ events) event all one = (all.0, fits_push events event all.1 one)

known_push : (verbs : List Verb) (events : List Event) (event : Event) → AreKnown verbs events → IsKnown verbs event → AreKnown verbs (events ++ event ∷ [])
known_push verbs [] event all one = (one, tt)
known_push verbs (first ∷ events) event all one = (all.0, known_push verbs events event all.1 one)

-- A player plays an event after legal events that can be written as trace lines. The new event can
-- be written as a trace line too, and its verb is in the list.
legally : (verbs : List Verb) (Before After : Plays) (event : Event) (result : Result (Unit {0}) (Fault Cause)) → Fits event → IsKnown verbs event → PlayerTakes Before After event result → PlayerTakes (Legally verbs Before) (Legally verbs After) event result
legally verbs Before After event (Ok x) fits known takes = λ limits events played.
    let taken = takes limits events played.0 in
    (taken.0, (taken.1, fits_push events event played.1 fits, known_push verbs events event played.2 known, legal_push limits first_world events event played.3 taken.0), taken.2)
legally verbs Before After event (Err (fault.Refused why)) fits known takes = λ limits events played. takes limits events played.0
legally verbs Before After event (Err (fault.NoMemory _)) fits known takes = tt

-- ---- an event line at the start of the buffered bytes

-- The buffered event line is the next line of the file.
pub prefix_begins : (old new : Reader) (event : Event) (count : ℕ) (bytes : List ℕ) → BeginsBufferWith old.buffered event count → new.buffered ≡ drop (count + 1) old.buffered → new.at ≡ old.at → BeginsWithLine (left old bytes) (spelling event) (left new bytes)
prefix_begins old new event count bytes prefix buffered at =
    let is_line = spelled_in_line event prefix.begins.fits in
    record {
      whole = rw (buffered, at) (ap (λ bs. bs ++ drop old.at bytes) prefix.begins.whole ∙ append_assoc (spelling event) (10 ∷ drop (count + 1) old.buffered) (drop old.at bytes));
      short = is_line.short;
      one = λ k below. is_line.one k below;
    }

-- Playing the event of the buffered line has the effect that `TakesLine` defines.
pub prefix_takes : (version : Version) (Before After : Plays) (buffered : List ℕ) (event : Event) (count : ℕ) (result : Result (Unit {0}) (Fault Cause)) → BeginsBufferWith buffered event count → PlayerTakes Before After event result → TakesLine (verbs_of version) (Legally (verbs_of version) Before) (Legally (verbs_of version) After) (spelling event) result
prefix_takes version Before After buffered event count result prefix takes =
    let verbs = verbs_of version in
    let known = known_still version event prefix.begins.known in
    takes_event verbs (Legally verbs Before) (Legally verbs After) (spelling event) event result (spelled_in_line event prefix.begins.fits).short ((reads_spelled verbs (spelling event) event).1 (prefix.begins.fits, known, refl)) (legally verbs Before After event result prefix.begins.fits known takes)

-- ---- the end of the input before the end of the trace

runs_out : (ended : Bool) (n : ℕ) → ended ≡ false → n ≤ 512 → (if ended then (if nat_lt 0 n then Some cause.AfterEnd else None) else if nat_lt 512 n then Some cause.LineTooLong else Some cause.NoEnd) ≡ Some cause.NoEnd
runs_out ended n running short = grind (arith, running, short)

pub cut_short : (verbs : List Verb) (limits : Limits) (w : World) (line : ℕ) (bytes : List ℕ) → IsCut bytes → w.ended ≡ false → rest_from verbs limits w line bytes ≡ Err (refused line cause.NoEnd)
unfolding rest_cause
cut_short verbs limits w line bytes is running = rest_from-rest verbs limits w line bytes is.none ∙ ap (at_end line) (runs_out w.ended (length bytes) running is.short)

pub none_left : (verbs : List Verb) (limits : Limits) (w : World) (line : ℕ) (bytes : List ℕ) → bytes ≡ [] → w.ended ≡ false → rest_from verbs limits w line bytes ≡ Err (refused line cause.NoEnd)
unfolding rest_cause
none_left verbs limits w line bytes is running =
    ap (rest_from verbs limits w line) is ∙ rest_from-rest verbs limits w line [] (λ k below. absurd (omega (arith, below))) ∙ ap (at_end line) (runs_out w.ended 0 running (omega arith))

-- ---- lines that are too long

-- A line whose first 513 bytes contain no newline has more than 512 bytes.
pub long_cut : (bytes : List ℕ) (c : Cut 10 bytes) → IsTooLong bytes → 513 ≤ length c.line
long_cut bytes c is =
    let case : (513 ≤ length c.line) ⊎ (length c.line < 513) = grind arith in
    ⊎_elim (λ long. long) (λ short. absurd (is.none (length c.line) short (ap (λ bs. get_or bs (length c.line) 0) c.whole ∙ get_or-append_seam c.line 10 c.suffix 0))) case

too_long : (ended : Bool) (n : ℕ) (read : Result Event Cause) → ended ≡ false → 513 ≤ n → (if ended then Err cause.AfterEnd else if nat_lt 512 n then Err cause.LineTooLong else read) ≡ Err cause.LineTooLong
too_long ended n read running long = grind (arith, running, long)

rest_too_long : (ended : Bool) (n : ℕ) → ended ≡ false → 513 ≤ n → (if ended then (if nat_lt 0 n then Some cause.AfterEnd else None) else if nat_lt 512 n then Some cause.LineTooLong else Some cause.NoEnd) ≡ Some cause.LineTooLong
rest_too_long ended n running long = grind (arith, running, long)

pub long_line : (verbs : List Verb) (limits : Limits) (w : World) (line : ℕ) (bytes : List ℕ) → IsTooLong bytes → w.ended ≡ false → rest_from verbs limits w line bytes ≡ Err (refused line cause.LineTooLong)
unfolding rest_cause line_event
long_line verbs limits w line bytes is running = ⊎_elim
    (λ none. rest_from-rest verbs limits w line bytes none ∙ ap (at_end line) (rest_too_long w.ended (length bytes) running is.long))
    (λ (c : Cut 10 bytes).
    ap (rest_from verbs limits w line) c.whole ∙ rest_from-line verbs limits w line c.line c.suffix c.none
    ∙ ap (λ r. or_refused line r (λ e. followed (e ∷ []) (rest_from verbs limits (after_event w e) (line + 1) c.suffix))) (too_long w.ended (length c.line) _ running (long_cut bytes c is)))
    (cut 10 bytes)

-- ---- a line that can't be read

-- A fault of the next line is the fault of the rest of the input.
pub line_not_read : (verbs : List Verb) (limits : Limits) (w : World) (bytes : List ℕ) (old new : Reader) (fault : LineFault) → NextOf bytes old new (Err fault) → w.ended ≡ false → RefusalOf (trace_fault cause.NoEnd fault) (rest_from verbs limits w old.number (left old bytes))
line_not_read verbs limits w bytes old new (lines.TooLong line) found running = rw found.1 (long_line verbs limits w old.number (left old bytes) found.0 running)
line_not_read verbs limits w bytes old new (lines.Cut line) found running = rw found.1 (cut_short verbs limits w old.number (left old bytes) found.0 running)
line_not_read verbs limits w bytes old new lines.NoFile found running = tt
line_not_read verbs limits w bytes old new lines.ReadFault found running = tt
line_not_read verbs limits w bytes old new (lines.NoMemory _) found running = tt

-- ---- after the `end` line

some_left : (bytes : List ℕ) → bytes ≢ [] → 0 < length bytes
some_left [] some = absurd (some refl)
some_left (byte ∷ bytes) some = omega arith

ended_line : (ended : Bool) (long : Bool) (read : Result Event Cause) → ended ≡ true → (if ended then Err cause.AfterEnd else if long then Err cause.LineTooLong else read) ≡ Err cause.AfterEnd
ended_line ended long read is = rw is refl

ended_rest : (ended : Bool) (n : ℕ) → ended ≡ true → 0 < n → (if ended then (if nat_lt 0 n then Some cause.AfterEnd else None) else if nat_lt 512 n then Some cause.LineTooLong else Some cause.NoEnd) ≡ Some cause.AfterEnd
ended_rest ended n is some = grind (arith, is, some)

pub after_end : (verbs : List Verb) (limits : Limits) (w : World) (line : ℕ) (bytes : List ℕ) → bytes ≢ [] → w.ended ≡ true → rest_from verbs limits w line bytes ≡ Err (refused line cause.AfterEnd)
unfolding rest_cause line_event
after_end verbs limits w line bytes some ended = ⊎_elim
    (λ none. rest_from-rest verbs limits w line bytes none ∙ ap (at_end line) (ended_rest w.ended (length bytes) ended (some_left bytes some)))
    (λ (c : Cut 10 bytes).
    ap (rest_from verbs limits w line) c.whole ∙ rest_from-line verbs limits w line c.line c.suffix c.none
    ∙ ap (λ r. or_refused line r (λ e. followed (e ∷ []) (rest_from verbs limits (after_event w e) (line + 1) c.suffix))) (ended_line w.ended (nat_lt 512 (length c.line)) _ ended))
    (cut 10 bytes)

-- If nothing is left after the `end` line, the events that were read are all events.
pub all_read : (verbs : List Verb) (prefix : List Event) (limits : Limits) (w : World) (line : ℕ) (bytes : List ℕ) (whole : Events) → followed prefix (rest_from verbs limits w line bytes) ≡ whole → bytes ≡ [] → w.ended ≡ true → whole ≡ Ok prefix
all_read verbs prefix limits w line bytes whole is none ended =
    sym is ∙ ap (λ bs. followed prefix (rest_from verbs limits w line bs)) none ∙ ap (followed prefix) (nothing_left verbs limits w line ended) ∙ ap (λ es. let r : Events = Ok es in r) (append-nil prefix)

-- ---- all lines

-- After the `end` line, all events were played, or the fault of the check is the fault of the
-- trace.
pub closes : (verbs : List Verb) (Played : Plays) (limits : Limits) (events : List Event) (line : ℕ) (before suffix : List ℕ → List ℕ) (known : Option (List ℕ)) (result : Result (Unit {0}) TraceFault) → Played limits events → (after events).ended ≡ true
    → ((bytes : List ℕ) → known ≡ Some bytes → followed events (rest_from verbs limits (after events) line (suffix bytes)) ≡ rest_from verbs limits first_world 2 (before bytes))
    → ((bytes : List ℕ) → known ≡ Some bytes → TailGives line (suffix bytes) result) → RestGives verbs Played limits before known result
closes verbs Played limits events line before suffix known (Ok x) played ended read tail = record {
  events = events;
  played = played;
  ended = ended;
  read = λ bytes shows. all_read verbs events limits (after events) line (suffix bytes) (rest_from verbs limits first_world 2 (before bytes)) (read bytes shows) (tail bytes shows) ended;
}
closes verbs Played limits events line before suffix known (Err (Refused refusal)) played ended read tail = λ bytes shows.
    let found = tail bytes shows in
    whole_refused events (rest_from verbs limits (after events) line (suffix bytes)) (rest_from verbs limits first_world 2 (before bytes)) refusal (read bytes shows)
    (after_end verbs limits (after events) line (suffix bytes) found.0 ended ∙ ap (λ r. let e : Events = Err r in e) (sym found.1))
closes verbs Played limits events line before suffix known (Err NoFile) played ended read tail = λ bytes shows. tt
closes verbs Played limits events line before suffix known (Err ReadFault) played ended read tail = λ bytes shows. tt
closes verbs Played limits events line before suffix known (Err (NoMemory _)) played ended read tail = λ bytes shows. tt

-- The invariant of the loop over the lines, before line `line`: the events that were played, none
-- of which is the end, and the remaining bytes.
pub record SoFar (verbs : List Verb) (Played : Plays) (limits : Limits) (line : ℕ) (before suffix : List ℕ → List ℕ) (known : Option (List ℕ)) : Type 0 where
  pub events : List Event
  pub played : Played limits events
  pub counted : length events + 2 ≡ line
  pub running : (after events).ended ≡ false
  pub read : (bytes : List ℕ) → known ≡ Some bytes → followed events (rest_from verbs limits (after events) line (suffix bytes)) ≡ rest_from verbs limits first_world 2 (before bytes)

-- The invariant holds before the first line after the header.
pub none_so_far : (verbs : List Verb) (Played : Plays) (limits : Limits) (line : ℕ) (before : List ℕ → List ℕ) (known : Option (List ℕ)) → Played limits [] → line ≡ 2 → SoFar verbs Played limits line before before known
none_so_far verbs Played limits line before known played is = record {
  events = [];
  played = played;
  counted = sym is;
  running = refl;
  read = λ bytes shows. rw is (followed-none (rest_from verbs limits first_world 2 (before bytes)));
}

-- The state after one more event was played, before line `line`; the event may be the end.
pub record OneMore (verbs : List Verb) (Played : Plays) (limits : Limits) (line : ℕ) (before suffix : List ℕ → List ℕ) (known : Option (List ℕ)) : Type 0 where
  pub events : List Event
  pub played : Played limits events
  pub counted : length events + 2 ≡ line
  pub few : line ≤ 4000002
  pub read : (bytes : List ℕ) → known ≡ Some bytes → followed events (rest_from verbs limits (after events) line (suffix bytes)) ≡ rest_from verbs limits first_world 2 (before bytes)

pub one_more : (verbs : List Verb) (Before After : Plays) (limits : Limits) (line next_line : ℕ) (before suffix later : List ℕ → List ℕ) (known : Option (List ℕ)) (x : Unit {0}) → next_line ≡ line + 1 → SoFar verbs Before limits line before suffix known → NextGives verbs Before After line suffix later known (Ok x) → OneMore verbs After limits next_line before later known
one_more verbs Before After limits line next_line before suffix later known x is so next =
    let p = next limits so.events so.played so.running in
    record {
      events = so.events ++ p.event ∷ [];
      played = p.played;
      counted = omega (arith, is, length-append so.events (p.event ∷ []), so.counted);
      few = omega (arith, is, p.few, so.counted);
      read = λ bytes shows.
          rw is (push_read so.events p.event (rest_from verbs limits (after so.events) line (suffix bytes)) (rest_from verbs limits (after (so.events ++ p.event ∷ [])) (line + 1) (later bytes)) (rest_from verbs limits first_world 2 (before bytes)) (so.read bytes shows) (p.read bytes shows));
    }

-- If the event isn't the end, the invariant of the loop holds again.
pub goes_on : (verbs : List Verb) (Played : Plays) (limits : Limits) (line : ℕ) (before suffix : List ℕ → List ℕ) (known : Option (List ℕ)) (ended : Bool) → OneMore verbs Played limits line before suffix known
    → ((limits : Limits) (events : List Event) → Played limits events → ended ≡ (after events).ended) → ended ≡ false → SoFar verbs Played limits line before suffix known
goes_on verbs Played limits line before suffix known ended one reported running = record {
  events = one.events;
  played = one.played;
  counted = one.counted;
  running = sym (reported limits one.events one.played) ∙ running;
  read = one.read;
}

pub ends_here : (verbs : List Verb) (Played : Plays) (limits : Limits) (line : ℕ) (before suffix : List ℕ → List ℕ) (known : Option (List ℕ)) (ended : Bool) (result : Result (Unit {0}) TraceFault) → OneMore verbs Played limits line before suffix known
    → ((limits : Limits) (events : List Event) → Played limits events → ended ≡ (after events).ended) → ended ≡ true
    → ((bytes : List ℕ) → known ≡ Some bytes → TailGives line (suffix bytes) result) → RestGives verbs Played limits before known result
ends_here verbs Played limits line before suffix known ended result one reported over tail =
    closes verbs Played limits one.events line before suffix known result one.played (sym (reported limits one.events one.played) ∙ over) one.read tail

-- A fault of the next line is the fault of the trace.
pub faults_here : (verbs : List Verb) (Before After Whole : Plays) (limits : Limits) (line : ℕ) (before suffix later : List ℕ → List ℕ) (known : Option (List ℕ)) (found : TraceFault) → SoFar verbs Before limits line before suffix known → NextGives verbs Before After line suffix later known (Err found) → RestGives verbs Whole limits before known (Err found)
faults_here verbs Before After Whole limits line before suffix later known found so next = λ bytes shows.
    whole_fault so.events (rest_from verbs limits (after so.events) line (suffix bytes)) (rest_from verbs limits first_world 2 (before bytes)) found (so.read bytes shows) (next limits so.events so.played so.running bytes shows)

-- ---- the trace

pub trace_played : (number : ℕ) (Played : Plays) (tick cpus : ℕ) (named suffix : List ℕ → List ℕ) (known : Option (List ℕ)) (x : Unit {0}) → IsVersion number → IsCpuCount cpus
    → ((bytes : List ℕ) → known ≡ Some bytes → trace_of (accepts_with versions tick) bytes ≡ with_events (header_with number cpus) (rest_from (verbs_in number) (limits_of tick cpus) first_world 2 (suffix bytes)))
    → RestGives (verbs_in number) (Legally (verbs_in number) Played) (limits_of tick cpus) suffix known (Ok x) → TracePlayed Played number tick known
trace_played number Played tick cpus named suffix known x numbered counted headed rest = record {
  numbered = numbered;
  cpus = cpus;
  counted = counted;
  events = rest.events;
  played = rest.played.0;
  known_verbs = rest.played.2;
  accepted = record {
    fit = rest.played.1;
    legal = rest.played.3;
    ends = last_end (limits_of tick cpus) first_world rest.events refl rest.played.3 rest.ended;
  };
  read = λ bytes shows. headed bytes shows ∙ ap (with_events (header_with number cpus)) (rest.read bytes shows);
}

-- ---- players of legal events

pub legally_read : (verbs : List Verb) (Before After : Plays) (read : Result Event (Fault Cause)) (result : Result (Unit {0}) (Fault Cause)) → IfOk read (λ event. Fits event × IsKnown verbs event) → TakesRead Before After read result → TakesRead (Legally verbs Before) (Legally verbs After) read result
legally_read verbs Before After (Ok event) result found takes = legally verbs Before After event result found.0 found.1 takes
legally_read verbs Before After (Err why) result found same = same

-- An event that was read can be written as a trace line, and its verb is in the list.
pub known_read : (verbs : List Verb) (line : List ℕ) (read : Result Event (Fault Cause)) → IfOk read (λ event. Fits event × IsKnown verbs event × (line ≡ spelling event)) → IfOk read (λ event. Fits event × IsKnown verbs event)
known_read verbs line (Ok event) found = (found.0, found.1)
known_read verbs line (Err why) found = tt
