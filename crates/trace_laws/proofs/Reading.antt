-- Proofs about which bytes are accepted as a trace, and at which line other bytes are rejected.
use Rattle.std.proofs.Common.{◌≡◌, ℕ, zero, suc, ◌+◌, ◌≤◌, List, [], ◌∷◌, ◌++◌, length, refl, sym, ap, ◌∙◌, arith, append_assoc, subst, ◌⊎◌, inl, inr, ⊎_elim, Bool, true, false}
use Rattle.std.specs.Prelude.{Option, None, Some, Result, Ok, Err, nat_lt, if◌then◌else◌}
use Rattle.psi_base.specs.Path.{parts_at}
use Rattle.psi_base.specs.declared.event.Event.{Event}
use Rattle.psi_base.specs.declared.event.Cause.{Cause}
use Rattle.psi_base.specs.declared.event.Cause.TheVariants as cause
use Rattle.psi_base.specs.declared.event.Refusal.{Refusal}
use Rattle.psi_base.proofs.PartLaws.{HasNone, HasFirst, first_part, parts_at-all, parts_at-line}
use Rattle.psi_spec.specs.Grammar.{Fits, IsKnown, Two, Verb, event_of, spelling, verbs_of}
use Rattle.psi_spec.specs.World.{World, Limits, after_event, after_from}
use Rattle.psi_spec.specs.Refusal.{cause_of, AreLegal}
use Rattle.psi_spec.specs.Trace.{lines_of, AllFit, AreKnown, if_legal, then_legal, line_event, rest_cause, refused, at_end, followed, or_refused, events_from}
use Rattle.psi_spec.specs.Laws.{IsLineCause}
use Rattle.trace_laws.proofs.Splitting.{Cut, cut, cut_shorter}
use Rattle.trace_laws.proofs.GrammarReads.{event_known, reads_spelled, spelling-no_newline, length-spelling-le}
use Rattle.psi_spec.proofs.Following.{open_of_legal}

abbrev pub Events : Type 0
Events = Result (List Event) Refusal

-- the events of the remaining bytes
abbrev pub rest_from : List Verb → Limits → World → ℕ → List ℕ → Events
rest_from verbs limits w line bytes = events_from verbs limits w line (parts_at 10 bytes)

-- ---- one line

step_parts : (verbs : List Verb) (limits : Limits) (w : World) (line : ℕ) (part : List ℕ) (parts : List (List ℕ)) → HasFirst parts → events_from verbs limits w line (part ∷ parts) ≡ or_refused line (line_event verbs limits w part) (λ event. followed (event ∷ []) (events_from verbs limits (after_event w event) (line + 1) parts))
unfolding events_from
step_parts verbs limits w line part parts has = rw has.2 refl

-- a complete line is parsed first, and then the bytes after it
pub rest_from-line : (verbs : List Verb) (limits : Limits) (w : World) (line : ℕ) (part suffix : List ℕ) → HasNone 10 part (length part) → rest_from verbs limits w line (part ++ 10 ∷ suffix) ≡ or_refused line (line_event verbs limits w part) (λ event. followed (event ∷ []) (rest_from verbs limits (after_event w event) (line + 1) suffix))
rest_from-line verbs limits w line part suffix none = rw (parts_at-line 10 part suffix none) (step_parts verbs limits w line part (parts_at 10 suffix) (first_part 10 suffix))

-- the remaining bytes without a newline are the last line, which is incomplete or empty
pub rest_from-rest : (verbs : List Verb) (limits : Limits) (w : World) (line : ℕ) (rest : List ℕ) → HasNone 10 rest (length rest) → rest_from verbs limits w line rest ≡ at_end line (rest_cause w rest)
unfolding events_from
rest_from-rest verbs limits w line rest none = rw (parts_at-all 10 rest none) refl

-- a line that is accepted: the world hasn't ended, and the line spells a legal event
pub record IsTaken (verbs : List Verb) (limits : Limits) (w : World) (part : List ℕ) (event : Event) : Type 0 where
  pub open_ : w.ended ≡ false
  pub fits : Fits event
  pub known : IsKnown verbs event
  pub spelled : part ≡ spelling event
  pub legal : cause_of limits w event ≡ None

legal_from : (limits : Limits) (w : World) (found event : Event) (why : Option Cause) → cause_of limits w found ≡ why → if_legal why found ≡ Ok event → (found ≡ event) × (cause_of limits w event ≡ None)
legal_from limits w found event None none is =
    let same : found ≡ event = cc is in
    (same, subst (λ e. cause_of limits w e ≡ None) same none)
legal_from limits w found event (Some why) some is = absurd (cc is)

legal_of : (limits : Limits) (w : World) (read : Result Event Cause) (event : Event) → then_legal limits w read ≡ Ok event → (read ≡ Ok event) × (cause_of limits w event ≡ None)
legal_of limits w (Err why) event is = absurd (cc is)
legal_of limits w (Ok found) event is =
    let parts = legal_from limits w found event (cause_of limits w found) refl is in
    (ap (λ e. let r : Result Event Cause = Ok e in r) parts.0, parts.1)

chosen : (ended long : Bool) (read : Result Event Cause) (event : Event) → (if ended then Err cause.AfterEnd else if long then Err cause.LineTooLong else read) ≡ Ok event → (ended ≡ false) × (read ≡ Ok event)
chosen true long read event is = absurd (cc is)
chosen false true read event is = absurd (cc is)
chosen false false read event is = (refl, is)

pub taken : (verbs : List Verb) (limits : Limits) (w : World) (part : List ℕ) (event : Event) → line_event verbs limits w part ≡ Ok event → IsTaken verbs limits w part event
unfolding line_event
taken verbs limits w part event is =
    let parts = chosen w.ended (nat_lt 512 (length part)) (then_legal limits w (event_of verbs part)) event is in
    let read = legal_of limits w (event_of verbs part) event parts.1 in
    let spelled = (reads_spelled verbs part event).0 read.0 in
    record { open_ = parts.0; fits = spelled.0; known = spelled.1; spelled = spelled.2; legal = read.1 }

-- the spelling of an event in range isn't too long for a line
short_line : (event : Event) → Fits event → nat_lt 512 (length (spelling event)) ≡ false
short_line event fits = grind (arith, length-spelling-le event fits)

chosen_back : (ended long : Bool) (read : Result Event Cause) (event : Event) → ended ≡ false → long ≡ false → read ≡ Ok event → (if ended then Err cause.AfterEnd else if long then Err cause.LineTooLong else read) ≡ Ok event
chosen_back ended long read event open_ short is = rw (open_, short, is) refl

legal_back : (limits : Limits) (w : World) (read : Result Event Cause) (event : Event) → read ≡ Ok event → cause_of limits w event ≡ None → then_legal limits w read ≡ Ok event
legal_back limits w read event is legal = rw is (ap (λ why. if_legal why event) legal)

-- the spelling of a legal event is accepted
pub takes : (verbs : List Verb) (limits : Limits) (w : World) (event : Event) → Fits event → IsKnown verbs event → cause_of limits w event ≡ None → line_event verbs limits w (spelling event) ≡ Ok event
unfolding line_event
takes verbs limits w event fits known legal =
    chosen_back w.ended (nat_lt 512 (length (spelling event))) _ event (open_of_legal limits w event legal) (short_line event fits)
    (legal_back limits w (event_of verbs (spelling event)) event ((reads_spelled verbs (spelling event) event).1 (fits, known, refl)) legal)

-- the verbs of all events are verbs of the last version
pub events_known : (events : List Event) → AreKnown (verbs_of Two) events
events_known [] = tt
events_known (event ∷ events) = (event_known event, events_known events)

-- ---- all lines

-- the bytes are accepted to their end, as these events
pub record Reads (verbs : List Verb) (limits : Limits) (w : World) (bytes : List ℕ) (events : List Event) : Type 0 where
  pub text : bytes ≡ lines_of events
  pub fit : AllFit events
  pub known : AreKnown verbs events
  pub legal : AreLegal limits w events
  pub ended : (after_from w events).ended ≡ true

at_end_ok : (line : ℕ) (why : Option Cause) (events : List Event) → at_end line why ≡ Ok events → (why ≡ None) × ([] ≡ events)
at_end_ok line None events is = (refl, cc is)
at_end_ok line (Some why) events is = absurd (cc is)

or_refused_ok : (line : ℕ) (read : Result Event Cause) (next : Event → Events) (events : List Event) → or_refused line read next ≡ Ok events → (event : Event) × (read ≡ Ok event) × (next event ≡ Ok events)
or_refused_ok line (Err why) next events is = absurd (cc is)
or_refused_ok line (Ok event) next events is = (event, refl, is)

followed_ok : (event : Event) (rest : Events) (events : List Event) → followed (event ∷ []) rest ≡ Ok events → (others : List Event) × (rest ≡ Ok others) × (event ∷ others ≡ events)
followed_ok event (Ok others) events is = (others, refl, cc is)
followed_ok event (Err refusal) events is = absurd (cc is)

empty : (bytes : List ℕ) → length bytes ≤ 0 → bytes ≡ []
empty [] none = refl
empty (byte ∷ bytes) none = absurd (omega (arith, none))

ends_so : (ended : Bool) (n : ℕ) (why : Option Cause) → (if ended then (if nat_lt 0 n then Some cause.AfterEnd else None) else if nat_lt 512 n then Some cause.LineTooLong else Some cause.NoEnd) ≡ None → (ended ≡ true) × (n ≤ 0)
ends_so ended n why is = grind (arith, is)

rest_none : (w : World) (rest : List ℕ) → rest_cause w rest ≡ None → (w.ended ≡ true) × (rest ≡ [])
unfolding rest_cause
rest_none w rest is =
    let so = ends_so w.ended (length rest) None is in
    (so.0, empty rest so.1)

reads_rest : (verbs : List Verb) (limits : Limits) (w : World) (line : ℕ) (rest : List ℕ) (events : List Event) → HasNone 10 rest (length rest) → rest_from verbs limits w line rest ≡ Ok events → Reads verbs limits w rest events
reads_rest verbs limits w line rest events none is =
    let parts = at_end_ok line (rest_cause w rest) events (sym (rest_from-rest verbs limits w line rest none) ∙ is) in
    let so = rest_none w rest parts.0 in
    subst (Reads verbs limits w rest) parts.1 (record { text = so.1; fit = tt; known = tt; legal = tt; ended = so.0 })

-- the line of an event followed by the lines of other events are the lines of all
joins : (part suffix : List ℕ) (event : Event) (others : List Event) → part ≡ spelling event → suffix ≡ lines_of others → part ++ 10 ∷ suffix ≡ lines_of (event ∷ others)
joins part suffix event others first rest = rw (first, rest) (sym (append_assoc (spelling event) (10 ∷ []) (lines_of others)))

goes_on : (part suffix : List ℕ) (event : Event) (others : List Event) (rest : List ℕ) → part ≡ spelling event → suffix ≡ lines_of others ++ rest → part ++ 10 ∷ suffix ≡ lines_of (event ∷ others) ++ rest
goes_on part suffix event others rest first more =
    rw (first, more) (sym (append_assoc (spelling event ++ 10 ∷ []) (lines_of others) rest ∙ append_assoc (spelling event) (10 ∷ []) (lines_of others ++ rest)))

reads_line : (verbs : List Verb) (limits : Limits) (w : World) (line : ℕ) (part suffix : List ℕ) (events : List Event) → HasNone 10 part (length part)
    → ((event : Event) (others : List Event) → rest_from verbs limits (after_event w event) (line + 1) suffix ≡ Ok others → Reads verbs limits (after_event w event) suffix others)
    → rest_from verbs limits w line (part ++ 10 ∷ suffix) ≡ Ok events → Reads verbs limits w (part ++ 10 ∷ suffix) events
reads_line verbs limits w line part suffix events none more is =
    let first = or_refused_ok line (line_event verbs limits w part) _ events (sym (rest_from-line verbs limits w line part suffix none) ∙ is) in
    let rest = followed_ok first.0 (rest_from verbs limits (after_event w first.0) (line + 1) suffix) events first.2 in
    let here = taken verbs limits w part first.0 first.1 in
    let later = more first.0 rest.0 rest.1 in
    subst (Reads verbs limits w (part ++ 10 ∷ suffix)) rest.2 (record {
      text = joins part suffix first.0 rest.0 here.spelled later.text;
      fit = (here.fits, later.fit);
      known = (here.known, later.known);
      legal = (here.legal, later.legal);
      ended = later.ended;
    })

reads : (n : ℕ) (verbs : List Verb) (limits : Limits) (w : World) (line : ℕ) (bytes : List ℕ) (events : List Event) → length bytes ≤ n → rest_from verbs limits w line bytes ≡ Ok events → Reads verbs limits w bytes events
reads zero verbs limits w line bytes events few is = ⊎_elim
    (λ none. reads_rest verbs limits w line bytes events none is)
    (λ (c : Cut 10 bytes). absurd (omega (arith, cut_shorter 10 bytes c, few)))
    (cut 10 bytes)
reads (suc n) verbs limits w line bytes events few is = ⊎_elim
    (λ none. reads_rest verbs limits w line bytes events none is)
    (λ (c : Cut 10 bytes). subst (λ bs. Reads verbs limits w bs events) (sym c.whole) (reads_line verbs limits w line c.line c.suffix events c.none
    (λ event others more. reads n verbs limits (after_event w event) (line + 1) c.suffix others (omega (arith, cut_shorter 10 bytes c, few)) more)
    (sym (ap (rest_from verbs limits w line) c.whole) ∙ is)))
    (cut 10 bytes)

-- the lines of legal events are accepted, and then the bytes after them are parsed
lines-append : (event : Event) (others : List Event) (rest : List ℕ) → lines_of (event ∷ others) ++ rest ≡ spelling event ++ 10 ∷ (lines_of others ++ rest)
lines-append event others rest = append_assoc (spelling event ++ 10 ∷ []) (lines_of others) rest ∙ append_assoc (spelling event) (10 ∷ []) (lines_of others ++ rest)

pub followed-followed : (xs ys : List Event) (events : Events) → followed xs (followed ys events) ≡ followed (xs ++ ys) events
followed-followed xs ys (Ok events) = ap (λ zs. let r : Events = Ok zs in r) (sym (append_assoc xs ys events))
followed-followed xs ys (Err refusal) = refl

pub followed-nil : (events : Events) → followed [] events ≡ events
followed-nil (Ok events) = refl
followed-nil (Err refusal) = refl

pub rest_from-lines : (verbs : List Verb) (limits : Limits) (w : World) (line : ℕ) (prefix : List Event) (rest : List ℕ) → AllFit prefix → AreKnown verbs prefix → AreLegal limits w prefix → rest_from verbs limits w line (lines_of prefix ++ rest) ≡ followed prefix (rest_from verbs limits (after_from w prefix) (line + length prefix) rest)
rest_from-lines verbs limits w line [] rest fit known legal =
    let same : line + 0 ≡ line = omega arith in
    rw same (sym (followed-nil (rest_from verbs limits w line rest)))
rest_from-lines verbs limits w line (event ∷ prefix) rest fit known legal =
    let next = rest_from-lines verbs limits (after_event w event) (line + 1) prefix rest fit.1 known.1 legal.1 in
    let count : line + 1 + length prefix ≡ line + length (event ∷ prefix) = omega arith in
    ap (rest_from verbs limits w line) (lines-append event prefix rest)
    ∙ rest_from-line verbs limits w line (spelling event) (lines_of prefix ++ rest) (spelling-no_newline event fit.0)
    ∙ ap (λ r. or_refused line r (λ e. followed (e ∷ []) (rest_from verbs limits (after_event w e) (line + 1) (lines_of prefix ++ rest)))) (takes verbs limits w event fit.0 known.0 legal.0)
    ∙ ap (followed (event ∷ [])) next
    ∙ followed-followed (event ∷ []) prefix _
    ∙ ap (λ n. followed (event ∷ prefix) (rest_from verbs limits (after_from (after_event w event) prefix) n rest)) count

-- ---- rejections

-- the bytes are rejected after the lines of some legal events
pub record Refuses (verbs : List Verb) (limits : Limits) (w : World) (line : ℕ) (bytes : List ℕ) (at : ℕ) (why : Cause) : Type 0 where
  pub prefix : List Event
  pub rest : List ℕ
  pub bytes_are : bytes ≡ lines_of prefix ++ rest
  pub fit : AllFit prefix
  pub known : AreKnown verbs prefix
  pub legal : AreLegal limits w prefix
  pub at_is : at ≡ line + length prefix
  pub has : IsLineCause verbs limits (after_from w prefix) rest why

pub same_refusal : (line at : ℕ) (why cause : Cause) → refused line why ≡ refused at cause → (line ≡ at) × (why ≡ cause)
same_refusal line at why cause is = (ap (λ (r : Refusal). r.line) is, ap (λ (r : Refusal). r.cause) is)

same_error : (r s : Refusal) → (let x : Events = Err r in x) ≡ Err s → r ≡ s
same_error r s is = cc is

at_end_err : (line : ℕ) (some : Option Cause) (at : ℕ) (why : Cause) → at_end line some ≡ Err (refused at why) → (some ≡ Some why) × (at ≡ line)
at_end_err line None at why is = absurd (cc is)
at_end_err line (Some cause) at why is =
    let same = same_refusal line at cause why (same_error (refused line cause) (refused at why) is) in
    (ap (λ c. let o : Option Cause = Some c in o) same.1, sym same.0)

or_refused_err : (line : ℕ) (read : Result Event Cause) (next : Event → Events) (at : ℕ) (why : Cause) → or_refused line read next ≡ Err (refused at why) → ((read ≡ Err why) × (at ≡ line)) ⊎ ((event : Event) × (read ≡ Ok event) × (next event ≡ Err (refused at why)))
or_refused_err line (Err cause) next at why is =
    let same = same_refusal line at cause why (same_error (refused line cause) (refused at why) is) in
    inl (ap (λ c. let r : Result Event Cause = Err c in r) same.1, sym same.0)
or_refused_err line (Ok event) next at why is = inr (event, refl, is)

followed_err : (event : Event) (rest : Events) (refusal : Refusal) → followed (event ∷ []) rest ≡ Err refusal → rest ≡ Err refusal
followed_err event (Ok others) refusal is = absurd (cc is)
followed_err event (Err found) refusal is = is

refuses_rest : (verbs : List Verb) (limits : Limits) (w : World) (line : ℕ) (rest : List ℕ) (at : ℕ) (why : Cause) → HasNone 10 rest (length rest) → rest_from verbs limits w line rest ≡ Err (refused at why) → Refuses verbs limits w line rest at why
refuses_rest verbs limits w line rest at why none is =
    let parts = at_end_err line (rest_cause w rest) at why (sym (rest_from-rest verbs limits w line rest none) ∙ is) in
    record { prefix = []; rest = rest; bytes_are = refl; fit = tt; known = tt; legal = tt; at_is = omega (arith, parts.1); has = inr (none, parts.0) }

refuses_line : (verbs : List Verb) (limits : Limits) (w : World) (line : ℕ) (part suffix : List ℕ) (at : ℕ) (why : Cause) → HasNone 10 part (length part)
    → ((event : Event) → rest_from verbs limits (after_event w event) (line + 1) suffix ≡ Err (refused at why) → Refuses verbs limits (after_event w event) (line + 1) suffix at why)
    → rest_from verbs limits w line (part ++ 10 ∷ suffix) ≡ Err (refused at why) → Refuses verbs limits w line (part ++ 10 ∷ suffix) at why
refuses_line verbs limits w line part suffix at why none more is = ⊎_elim
    (λ here. record { prefix = []; rest = part ++ 10 ∷ suffix; bytes_are = refl; fit = tt; known = tt; legal = tt; at_is = omega (arith, here.1); has = inl (part, (none, (suffix, refl)), here.0) })
    (λ first.
    let event = taken verbs limits w part first.0 first.1 in
    let later = more first.0 (followed_err first.0 _ (refused at why) first.2) in
    let goes : part ++ 10 ∷ suffix ≡ lines_of (first.0 ∷ later.prefix) ++ later.rest = goes_on part suffix first.0 later.prefix later.rest event.spelled later.bytes_are in
    record {
      prefix = first.0 ∷ later.prefix;
      rest = later.rest;
      bytes_are = goes;
      fit = (event.fits, later.fit);
      known = (event.known, later.known);
      legal = (event.legal, later.legal);
      at_is = omega (arith, later.at_is);
      has = later.has;
    })
    (or_refused_err line (line_event verbs limits w part) _ at why (sym (rest_from-line verbs limits w line part suffix none) ∙ is))

refuses : (n : ℕ) (verbs : List Verb) (limits : Limits) (w : World) (line : ℕ) (bytes : List ℕ) (at : ℕ) (why : Cause) → length bytes ≤ n → rest_from verbs limits w line bytes ≡ Err (refused at why) → Refuses verbs limits w line bytes at why
refuses zero verbs limits w line bytes at why few is = ⊎_elim
    (λ none. refuses_rest verbs limits w line bytes at why none is)
    (λ (c : Cut 10 bytes). absurd (omega (arith, cut_shorter 10 bytes c, few)))
    (cut 10 bytes)
refuses (suc n) verbs limits w line bytes at why few is = ⊎_elim
    (λ none. refuses_rest verbs limits w line bytes at why none is)
    (λ (c : Cut 10 bytes). subst (λ bs. Refuses verbs limits w line bs at why) (sym c.whole) (refuses_line verbs limits w line c.line c.suffix at why c.none
    (λ event more. refuses n verbs limits (after_event w event) (line + 1) c.suffix at why (omega (arith, cut_shorter 10 bytes c, few)) more)
    (sym (ap (rest_from verbs limits w line) c.whole) ∙ is)))
    (cut 10 bytes)

-- a cause for the first remaining line is the result for the remaining bytes
pub rest_from-cause : (verbs : List Verb) (limits : Limits) (w : World) (line : ℕ) (rest : List ℕ) (why : Cause) → IsLineCause verbs limits w rest why → rest_from verbs limits w line rest ≡ Err (refused line why)
rest_from-cause verbs limits w line rest why has = ⊎_elim
    (λ found. ap (rest_from verbs limits w line) found.1.1.1 ∙ rest_from-line verbs limits w line found.0 found.1.1.0 found.1.0 ∙ ap (λ r. or_refused line r (λ e. followed (e ∷ []) (rest_from verbs limits (after_event w e) (line + 1) found.1.1.0))) found.2)
    (λ found. rest_from-rest verbs limits w line rest found.0 ∙ ap (at_end line) found.1)
    has

pub reads_all : (verbs : List Verb) (limits : Limits) (w : World) (line : ℕ) (bytes : List ℕ) (events : List Event) → rest_from verbs limits w line bytes ≡ Ok events → Reads verbs limits w bytes events
reads_all verbs limits w line bytes events is = reads (length bytes) verbs limits w line bytes events (omega arith) is

pub refuses_all : (verbs : List Verb) (limits : Limits) (w : World) (line : ℕ) (bytes : List ℕ) (at : ℕ) (why : Cause) → rest_from verbs limits w line bytes ≡ Err (refused at why) → Refuses verbs limits w line bytes at why
refuses_all verbs limits w line bytes at why is = refuses (length bytes) verbs limits w line bytes at why (omega arith) is

-- the input may end if no byte is left and the trace has ended
may_end : (ended : Bool) → ended ≡ true → (if ended then (if nat_lt 0 0 then Some cause.AfterEnd else None) else if nat_lt 512 0 then Some cause.LineTooLong else Some cause.NoEnd) ≡ None
may_end ended is = rw is refl

pub nothing_left : (verbs : List Verb) (limits : Limits) (w : World) (line : ℕ) → w.ended ≡ true → rest_from verbs limits w line [] ≡ Ok []
unfolding rest_cause
nothing_left verbs limits w line ended = rest_from-rest verbs limits w line [] (λ k below. absurd (omega (arith, below))) ∙ ap (at_end line) (may_end w.ended ended)
