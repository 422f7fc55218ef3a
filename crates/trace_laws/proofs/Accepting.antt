-- Proofs about whole traces: the header and the events.
use Rattle.std.proofs.Common.{◌≡◌, ℕ, ◌+◌, ◌^◌, ◌<◌, List, [], ◌∷◌, ◌++◌, length, refl, sym, ap, ◌∙◌, arith, append_assoc, subst, ◌⊎◌, inl, inr, ⊎_elim, Bool, true, false}
use Rattle.std.specs.Prelude.{Option, None, Some, Result, Ok, Err, nat_lt, ◌||◌, if◌then◌else◌}
use Rattle.std.proofs.lemmas.List.{append-nil}
use Rattle.psi_base.specs.Path.{parts_at}
use Rattle.psi_base.specs.declared.event.Act.TheVariants as act
use Rattle.psi_base.specs.declared.event.Event.{Event}
use Rattle.psi_base.specs.declared.event.Cause.{Cause}
use Rattle.psi_base.specs.declared.event.Cause.TheVariants as cause
use Rattle.psi_base.specs.declared.event.Refusal.{Refusal}
use Rattle.psi_base.proofs.PartLaws.{HasNone, HasFirst, first_part, parts_at-all, parts_at-line}
use Rattle.psi_spec.specs.Fields.{IsAmong}
use Rattle.psi_spec.specs.Grammar.{Header, One, Two, Verb, Version, header_line, header_of, version_number}
use Rattle.psi_spec.specs.World.{World, Limits, first_world, after_from, after}
use Rattle.psi_spec.specs.Refusal.{AreLegal}
use Rattle.psi_spec.specs.Trace.{Accepts, AreKnown, Trace, limits_of, lines_of, text_of, AllFit, EndsLast, IsCpuCount, first_line, or_bad_header, first_rest, refused, with_events, followed, headed, trace_of_parts, trace_of}
use Rattle.psi_spec.specs.Laws.{IsTrace, Accepted, IsFirstLineCause, IsRefusedLater, IsRefused, FirstRefused}
use Rattle.psi_spec.proofs.Following.{after_from-append, last_end}
use Rattle.trace_laws.proofs.Splitting.{Cut, cut}
use Rattle.trace_laws.proofs.Reading.{Events, rest_from, reads_all, refuses_all, rest_from-lines, rest_from-cause, nothing_left, same_refusal}
use Rattle.trace_laws.proofs.GrammarHeaders.{headers_spelled, header-no_newline, length-header-le}

-- ---- after the last event

or_true : (a : Bool) → (a || true) ≡ true
or_true true = refl
or_true false = refl

ended_last : (w : World) (events : List Event) → EndsLast events → (after_from w events).ended ≡ true
ended_last w events last =
    ap (λ es. (after_from w es).ended) last.2 ∙ ap (λ (v : World). v.ended) (after_from-append w last.0 (record { at = last.1; act = act.End } ∷ [])) ∙ or_true (after_from w last.0).ended

-- ---- the first line

chosen_first : (long : Bool) (found : Option Header) (head : Header) → (if long then Err cause.LineTooLong else or_bad_header found) ≡ Ok head → found ≡ Some head
chosen_first true found head is = absurd (cc is)
chosen_first false None head is = absurd (cc is)
chosen_first false (Some other) head is = let same : other ≡ head = cc is in ap (λ h. let o : Option Header = Some h in o) same

-- a header that was accepted: its line, a version of the list, and a number of processors in range
record IsHead (versions : List Version) (part : List ℕ) (head : Header) : Type 0 where
  spelled : part ≡ header_line head
  known : IsAmong head.version versions
  counted : IsCpuCount head.cpus

first_read : (versions : List Version) (part : List ℕ) (head : Header) → first_line versions part ≡ Ok head → IsHead versions part head
unfolding first_line
first_read versions part head is =
    let found = (headers_spelled versions part head).0 (chosen_first (nat_lt 512 (length part)) (header_of versions part) head is) in
    record { spelled = found.3; known = found.0; counted = (found.1, found.2) }

-- the numbers of versions fit in 64 bits
small_version : (version : Version) → version_number version < 2 ^ 64
small_version One = omega arith
small_version Two = omega arith

short_header : (head : Header) → IsCpuCount head.cpus → nat_lt 512 (length (header_line head)) ≡ false
short_header head is = grind (arith, length-header-le (version_number head.version) head.cpus (small_version head.version) (omega (arith, is.1)))

whole_header : (head : Header) → IsCpuCount head.cpus → HasNone 10 (header_line head) (length (header_line head))
whole_header head is = header-no_newline (version_number head.version) head.cpus (small_version head.version) (omega (arith, is.1))

first_back : (versions : List Version) (head : Header) → IsAmong head.version versions → IsCpuCount head.cpus → first_line versions (header_line head) ≡ Ok head
unfolding first_line
first_back versions head known is =
    let found : header_of versions (header_line head) ≡ Some head = (headers_spelled versions (header_line head) head).1 (known, is.0, is.1, refl) in
    rw (short_header head is, found) refl

-- ---- the whole trace

trace_parts : (accepts : Accepts) (part : List ℕ) (parts : List (List ℕ)) → HasFirst parts → trace_of_parts accepts (part ∷ parts) ≡ headed accepts (first_line accepts.versions part) parts
unfolding trace_of_parts
trace_parts accepts part parts has = rw has.2 refl

pub trace_of-line : (accepts : Accepts) (part suffix : List ℕ) → HasNone 10 part (length part) → trace_of accepts (part ++ 10 ∷ suffix) ≡ headed accepts (first_line accepts.versions part) (parts_at 10 suffix)
unfolding trace_of
trace_of-line accepts part suffix none = rw (parts_at-line 10 part suffix none) (trace_parts accepts part (parts_at 10 suffix) (first_part 10 suffix))

pub trace_of-rest : (accepts : Accepts) (rest : List ℕ) → HasNone 10 rest (length rest) → trace_of accepts rest ≡ Err (refused 1 (first_rest rest))
unfolding trace_of trace_of_parts
trace_of-rest accepts rest none = rw (parts_at-all 10 rest none) refl

abbrev Whole : Type 0
Whole = Result Trace Refusal

abbrev made : Header → List Event → Trace
made head events = record { version = head.version; cpus = head.cpus; events = events }

abbrev head_of : Trace → Header
head_of trace = record { version = trace.version; cpus = trace.cpus }

-- the events after a header, parsed with the verbs of its version
abbrev after_head : Accepts → Header → List ℕ → Events
after_head accepts head suffix = rest_from (accepts.verbs head.version) (limits_of accepts.tick head.cpus) first_world 2 suffix

with_events_ok : (head : Header) (read : Events) (trace : Trace) → with_events head read ≡ Ok trace → (events : List Event) × (read ≡ Ok events) × (made head events ≡ trace)
with_events_ok head (Ok events) trace is = (events, refl, cc is)
with_events_ok head (Err refusal) trace is = absurd (cc is)

with_events_err : (head : Header) (read : Events) (refusal : Refusal) → with_events head read ≡ Err refusal → read ≡ Err refusal
with_events_err head (Ok events) refusal is = absurd (cc is)
with_events_err head (Err found) refusal is = let same : found ≡ refusal = cc is in ap (λ r. let x : Events = Err r in x) same

headed_ok : (accepts : Accepts) (first : Result Header Cause) (suffix : List ℕ) (trace : Trace) → headed accepts first (parts_at 10 suffix) ≡ Ok trace → (head : Header) × (first ≡ Ok head) × ((events : List Event) × (after_head accepts head suffix ≡ Ok events) × (made head events ≡ trace))
headed_ok accepts (Err why) suffix trace is = absurd (cc is)
headed_ok accepts (Ok head) suffix trace is = (head, refl, with_events_ok head (after_head accepts head suffix) trace is)

same_whole : (r s : Refusal) → (let x : Whole = Err r in x) ≡ Err s → r ≡ s
same_whole r s is = cc is

headed_err : (accepts : Accepts) (first : Result Header Cause) (suffix : List ℕ) (line : ℕ) (why : Cause) → headed accepts first (parts_at 10 suffix) ≡ Err (refused line why) → ((first ≡ Err why) × (line ≡ 1)) ⊎ ((head : Header) × (first ≡ Ok head) × (after_head accepts head suffix ≡ Err (refused line why)))
headed_err accepts (Err found) suffix line why is =
    let same = same_refusal 1 line found why (same_whole (refused 1 found) (refused line why) is) in
    inl (ap (λ c. let r : Result Header Cause = Err c in r) same.1, sym same.0)
headed_err accepts (Ok head) suffix line why is = inr (head, refl, with_events_err head (after_head accepts head suffix) (refused line why) is)

joined_lines : (part suffix first rest : List ℕ) → part ≡ first → suffix ≡ rest → part ++ 10 ∷ suffix ≡ first ++ 10 ∷ rest
joined_lines part suffix first rest same more = rw (same, more) refl

line_accepted : (accepts : Accepts) (part suffix : List ℕ) (trace : Trace) → HasNone 10 part (length part) → trace_of accepts (part ++ 10 ∷ suffix) ≡ Ok trace → IsTrace accepts (part ++ 10 ∷ suffix) trace
line_accepted accepts part suffix trace none is =
    let all = headed_ok accepts (first_line accepts.versions part) suffix trace (sym (trace_of-line accepts part suffix none) ∙ is) in
    let first = first_read accepts.versions part all.0 all.1 in
    let rest = reads_all (accepts.verbs all.0.version) (limits_of accepts.tick all.0.cpus) first_world 2 suffix all.2.0 all.2.1 in
    subst (IsTrace accepts (part ++ 10 ∷ suffix)) all.2.2 (record {
      text = joined_lines part suffix (header_line all.0) (lines_of all.2.0) first.spelled rest.text;
      version = first.known;
      cpus = first.counted;
      known = rest.known;
      accepted = record {
        fit = rest.fit;
        legal = rest.legal;
        ends = last_end (limits_of accepts.tick all.0.cpus) first_world all.2.0 refl rest.legal rest.ended;
      };
    })

is_accepted : (accepts : Accepts) (bytes : List ℕ) (trace : Trace) → trace_of accepts bytes ≡ Ok trace → IsTrace accepts bytes trace
is_accepted accepts bytes trace is = ⊎_elim
    (λ none. absurd (cc (sym (trace_of-rest accepts bytes none) ∙ is)))
    (λ (c : Cut 10 bytes). subst (λ bs. IsTrace accepts bs trace) (sym c.whole) (line_accepted accepts c.line c.suffix trace c.none (sym (ap (trace_of accepts) c.whole) ∙ is)))
    (cut 10 bytes)

rest_of_all : (verbs : List Verb) (limits : Limits) (w : World) (line : ℕ) (events : List Event) → AllFit events → AreKnown verbs events → AreLegal limits w events → (after_from w events).ended ≡ true → rest_from verbs limits w line (lines_of events) ≡ Ok events
rest_of_all verbs limits w line events fit known legal ended =
    ap (rest_from verbs limits w line) (sym (append-nil (lines_of events)))
    ∙ rest_from-lines verbs limits w line events [] fit known legal
    ∙ ap (followed events) (nothing_left verbs limits (after_from w events) (line + length events) ended)
    ∙ ap (λ es. let r : Events = Ok es in r) (append-nil events)

are_accepted : (accepts : Accepts) (bytes : List ℕ) (trace : Trace) → IsTrace accepts bytes trace → trace_of accepts bytes ≡ Ok trace
are_accepted accepts bytes trace is =
    let ended = ended_last first_world trace.events is.accepted.ends in
    let head : Header = head_of trace in
    ap (trace_of accepts) is.text
    ∙ trace_of-line accepts (header_line head) (lines_of trace.events) (whole_header head is.cpus)
    ∙ ap (λ first. headed accepts first (parts_at 10 (lines_of trace.events))) (first_back accepts.versions head is.version is.cpus)
    ∙ ap (with_events head) (rest_of_all (accepts.verbs trace.version) (limits_of accepts.tick trace.cpus) first_world 2 trace.events is.accepted.fit is.known is.accepted.legal ended)

pub accepted : Accepted
accepted accepts bytes trace = (is_accepted accepts bytes trace, are_accepted accepts bytes trace)

line_refused : (accepts : Accepts) (part suffix : List ℕ) (line : ℕ) (why : Cause) → HasNone 10 part (length part) → trace_of accepts (part ++ 10 ∷ suffix) ≡ Err (refused line why) → IsRefused accepts (part ++ 10 ∷ suffix) line why
line_refused accepts part suffix line why none is = ⊎_elim
    (λ here. inl (here.1, inl (part, (none, (suffix, refl)), here.0)))
    (λ all.
    let first = first_read accepts.versions part all.0 all.1 in
    let later = refuses_all (accepts.verbs all.0.version) (limits_of accepts.tick all.0.cpus) first_world 2 suffix line why all.2 in
    let bytes : part ++ 10 ∷ suffix ≡ text_of (made all.0 later.prefix) ++ later.rest = joined_lines part suffix (header_line all.0) (lines_of later.prefix ++ later.rest) first.spelled later.bytes_are ∙ sym (append_assoc (header_line all.0) (10 ∷ lines_of later.prefix) later.rest) in
    inr (record {
      version = all.0.version;
      cpus = all.0.cpus;
      prefix = later.prefix;
      rest = later.rest;
      bytes_are = bytes;
      version_is = first.known;
      counted = first.counted;
      fit = later.fit;
      known = later.known;
      legal = later.legal;
      line_is = omega (arith, later.at_is);
      has = later.has;
    }))
    (headed_err accepts (first_line accepts.versions part) suffix line why (sym (trace_of-line accepts part suffix none) ∙ is))

is_refused : (accepts : Accepts) (bytes : List ℕ) (line : ℕ) (why : Cause) → trace_of accepts bytes ≡ Err (refused line why) → IsRefused accepts bytes line why
is_refused accepts bytes line why is = ⊎_elim
    (λ none.
    let same = same_refusal 1 line (first_rest bytes) why (same_whole (refused 1 (first_rest bytes)) (refused line why) (sym (trace_of-rest accepts bytes none) ∙ is)) in
    inl (sym same.0, inr (none, same.1)))
    (λ (c : Cut 10 bytes). subst (λ bs. IsRefused accepts bs line why) (sym c.whole) (line_refused accepts c.line c.suffix line why c.none (sym (ap (trace_of accepts) c.whole) ∙ is)))
    (cut 10 bytes)

first_refused : (accepts : Accepts) (bytes : List ℕ) (line : ℕ) (why : Cause) → line ≡ 1 → IsFirstLineCause accepts.versions bytes why → trace_of accepts bytes ≡ Err (refused line why)
first_refused accepts bytes line why first has = ⊎_elim
    (λ found. ap (trace_of accepts) found.1.1.1 ∙ trace_of-line accepts found.0 found.1.1.0 found.1.0 ∙ ap (λ r. headed accepts r (parts_at 10 found.1.1.0)) found.2 ∙ ap (λ n. let r : Whole = Err (refused n why) in r) (sym first))
    (λ found. trace_of-rest accepts bytes found.0 ∙ ap (λ c. let r : Whole = Err (refused 1 c) in r) found.1 ∙ ap (λ n. let r : Whole = Err (refused n why) in r) (sym first))
    has

later_refused : (accepts : Accepts) (bytes : List ℕ) (line : ℕ) (why : Cause) → IsRefusedLater accepts bytes line why → trace_of accepts bytes ≡ Err (refused line why)
later_refused accepts bytes line why is =
    let head : Header = record { version = is.version; cpus = is.cpus } in
    let verbs : List Verb = accepts.verbs is.version in
    let limits : Limits = limits_of accepts.tick is.cpus in
    let count : 2 + length is.prefix ≡ line = omega (arith, is.line_is) in
    ap (trace_of accepts) (is.bytes_are ∙ append_assoc (header_line head) (10 ∷ lines_of is.prefix) is.rest)
    ∙ trace_of-line accepts (header_line head) (lines_of is.prefix ++ is.rest) (whole_header head is.counted)
    ∙ ap (λ first. headed accepts first (parts_at 10 (lines_of is.prefix ++ is.rest))) (first_back accepts.versions head is.version_is is.counted)
    ∙ ap (with_events head) (rest_from-lines verbs limits first_world 2 is.prefix is.rest is.fit is.known is.legal ∙ ap (followed is.prefix) (rest_from-cause verbs limits (after is.prefix) (2 + length is.prefix) is.rest why is.has))
    ∙ ap (λ n. let r : Whole = Err (refused n why) in r) count

pub refused_first : FirstRefused
refused_first accepts bytes line why = (is_refused accepts bytes line why, λ is. ⊎_elim (λ here. first_refused accepts bytes line why here.0 here.1) (later_refused accepts bytes line why) is)
