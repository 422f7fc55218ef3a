-- Proofs that reading lines agrees with the definition over a whole text.
use Rattle.std.proofs.Common.{◌≡◌, ◌≢◌, ℕ, suc, ◌+◌, ◌≤◌, ◌<◌, List, [], ◌∷◌, ◌++◌, refl, ap, ◌∙◌, sym, subst, arith, append_assoc, cond, true, false, Option, Some, length, ◌⊎◌, ⊎_elim, get_or}
use Rattle.std.proofs.Math.Seq.{get_or-append_seam}
use Rattle.std.specs.Prelude.{nat_lt, Result, Ok, Err}
use Rattle.psi_base.specs.Path.{parts_at}
use Rattle.psi_base.specs.declared.event.Event.{Event}
use Rattle.psi_base.specs.declared.event.Fault.{Fault}
use Rattle.psi_base.specs.declared.event.Fault.TheVariants as fault
use Rattle.psi_base.proofs.PartLaws.{HasFirst, HasNone, first_part, parts_at-all, parts_at-line}
use Rattle.trace_laws.proofs.Splitting.{Cut, cut}
use Rattle.psi_lines.specs.Lines.{BeginsWithLine, IsCut, IsTooLong, Reader, left}
use Rattle.psi_lines.specs.Next.{NextOf}
use Rattle.psi_lines.specs.declared.lines.LineFault.{LineFault}
use Rattle.psi_lines.specs.declared.lines.LineFault.TheVariants as lines
use Rattle.import_spec.specs.declared.cause.ImportCause.{ImportCause}
use Rattle.import_spec.specs.declared.cause.ImportCause.TheVariants as cause
use Rattle.import_spec.specs.Events.{LineEvents, Reached, events_of_line, unreached}
use Rattle.import_spec.specs.Import.{Refused, end_at, ends_or, events_followed, import_from, import_of, yield_of_line, or_refused_line, import_refused, tail_cause}
use Rattle.ftrace_import.specs.declared.taking.Gathering.{Gathering}
use Rattle.ftrace_import.specs.declared.text.ImportFault.{ImportFault}
use Rattle.ftrace_import.specs.declared.text.ImportFault.TheVariants as import
use Rattle.ftrace_import.specs.Deeds.{events_by}
use Rattle.ftrace_import.specs.Gathers.{Gathers, HasTaken, IsGathered, IsLineFault, LineTaken, LinesGive, RefusalOf, TakesLine, import_fault, reached_in, rest_from, whole_events}
use Rattle.ftrace_import.proofs.Gathered.{all_end}

abbrev Answer : Type 0
Answer = Result (List Event) Refused

-- ---- one line

step_parts : (cpus : ℕ) (reached : Reached) (number : ℕ) (line : List ℕ) (parts : List (List ℕ)) → HasFirst parts → import_from cpus reached number (line ∷ parts) ≡ or_refused_line number (yield_of_line cpus reached number line) (λ suffix. import_from cpus suffix (number + 1) parts)
unfolding import_from
step_parts cpus reached number line parts has = rw has.2 refl

rest_line : (cpus : ℕ) (reached : Reached) (number : ℕ) (line suffix : List ℕ) → HasNone 10 line (length line) → rest_from cpus reached number (line ++ 10 ∷ suffix) ≡ or_refused_line number (yield_of_line cpus reached number line) (λ r. rest_from cpus r (number + 1) suffix)
rest_line cpus reached number line suffix none = rw (parts_at-line 10 line suffix none) (step_parts cpus reached number line (parts_at 10 suffix) (first_part 10 suffix))

rest_last : (cpus : ℕ) (reached : Reached) (number : ℕ) (rest : List ℕ) → HasNone 10 rest (length rest) → rest_from cpus reached number rest ≡ ends_or reached number (tail_cause number rest)
unfolding import_from
rest_last cpus reached number rest none = rw (parts_at-all 10 rest none) refl

low_number : (number : ℕ) → number ≤ 16000000 → nat_lt 16000000 number ≡ false
low_number number few = grind (arith, few)

high_number : (number : ℕ) → 16000000 < number → nat_lt 16000000 number ≡ true
high_number number many = grind (arith, many)

short_line : (n : ℕ) → n ≤ 512 → nat_lt 512 n ≡ false
short_line n short = grind (arith, short)

long_line : (n : ℕ) → 513 ≤ n → nat_lt 512 n ≡ true
long_line n long = grind (arith, long)

events_plain : (cpus : ℕ) (reached : Reached) (number : ℕ) (line : List ℕ) → number ≤ 16000000 → length line ≤ 512 → yield_of_line cpus reached number line ≡ events_of_line cpus reached line
unfolding yield_of_line
events_plain cpus reached number line few short = rw (low_number number few, short_line (length line) short) refl

events_long : (cpus : ℕ) (reached : Reached) (number : ℕ) (line : List ℕ) → number ≤ 16000000 → 513 ≤ length line → yield_of_line cpus reached number line ≡ Err cause.LineTooLong
unfolding yield_of_line
events_long cpus reached number line few long = rw (low_number number few, long_line (length line) long) refl

events_many : (cpus : ℕ) (reached : Reached) (number : ℕ) (line : List ℕ) → 16000000 < number → yield_of_line cpus reached number line ≡ Err cause.TooManyLines
unfolding yield_of_line
events_many cpus reached number line many = rw (high_number number many) refl

-- If a text begins with a complete line, its result is the line's result followed by the result of
-- the rest.
at_line : (cpus : ℕ) (reached : Reached) (number : ℕ) (bytes line suffix : List ℕ) (r : Result LineEvents ImportCause) → number ≤ 16000000 → BeginsWithLine bytes line suffix → events_of_line cpus reached line ≡ r → rest_from cpus reached number bytes ≡ or_refused_line number r (λ next. rest_from cpus next (number + 1) suffix)
at_line cpus reached number bytes line suffix r few begins is =
    ap (rest_from cpus reached number) begins.whole ∙ rest_line cpus reached number line suffix begins.one
    ∙ ap (λ r. or_refused_line number r (λ next. rest_from cpus next (number + 1) suffix)) (events_plain cpus reached number line few begins.short ∙ is)

-- ---- the end

rest_some : (number : ℕ) (rest : List ℕ) (why : ImportCause) → rest ≢ [] → (cond (nat_lt 16000000 number) cause.TooManyLines (cond (nat_lt 512 (length rest)) cause.LineTooLong cause.Cut)) ≡ why → tail_cause number rest ≡ Some why
unfolding tail_cause
rest_some number [] why some is = absurd (some refl)
rest_some number (byte ∷ rest) why some is =
    elim (nat_lt 16000000 number) as (λ b. cond b cause.TooManyLines (cond (nat_lt 512 (suc (length rest))) cause.LineTooLong cause.Cut) ≡ why → cond b (Some cause.TooManyLines) (cond (nat_lt 512 (suc (length rest))) (Some cause.LineTooLong) (Some cause.Cut)) ≡ Some why) [
      | true ↦ λ e. ap (λ w. let o : Option ImportCause = Some w in o) e
      | false ↦ λ e.
          elim (nat_lt 512 (suc (length rest))) as (λ b. cond b cause.LineTooLong cause.Cut ≡ why → cond b (Some cause.LineTooLong) (Some cause.Cut) ≡ Some why) [
            | true ↦ λ e. ap (λ w. let o : Option ImportCause = Some w in o) e
            | false ↦ λ e. ap (λ w. let o : Option ImportCause = Some w in o) e
          ] e
    ] is

no_byte : HasNone 10 [] 0
no_byte k below = absurd (omega (arith, below))

pub rest_none : (cpus : ℕ) (reached : Reached) (number : ℕ) (bytes : List ℕ) → bytes ≡ [] → rest_from cpus reached number bytes ≡ Ok (end_at reached ∷ [])
unfolding tail_cause
rest_none cpus reached number bytes is = ap (rest_from cpus reached number) is ∙ rest_last cpus reached number [] no_byte

some_bytes : (bytes : List ℕ) → 0 < length bytes → bytes ≢ []
some_bytes bytes some is = let none = ap length is in absurd (omega (arith, some, none))

refusal_at : (reached : Reached) (number : ℕ) (why : ImportCause) (o : Option ImportCause) → o ≡ Some why → ends_or reached number o ≡ Err (import_refused number why)
refusal_at reached number why o is = ap (ends_or reached number) is

-- A text that ends inside a line is rejected with the cause `Cut`.
rest_cut : (cpus : ℕ) (reached : Reached) (number : ℕ) (bytes : List ℕ) → number ≤ 16000000 → IsCut bytes → rest_from cpus reached number bytes ≡ Err (import_refused number cause.Cut)
rest_cut cpus reached number bytes few is =
    rest_last cpus reached number bytes is.none
    ∙ refusal_at reached number cause.Cut (tail_cause number bytes) (rest_some number bytes cause.Cut (some_bytes bytes is.some) (rw (low_number number few, short_line (length bytes) is.short) refl))

-- A line whose first 513 bytes contain no newline has more than 512 bytes.
long_first : (bytes : List ℕ) (c : Cut 10 bytes) → IsTooLong bytes → 513 ≤ length c.line
long_first bytes c is =
    let case : (513 ≤ length c.line) ⊎ (length c.line < 513) = grind arith in
    ⊎_elim (λ long. long) (λ short. absurd (is.none (length c.line) short (ap (λ bs. get_or bs (length c.line) 0) c.whole ∙ get_or-append_seam c.line 10 c.suffix 0))) case

rest_long : (cpus : ℕ) (reached : Reached) (number : ℕ) (bytes : List ℕ) → number ≤ 16000000 → IsTooLong bytes → rest_from cpus reached number bytes ≡ Err (import_refused number cause.LineTooLong)
rest_long cpus reached number bytes few is = ⊎_elim
    (λ none.
    rest_last cpus reached number bytes none
    ∙ refusal_at reached number cause.LineTooLong (tail_cause number bytes) (rest_some number bytes cause.LineTooLong (let long = is.long in some_bytes bytes (omega (arith, long))) (rw (low_number number few, long_line (length bytes) is.long) refl)))
    (λ (c : Cut 10 bytes).
    ap (rest_from cpus reached number) c.whole ∙ rest_line cpus reached number c.line c.suffix c.none
    ∙ ap (λ r. or_refused_line number r (λ next. rest_from cpus next (number + 1) c.suffix)) (events_long cpus reached number c.line few (long_first bytes c is)))
    (cut 10 bytes)

-- A text with bytes after the maximum number of lines is rejected with `TooManyLines`.
pub rest_many : (cpus : ℕ) (reached : Reached) (number : ℕ) (bytes : List ℕ) → 16000000 < number → bytes ≢ [] → rest_from cpus reached number bytes ≡ Err (import_refused number cause.TooManyLines)
rest_many cpus reached number bytes many some = ⊎_elim
    (λ none.
    rest_last cpus reached number bytes none
    ∙ refusal_at reached number cause.TooManyLines (tail_cause number bytes) (rest_some number bytes cause.TooManyLines some (rw (high_number number many) refl)))
    (λ (c : Cut 10 bytes).
    ap (rest_from cpus reached number) c.whole ∙ rest_line cpus reached number c.line c.suffix c.none
    ∙ ap (λ r. or_refused_line number r (λ next. rest_from cpus next (number + 1) c.suffix)) (events_many cpus reached number c.line many))
    (cut 10 bytes)

-- ---- the result of the next line

pub next_taken : (old new : Gathering) (number : ℕ) (line : List ℕ) (before suffix : List ℕ → List ℕ) (known : Option (List ℕ)) → number ≤ 16000000 → HasTaken (events_of_line old.cpus (reached_in old) line) old new
    → ((bytes : List ℕ) → known ≡ Some bytes → BeginsWithLine (before bytes) line (suffix bytes)) → LineTaken number old new before suffix known
next_taken old new number line before suffix known few taken begins = record {
  so = taken.so;
  cpus = taken.cpus;
  events = taken.suffix.events;
  kept = taken.kept;
  read = λ bytes shows.
      at_line old.cpus (reached_in old) number (before bytes) line (suffix bytes) (Ok taken.suffix) few (begins bytes shows) taken.is
      ∙ ap (λ (r : Reached). events_followed taken.suffix.events (rest_from old.cpus r (number + 1) (suffix bytes))) (sym taken.reached);
}

pub next_refused : (old new : Gathering) (number : ℕ) (line : List ℕ) (before suffix : List ℕ → List ℕ) (known : Option (List ℕ)) (why : Fault ImportCause) (found : ImportFault) → number ≤ 16000000 → IsLineFault number why found → TakesLine (events_of_line old.cpus (reached_in old) line) old new (Err why)
    → ((bytes : List ℕ) → known ≡ Some bytes → BeginsWithLine (before bytes) line (suffix bytes)) → (bytes : List ℕ) → known ≡ Some bytes → RefusalOf found (rest_from old.cpus (reached_in old) number (before bytes))
next_refused old new number line before suffix known (fault.Refused cause) found few is taken begins bytes shows =
    rw is (at_line old.cpus (reached_in old) number (before bytes) line (suffix bytes) (Err cause) few (begins bytes shows) taken)
next_refused old new number line before suffix known (fault.NoMemory none) found few is taken begins bytes shows = rw is tt

pub not_read : (g : Gathering) (bytes : List ℕ) (old new : Reader) (why : LineFault) → old.number ≤ 16000000 → NextOf bytes old new (Err why) → RefusalOf (import_fault why) (rest_from g.cpus (reached_in g) old.number (left old bytes))
not_read g bytes old new (lines.TooLong number) few found = rw found.1 (rest_long g.cpus (reached_in g) old.number (left old bytes) few found.0)
not_read g bytes old new (lines.Cut number) few found = rw found.1 (rest_cut g.cpus (reached_in g) old.number (left old bytes) few found.0)
not_read g bytes old new lines.NoFile few found = tt
not_read g bytes old new lines.ReadFault few found = tt
not_read g bytes old new (lines.NoMemory none) few found = tt

-- ---- all lines

followed_none : (rest : Answer) → events_followed [] rest ≡ rest
followed_none (Ok events) = refl
followed_none (Err refusal) = refl

followed_on : (xs ys : List Event) (rest : Answer) → events_followed (xs ++ ys) rest ≡ events_followed xs (events_followed ys rest)
followed_on xs ys (Ok events) = ap (λ es. let r : Answer = Ok es in r) (append_assoc xs ys events)
followed_on xs ys (Err refusal) = refl

-- The invariant of the loop over the lines, before line `number`: the stored events, and the
-- remaining bytes.
pub record SoFar (cpus number : ℕ) (g : Gathering) (before suffix : List ℕ → List ℕ) (known : Option (List ℕ)) : Type 0 where
  pub so : IsGathered g
  pub cpus_are : g.cpus ≡ cpus
  pub read : (bytes : List ℕ) → known ≡ Some bytes → events_followed (events_by g.kept.items) (rest_from cpus (reached_in g) number (suffix bytes)) ≡ rest_from cpus unreached 1 (before bytes)

pub none_so_far : (cpus number : ℕ) (g : Gathering) (before : List ℕ → List ℕ) (known : Option (List ℕ)) → IsGathered g → g.cpus ≡ cpus → reached_in g ≡ unreached → g.kept.items ≡ [] → number ≡ 1 → SoFar cpus number g before before known
none_so_far cpus number g before known so is fresh none first = record {
  so = so;
  cpus_are = is;
  read = λ bytes shows. rw (none, fresh, first) (followed_none (rest_from cpus unreached 1 (before bytes)));
}

pub one_more : (cpus number : ℕ) (old new : Gathering) (before suffix later : List ℕ → List ℕ) (known : Option (List ℕ)) → SoFar cpus number old before suffix known → LineTaken number old new suffix later known → SoFar cpus (number + 1) new before later known
one_more cpus number old new before suffix later known so taken = record {
  so = taken.so;
  cpus_are = taken.cpus ∙ so.cpus_are;
  read = λ bytes shows.
      let here = subst (λ n. rest_from n (reached_in old) number (suffix bytes) ≡ events_followed taken.events (rest_from n (reached_in new) (number + 1) (later bytes))) so.cpus_are (taken.read bytes shows) in
      ap (λ es. events_followed es (rest_from cpus (reached_in new) (number + 1) (later bytes))) taken.kept
      ∙ followed_on (events_by old.kept.items) taken.events (rest_from cpus (reached_in new) (number + 1) (later bytes))
      ∙ ap (events_followed (events_by old.kept.items)) (sym here) ∙ so.read bytes shows;
}

-- The fault of a line is the fault of the whole text.
faulted : (events : List Event) (rest whole : Answer) (why : ImportFault) → events_followed events rest ≡ whole → RefusalOf why rest → RefusalOf why whole
faulted events rest whole (import.Refused number cause) is found = sym is ∙ ap (events_followed events) found
faulted events rest whole import.NoFile is found = tt
faulted events rest whole import.ReadFault is found = tt
faulted events rest whole (import.NoMemory none) is found = tt

pub fault_here : (cpus number : ℕ) (old : Gathering) (before suffix : List ℕ → List ℕ) (known : Option (List ℕ)) (why : ImportFault) → SoFar cpus number old before suffix known → ((bytes : List ℕ) → known ≡ Some bytes → RefusalOf why (rest_from old.cpus (reached_in old) number (suffix bytes)))
    → (bytes : List ℕ) → known ≡ Some bytes → RefusalOf why (rest_from cpus unreached 1 (before bytes))
fault_here cpus number old before suffix known why so found bytes shows =
    faulted (events_by old.kept.items) (rest_from cpus (reached_in old) number (suffix bytes)) (rest_from cpus unreached 1 (before bytes)) why (so.read bytes shows)
    (subst (λ n. RefusalOf why (rest_from n (reached_in old) number (suffix bytes))) so.cpus_are (found bytes shows))

-- If no further line follows, the stored events and the end are the result of the whole text.
pub ends_here : (cpus number : ℕ) (old : Gathering) (before suffix : List ℕ → List ℕ) (known : Option (List ℕ)) → SoFar cpus number old before suffix known → ((bytes : List ℕ) → known ≡ Some bytes → rest_from old.cpus (reached_in old) number (suffix bytes) ≡ Ok (end_at (reached_in old) ∷ []))
    → (bytes : List ℕ) → known ≡ Some bytes → rest_from cpus unreached 1 (before bytes) ≡ Ok (whole_events old)
ends_here cpus number old before suffix known so found bytes shows =
    sym (so.read bytes shows) ∙ ap (events_followed (events_by old.kept.items)) (subst (λ n. rest_from n (reached_in old) number (suffix bytes) ≡ Ok (end_at (reached_in old) ∷ [])) so.cpus_are (found bytes shows))

-- ---- a whole text

-- The import of a text is the import of the remaining bytes from line 1.
whole : (cpus : ℕ) (bytes : List ℕ) → import_of cpus bytes ≡ rest_from cpus unreached 1 bytes
unfolding import_of
whole cpus bytes = refl

-- The reader before the first line of a file.
abbrev pub fresh_reader : List ℕ → Reader
fresh_reader name = record { name = name; number = 1; buffered = []; at = 0 }

pub gathered_all : (n cpus : ℕ) (new : Gathering) (old : Reader) (name : List ℕ) (known_of : List ℕ → Option (List ℕ)) (done : Unit {0}) → n ≡ cpus → old ≡ fresh_reader name → LinesGive n new (left old) (known_of old.name) (Ok done) → Gathers cpus (known_of name) (Ok new)
gathered_all n cpus new old name known_of done is fresh gives =
    let here = subst (λ (r : Reader). LinesGive n new (left r) (known_of r.name) (Ok done)) fresh gives in
    record {
      so = here.0;
      cpus_are = here.1 ∙ is;
      ends = all_end cpus new here.0 (here.1 ∙ is);
      read = λ bytes shows. whole cpus bytes ∙ subst (λ m. rest_from m unreached 1 bytes ≡ Ok (whole_events new)) is (here.2 bytes shows);
    }

pub gathered_none : (n cpus : ℕ) (new : Gathering) (old : Reader) (name : List ℕ) (known_of : List ℕ → Option (List ℕ)) (why : ImportFault) → n ≡ cpus → old ≡ fresh_reader name → LinesGive n new (left old) (known_of old.name) (Err why) → Gathers cpus (known_of name) (Err why)
gathered_none n cpus new old name known_of why is fresh gives =
    let here = subst (λ (r : Reader). LinesGive n new (left r) (known_of r.name) (Err why)) fresh gives in
    λ bytes shows. rw (whole cpus bytes) (subst (λ m. RefusalOf why (rest_from m unreached 1 bytes)) is (here bytes shows))
