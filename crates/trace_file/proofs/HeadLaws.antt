-- Proofs that reading the header of a trace agrees with the definition for its bytes.
use Rattle.std.proofs.Common.{◌≡◌, ℕ, ◌≤◌, List, [], length, refl, ap, ◌∙◌, arith, ⊎_elim, Bool, false}
use Rattle.std.specs.Prelude.{Result, Ok, Err, None, Some, nat_lt, if◌then◌else◌}
use Rattle.psi_base.specs.Path.{parts_at}
use Rattle.psi_base.specs.declared.event.Cause.{Cause}
use Rattle.psi_base.specs.declared.event.Cause.TheVariants as cause
use Rattle.psi_base.specs.declared.event.Refusal.{Refusal}
use Rattle.psi_lines.specs.Lines.{BeginsWithLine, IsTooLong, IsCut, Reader, left}
use Rattle.psi_lines.specs.Next.{NextOf}
use Rattle.psi_lines.specs.declared.lines.LineFault.{LineFault}
use Rattle.psi_lines.specs.declared.lines.LineFault.TheVariants as lines
use Rattle.psi_spec.specs.World.{first_world}
use Rattle.psi_spec.specs.Grammar.{Header, Version, header_of}
use Rattle.psi_spec.specs.Header.{header_with}
use Rattle.psi_spec.specs.Trace.{Trace, accepts_with, first_line, first_rest, headed, limits_of, refused, trace_of, with_events}
use Rattle.trace_laws.proofs.Splitting.{Cut, cut}
use Rattle.trace_laws.proofs.Accepting.{trace_of-line, trace_of-rest}
use Rattle.trace_file.specs.Reads.{RefusalOf, rest_from, trace_fault, verbs_in}
use Rattle.trace_file.proofs.LineLaws.{long_cut, not_long}

pub header_read : (versions : List Version) (tick number cpus : ℕ) (bytes part suffix : List ℕ) → BeginsWithLine bytes part suffix → first_line versions part ≡ Ok (header_with number cpus) → trace_of (accepts_with versions tick) bytes ≡ with_events (header_with number cpus) (rest_from (verbs_in number) (limits_of tick cpus) first_world 2 suffix)
header_read versions tick number cpus bytes part suffix begins is =
    ap (trace_of (accepts_with versions tick)) begins.whole ∙ trace_of-line (accepts_with versions tick) part suffix begins.one ∙ ap (λ r. headed (accepts_with versions tick) r (parts_at 10 suffix)) is

pub header_refused : (versions : List Version) (tick : ℕ) (bytes part suffix : List ℕ) (why : Cause) → BeginsWithLine bytes part suffix → first_line versions part ≡ Err why → trace_of (accepts_with versions tick) bytes ≡ Err (refused 1 why)
header_refused versions tick bytes part suffix why begins is =
    ap (trace_of (accepts_with versions tick)) begins.whole ∙ trace_of-line (accepts_with versions tick) part suffix begins.one ∙ ap (λ r. headed (accepts_with versions tick) r (parts_at 10 suffix)) is

first_runs_out : (n : ℕ) → n ≤ 512 → (if nat_lt 512 n then cause.LineTooLong else cause.BadHeader) ≡ cause.BadHeader
first_runs_out n short = grind (arith, short)

first_too_long : (n : ℕ) → 513 ≤ n → (if nat_lt 512 n then cause.LineTooLong else cause.BadHeader) ≡ cause.LineTooLong
first_too_long n long = grind (arith, long)

pub header_cut : (versions : List Version) (tick : ℕ) (bytes : List ℕ) → IsCut bytes → trace_of (accepts_with versions tick) bytes ≡ Err (refused 1 cause.BadHeader)
unfolding first_rest
header_cut versions tick bytes is = trace_of-rest (accepts_with versions tick) bytes is.none ∙ ap (λ why. let r : Result Trace Refusal = Err (refused 1 why) in r) (first_runs_out (length bytes) is.short)

pub header_none : (versions : List Version) (tick : ℕ) (bytes : List ℕ) → bytes ≡ [] → trace_of (accepts_with versions tick) bytes ≡ Err (refused 1 cause.BadHeader)
unfolding first_rest
header_none versions tick bytes is = ap (trace_of (accepts_with versions tick)) is ∙ trace_of-rest (accepts_with versions tick) [] (λ k below. absurd (omega (arith, below))) ∙ ap (λ why. let r : Result Trace Refusal = Err (refused 1 why) in r) (first_runs_out 0 (omega arith))

line_too_long : (n : ℕ) (read : Result Header Cause) → 513 ≤ n → (if nat_lt 512 n then Err cause.LineTooLong else read) ≡ Err cause.LineTooLong
line_too_long n read long = grind (arith, long)

pub header_long : (versions : List Version) (tick : ℕ) (bytes : List ℕ) → IsTooLong bytes → trace_of (accepts_with versions tick) bytes ≡ Err (refused 1 cause.LineTooLong)
unfolding first_rest first_line
header_long versions tick bytes is = ⊎_elim
    (λ none. trace_of-rest (accepts_with versions tick) bytes none ∙ ap (λ why. let r : Result Trace Refusal = Err (refused 1 why) in r) (first_too_long (length bytes) is.long))
    (λ (c : Cut 10 bytes).
    ap (trace_of (accepts_with versions tick)) c.whole ∙ trace_of-line (accepts_with versions tick) c.line c.suffix c.none ∙ ap (λ r. headed (accepts_with versions tick) r (parts_at 10 c.suffix)) (line_too_long (length c.line) _ (long_cut bytes c is)))
    (cut 10 bytes)

-- A fault of the first line is the fault of the trace.
pub header_not_read : (versions : List Version) (tick : ℕ) (bytes : List ℕ) (old new : Reader) (fault : LineFault) → old.number ≡ 1 → NextOf bytes old new (Err fault) → RefusalOf (trace_fault cause.BadHeader fault) (trace_of (accepts_with versions tick) (left old bytes))
header_not_read versions tick bytes old new (lines.TooLong line) first found = rw (found.1, first) (header_long versions tick (left old bytes) found.0)
header_not_read versions tick bytes old new (lines.Cut line) first found = rw (found.1, first) (header_cut versions tick (left old bytes) found.0)
header_not_read versions tick bytes old new lines.NoFile first found = tt
header_not_read versions tick bytes old new lines.ReadFault first found = tt
header_not_read versions tick bytes old new (lines.NoMemory _) first found = tt

-- A line that isn't too long is accepted or rejected as a header.
short_first : (long : Bool) (read : Result Header Cause) → long ≡ false → (if long then Err cause.LineTooLong else read) ≡ read
short_first long read is = rw is refl

pub first_known : (versions : List Version) (line : List ℕ) (head : Header) → length line ≤ 512 → header_of versions line ≡ Some head → first_line versions line ≡ Ok head
unfolding first_line
first_known versions line head short is = short_first (nat_lt 512 (length line)) _ (not_long (length line) short) ∙ rw is refl

pub first_other : (versions : List Version) (line : List ℕ) → length line ≤ 512 → header_of versions line ≡ None → first_line versions line ≡ Err cause.BadHeader
unfolding first_line
first_other versions line short none = short_first (nat_lt 512 (length line)) _ (not_long (length line) short) ∙ rw none refl
