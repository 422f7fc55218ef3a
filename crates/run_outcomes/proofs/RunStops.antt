-- Laws of the place at which a run stops reading: after the first rejected line of a trace.
use Rattle.std.proofs.Common.{◌≡◌, ℕ, ◌+◌, ◌-◌, ◌≤◌, List, length, take, refl, sym, ap, ◌∙◌, subst, arith, Option, Some, Ok, Err, true≢false}
use Rattle.std.specs.Prelude.{Result, is_some}
use Rattle.outside.specs.Outside.{Files, content_of}
use Rattle.psi_base.specs.Path.{parts_at}
use Rattle.psi_base.specs.declared.event.Refusal.{Refusal}
use Rattle.psi_lines.specs.Next.{furthest}
use Rattle.psi_lines.proofs.Counts.{count-prefix}
use Rattle.psi_spec.specs.Grammar.{versions}
use Rattle.psi_spec.specs.Trace.{Trace, accepts_with, trace_of}
use Rattle.ruleset_json.specs.declared.types.Rule.{Rule}
use Rattle.run_spec.specs.declared.command.Command.{Command}
use Rattle.run_spec.specs.declared.command.Command.TheVariants as words
use Rattle.run_spec.specs.declared.status.Status.{Status}
use Rattle.run_spec.specs.declared.status.Status.TheVariants as status
use Rattle.run_spec.specs.MostRead.{most_until}
use Rattle.run_spec.specs.Outputs.{accepts_of, or_refused_trace, rules_name, source_name, source_of, parse_of}
use Rattle.run_spec.specs.Replay.{Timing}
use Rattle.run_spec.specs.Stops.{IsNotWhole, StopsAtRefusal, refused_line, rules_read}
use Rattle.trace_file.specs.Reads.{StopsAtRefusal as TraceStops}
use Rattle.trace_file.specs.declared.trace.TraceFault.{TraceFault}
use Rattle.trace_file.specs.declared.trace.TraceFault.TheVariants as fault
use Rattle.trace_file.proofs.StopLaws.{trace-line}
use Rattle.run_outcomes.specs.Writes.{IsStatusOf, WritesLast, WritesText}
use Rattle.run_outcomes.proofs.RunLaws.{Reads, same_name}

-- ---- a text that was written

-- if a text was written, no line was rejected and no read failed
pub written_stops : (command : Command) (files : Option Files) (bytes_read read_now : ℕ) (text : List ℕ) (before now : ℕ) (had has : Option (List ℕ)) (result : Status) → WritesText text before now had has result → StopsAtRefusal command files bytes_read read_now result
written_stops command files bytes_read read_now text before now had has status.Done wrote = tt
written_stops command files bytes_read read_now text before now had has status.WriteFault wrote = tt
written_stops command files bytes_read read_now text before now had has (status.NoMemory _) wrote = tt
written_stops command files bytes_read read_now text before now had has _ wrote = absurd wrote

-- if the output of `whatif` was written, no line was rejected and no read failed
pub supposed_stops : (command : Command) (files : Option Files) (bytes_read read_now : ℕ) (trace : Trace) (timing : Timing) (rules : List Rule) (before now : ℕ) (had has : Option (List ℕ)) (result : Status) → WritesLast trace timing rules before now had has result
    → StopsAtRefusal command files bytes_read read_now result
supposed_stops command files bytes_read read_now trace timing rules before now had has status.Done wrote = tt
supposed_stops command files bytes_read read_now trace timing rules before now had has status.WriteFault wrote = tt
supposed_stops command files bytes_read read_now trace timing rules before now had has (status.NoMemory _) wrote = tt
supposed_stops command files bytes_read read_now trace timing rules before now had has (status.TooLarge events) wrote = tt
supposed_stops command files bytes_read read_now trace timing rules before now had has _ wrote = absurd wrote.2.2

-- ---- an incomplete line

-- a line that is incomplete in a prefix of the bytes is incomplete in a shorter prefix
pub fewer_read : (line few more : ℕ) (bytes : List ℕ) → few ≤ more → length (parts_at 10 (take more bytes)) ≤ line → IsNotWhole line few bytes
fewer_read line few more bytes fewer within = omega (arith, within, count-prefix bytes few more fewer)

-- in an empty prefix every line is incomplete
pub none_read : (line count : ℕ) (bytes : List ℕ) → count ≡ 0 → 1 ≤ line → IsNotWhole line count bytes
unfolding parts_at
none_read line count bytes none first = subst (λ n. IsNotWhole line n bytes) (sym none) first

-- ---- a trace that couldn't be read

-- If the status of a run reports a rejected trace, the trace has a rejected line, which the status
-- names.
refused_at : (read : Result Trace Refusal) (why : Status) → or_refused_trace read ≡ Err why → (refusal : Refusal) × (read ≡ Err refusal) × (refused_line why ≡ refusal.line)
refused_at (Ok trace) why is = absurd (let no : ⊥ = cc is in no)
refused_at (Err refusal) why is =
    let same : status.Trace refusal.line refusal.cause ≡ why = cc is in
    (refusal, refl, ap refused_line (sym same))

-- The bound on the bytes read from the trace also holds if rules files were read before.
suffix : (bytes_read middle read_now before line : ℕ) → middle ≤ bytes_read + before → read_now ≤ middle + furthest line → read_now ≤ bytes_read + (before + most_until line)
suffix bytes_read middle read_now before line first then = omega (arith, first, then)

-- A run that reads a trace after its rules files reads at most the allowed number of bytes.
pub trace_stops : (command : Command) (name : List ℕ) (tick : ℕ) (files : Option Files) (bytes_read middle read_now : ℕ) (found : TraceFault) (result : Status)
    → Reads command → source_name command ≡ Some name → accepts_of command ≡ accepts_with versions tick → middle ≤ bytes_read + rules_read command files
    → TraceStops {A = Unit {0}} tick (content_of files name) middle read_now (Err found) → IsStatusOf found result → StopsAtRefusal command files bytes_read read_now result
trace_stops command name tick files bytes_read middle read_now (fault.Refused refusal) result reads named same before stops is =
    subst (StopsAtRefusal command files bytes_read read_now) (sym is) (suffix bytes_read middle read_now (rules_read command files) refusal.line before stops)
trace_stops command name tick files bytes_read middle read_now fault.NoFile result reads named same before stops is = subst (StopsAtRefusal command files bytes_read read_now) (sym is) tt
trace_stops command name tick files bytes_read middle read_now fault.ReadFault result reads named same before stops is =
    subst (StopsAtRefusal command files bytes_read read_now) (sym is) (λ bytes why known refuses.
    let shows = subst (λ n. content_of files n ≡ Some bytes) (same_name command (source_of command) name known.0 named known.1) known.2 in
    let refused : or_refused_trace (trace_of (accepts_with versions tick) bytes) ≡ Err why = ap (λ accepts. or_refused_trace (trace_of accepts bytes)) (sym same) ∙ sym (reads bytes) ∙ refuses in
    let found = refused_at (trace_of (accepts_with versions tick) bytes) why refused in
    let within = stops bytes found.0 shows found.1 in
    fewer_read (refused_line why) (read_now - (bytes_read + rules_read command files)) (read_now - middle) bytes (omega (arith, before)) (omega (arith, within, found.2)))
trace_stops command name tick files bytes_read middle read_now (fault.NoMemory none) result reads named same before stops is = subst (StopsAtRefusal command files bytes_read read_now) (sym is) tt

-- ---- files of rules that couldn't be read

-- The first rejected line has a number of at least 1.
first_refused : (read : Result Trace Refusal) (why : Status) → ((refusal : Refusal) → read ≡ Err refusal → 1 ≤ refusal.line) → or_refused_trace read ≡ Err why → 1 ≤ refused_line why
first_refused read why later is =
    let found = refused_at read why is in
    omega (arith, later found.0 found.1, found.2)

line_from_one : (command : Command) (name bytes : List ℕ) (why : Status) → rules_name command ≡ Some name → parse_of command bytes ≡ Err why → 1 ≤ refused_line why
line_from_one (words.Import file cpus) name bytes why named is = absurd (true≢false (sym (ap is_some named)))
line_from_one (words.Stall trace) name bytes why named is = first_refused _ why (trace-line (accepts_of (words.Stall trace)) bytes) is
line_from_one (words.Check trace tick_ms) name bytes why named is = first_refused _ why (trace-line (accepts_of (words.Check trace tick_ms)) bytes) is
line_from_one (words.Replay trace options) name bytes why named is = first_refused _ why (trace-line (accepts_of (words.Replay trace options)) bytes) is
line_from_one (words.Gen shape) name bytes why named is = first_refused _ why (trace-line (accepts_of (words.Gen shape)) bytes) is
line_from_one (words.Stress shape workers) name bytes why named is = first_refused _ why (trace-line (accepts_of (words.Stress shape workers)) bytes) is
line_from_one (words.Rules file drop_in) name bytes why named is = first_refused _ why (trace-line (accepts_of (words.Rules file drop_in)) bytes) is
line_from_one (words.Whatif trace options) name bytes why named is = first_refused _ why (trace-line (accepts_of (words.Whatif trace options)) bytes) is

-- if reading the files of rules fails, no byte of the trace is read
pub rules_stop : (command : Command) (name : List ℕ) (files : Option Files) (bytes_read read_now : ℕ) → rules_name command ≡ Some name → read_now ≤ bytes_read + rules_read command files → StopsAtRefusal command files bytes_read read_now status.ReadFault
rules_stop command name files bytes_read read_now named within = λ bytes why known refuses.
    none_read (refused_line why) (read_now - (bytes_read + rules_read command files)) bytes (omega (arith, within)) (line_from_one command name bytes why named refuses)
