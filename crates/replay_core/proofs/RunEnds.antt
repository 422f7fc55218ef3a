-- The result of a run whose output is buffered, and what the status of a run says about the files.
use Rattle.std.proofs.Common.{◌≡◌, ◌≢◌, inl, inr, ℕ, ◌≤◌, List, [], ◌++◌, length, refl, sym, ap, ◌∙◌, subst, arith, Option, None, Some, true, true≢false}
use Rattle.std.specs.Prelude.{MatchOption, Result, Ok, Err, is_some, option_map}
use Rattle.std.specs.Io.KnownBytes.{Appends, Keeps, append_known}
use Rattle.std.proofs.lemmas.List.{append-nil, length-append, nil_from_length}
use Rattle.outside.specs.Outside.{Files, IsAbsent, Increased, bytes_of, known_count, content_of}
use Rattle.outside.specs.Reads.{ReadCall}
use Rattle.outside.specs.declared.shelf.ShelfFault.TheVariants as shelf
use Rattle.psi_base.specs.declared.event.Refusal.{Refusal}
use Rattle.psi_base.specs.declared.event.Event.{Event}
use Rattle.outside.proofs.Buffered.{flush_failed, flushed, put_failed}
use Rattle.psi_spec.specs.Trace.{Trace, text_of, trace_of}
use Rattle.import_spec.specs.Import.{Refused, import_of, import_trace}
use Rattle.run_spec.proofs.Missing.{from_import, from_trace, has_trace}
use Rattle.run_spec.specs.declared.command.Command.{Command}
use Rattle.run_spec.specs.declared.status.Status.{Status}
use Rattle.run_spec.specs.declared.status.Status.TheVariants as status
use Rattle.run_spec.specs.declared.command.Command.TheVariants.{Import, Replay}
use Rattle.run_spec.specs.declared.command.Command.TheVariants as words
use Rattle.run_spec.specs.declared.command.Options.{Options}
use Rattle.run_spec.specs.declared.status.Which.{Which}
use Rattle.run_spec.specs.declared.status.Which.TheVariants.{DropInFile, ImportFile, RulesFile, TraceFile}
use Rattle.run_spec.specs.Outputs.{IsOutput, accepts_of, drop_in_name, file_of, or_not_imported, or_refused_trace, or_rules_fault, outcome_of, timing_of, rules_from, rules_name, source_of, status_of_last, parse_of, watch_of_path, with_drop_in}
use Rattle.run_spec.specs.Replay.{IsReplayText, replay_text, with_rules}
use Rattle.run_laws.proofs.LiveTexts.{one_text_unwatched}
use Rattle.run_spec.specs.Promises.{Completes, RejectsRules, RejectsSource}
use Rattle.run_spec.specs.ReadOrder.{FailedAt, FailsAt, ReadsInOrder}
use Rattle.run_spec.specs.Run.{DropInContent, Ends, FailuresAreCounted, HasTrace, HasContent, IsPassed, IsThere, Refuses, RulesContent, RunCounts, Runs, TakesBase, TakesRules, TakesTrace, content_if_named}
use Rattle.ruleset_json.specs.Rules.{rules_of}
use Rattle.ruleset_json.specs.declared.fault.RulesFault.{RulesFault}
use Rattle.ruleset_json.specs.declared.types.Rule.{Rule}
use Rattle.ruleset_json.specs.declared.types.Rules.{Rules}
use Rattle.dropin_rules.specs.declared.fault.DropFault.{DropFault}
use Rattle.rules_file.proofs.RulesRuns.{named_bytes}
use Rattle.run_outcomes.proofs.RunLaws.{stays}

-- ---- with a buffered sink

kept_below : (had below : Option (List ℕ)) (pending : List ℕ) → Keeps (append_known had []) (append_known below pending) → known_count had ≤ known_count below → Keeps had below
kept_below None below pending kept more = tt
kept_below (Some had) None pending kept more = absurd kept
kept_below (Some had) (Some below) pending kept more =
    let same : below ++ pending ≡ had = kept ∙ append-nil had in
    let none : length pending ≡ 0 = omega (arith, more, ap length same, length-append below pending) in
    sym (append-nil below) ∙ ap (λ xs. below ++ xs) (sym (nil_from_length pending none)) ∙ same

ends_below : (command : Command) (files : Option Files) (had below : Option (List ℕ)) (pending : List ℕ) (result : Status) → result ≢ status.Done → Ends command files (append_known had []) (append_known below pending) result → known_count had ≤ known_count below → Ends command files had below result
ends_below command files had below pending status.Done not ends more = absurd (not refl)
ends_below command files had below pending status.WriteFault not ends more = (ends.0, ends.1, ends.2, ends.3, ends.4, ends.5, (ends.6.0, ends.6.1, put_failed had below pending ends.6.0 ends.6.2 more))
ends_below command files had below pending (status.Rules fault) not ends more = (kept_below had below pending ends.0 more, ends.1, ends.2)
ends_below command files had below pending (status.DropIn fault) not ends more = (kept_below had below pending ends.0 more, ends.1, ends.2, ends.3, ends.4)
ends_below command files had below pending (status.TooLarge events) not ends more = (kept_below had below pending ends.0 more, ends.1)
ends_below command files had below pending (status.Trace line why) not ends more = (kept_below had below pending ends.0 more, ends.1, ends.2, ends.3, ends.4)
ends_below command files had below pending (status.Import line why) not ends more = (kept_below had below pending ends.0 more, ends.1, ends.2, ends.3, ends.4)
ends_below command files had below pending (status.NoFile which) not ends more = (kept_below had below pending ends.0 more, ends.1, ends.2)
ends_below command files had below pending status.ReadFault not ends more = (kept_below had below pending ends.0 more, ends.1)
ends_below command files had below pending (status.NoMemory _) not ends more = kept_below had below pending ends more
ends_below command files had below pending status.Usage not ends more = ends

-- A run that isn't Done has written at most its output to the inner sink.
pub runs_below : (command : Command) (files : Option Files) (before now : RunCounts) (had below : Option (List ℕ)) (pending : List ℕ) (result : Status) → result ≢ status.Done
    → Runs command files before now (append_known had []) (append_known below pending) result → known_count had ≤ known_count below → Runs command files before now had below result
runs_below command files before now had below pending result not runs more = record {
  ends = ends_below command files had below pending result not runs.ends more;
  counts = runs.counts;
}

-- A run is Done if all buffered bytes were written to the inner sink.
pub runs_sent : (command : Command) (files : Option Files) (before mid now : RunCounts) (had sent below : Option (List ℕ)) (pending left : List ℕ)
    → Runs command files before mid (append_known had []) (append_known sent pending) status.Done → Keeps (append_known sent pending) (append_known below left) → left ≡ [] → now ≡ mid → Runs command files before now had below status.Done
runs_sent command files before mid now had sent below pending left runs kept none same = record {
  ends = (runs.ends.0, runs.ends.1, runs.ends.2, runs.ends.3, runs.ends.4, runs.ends.5, (runs.ends.6.0, runs.ends.6.1, flushed had sent below pending left runs.ends.6.0 runs.ends.6.2 kept none));
  counts = subst (λ n. FailuresAreCounted before n status.Done) (sym same) runs.counts;
}

-- A run ends with WriteFault if not all buffered bytes were written to the inner sink.
pub runs_unsent : (command : Command) (files : Option Files) (before mid now : RunCounts) (had sent below : Option (List ℕ)) (pending left : List ℕ)
    → Runs command files before mid (append_known had []) (append_known sent pending) status.Done → Keeps (append_known sent pending) (append_known below left) → known_count had ≤ known_count below
    → now.shelf ≡ mid.shelf → Increased mid.writes now.writes → Runs command files before now had below status.WriteFault
runs_unsent command files before mid now had sent below pending left runs kept more same increased = record {
  ends = (runs.ends.0, runs.ends.1, runs.ends.2, runs.ends.3, runs.ends.4, runs.ends.5, (runs.ends.6.0, runs.ends.6.1, flush_failed had sent below pending left runs.ends.6.0 runs.ends.6.2 kept more));
  counts = record {
    faults = stays _ before.shelf.faults now.shelf.faults (λ is. cc is) (ap (λ s. s.faults) same ∙ runs.counts.faults.same (λ is. cc is));
    absent = stays _ before.shelf.absent now.shelf.absent (λ is. cc is.1) (ap (λ s. s.absent) same ∙ runs.counts.absent.same (λ is. cc is.1));
    writes = record { increased = λ _. subst (λ n. Increased n now.writes) (runs.counts.writes.same (λ is. cc is)) increased; same = λ not. absurd (not refl) };
  };
}

-- ---- what a status says about files

-- if the bytes of a name are known, the name isn't missing
pub one_known : (files : Option Files) (name other bytes : List ℕ) (found : Option (List ℕ)) → found ≡ Some name → found ≡ Some other → content_of files name ≡ Some bytes → content_of files other ≡ None → ⊥
one_known files name other bytes found is also shows none = cc (is, also, shows, none)

-- `rules` are the rulesets of the rules file `name` with the command's drop-in file applied. The
-- bytes of both files are known.
abbrev pub AreReported : Command → Option Files → List Rule → List ℕ → Type 0
AreReported command files rules name =
    (bytes : List ℕ) × (drop_in : Option (List ℕ)) × (content_of files name ≡ Some bytes) × DropInContent command files drop_in
    × (rules_from bytes drop_in ≡ Ok (record { rules = rules }))

-- If the command names a rules file and the rulesets are known, they come from the bytes of this
-- file.
known_bytes : (command : Command) (files : Option Files) (rules : List Rule) (name : List ℕ) → rules_name command ≡ Some name → RulesContent command files rules
    → AreReported command files rules name
known_bytes command files rules name named shows =
    subst (λ n. MatchOption n (rules ≡ []) (AreReported command files rules)) named shows

-- If the command names no rules file, it has no rulesets.
known_none : (command : Command) (files : Option Files) (rules : List Rule) → rules_name command ≡ None → RulesContent command files rules → rules ≡ []
known_none command files rules named shows =
    subst (λ n. MatchOption n (rules ≡ []) (AreReported command files rules)) named shows

of_rules : (one other : List Rule) (read : Result Rules Status) → read ≡ Ok (record { rules = one }) → read ≡ Ok (record { rules = other }) → one ≡ other
of_rules one other read is also = let same : record { rules = one } ≡ record { rules = other } = cc (is, also) in ap (λ (r : Rules). r.rules) same

-- The rulesets that a command takes are the known rulesets.
by_name : (command : Command) (files : Option Files) (taken rules : List Rule) (named : Option (List ℕ)) → rules_name command ≡ named → TakesRules command files taken → RulesContent command files rules → taken ≡ rules
by_name command files taken rules None is takes shows = takes.none is ∙ sym (known_none command files rules is shows)
by_name command files taken rules (Some name) is takes shows =
    let found = known_bytes command files rules name is shows in
    of_rules taken rules (rules_from found.0 found.1) (takes.read found.0 found.1 (name, is, found.2) found.3) found.4

pub same_rules : (command : Command) (files : Option Files) (taken rules : List Rule) → TakesRules command files taken → RulesContent command files rules → taken ≡ rules
same_rules command files taken rules takes shows = by_name command files taken rules (rules_name command) refl takes shows

-- An error in a rules file is reported with any drop-in file.
pub fault_first : (bytes : List ℕ) (drop_in : Option (List ℕ)) (fault : RulesFault) → rules_of bytes ≡ Err fault → rules_from bytes drop_in ≡ Err (status.Rules fault)
fault_first bytes drop_in fault is = ap (λ read. with_drop_in drop_in (or_rules_fault read)) is

-- A run finds no error in rules that are known to be accepted.
pub no_fault : (command : Command) (files : Option Files) (rules : List Rule) (fault : RulesFault) (had has : Option (List ℕ)) → RulesContent command files rules → Ends command files had has (status.Rules fault) → ⊥
no_fault command files rules fault had has shows ends =
    let found = known_bytes command files rules ends.2.0 ends.2.1 shows in
    let good = found.4 in
    let other = fault_first found.0 found.1 fault (ends.2.2 found.0 found.2) in
    cc (good, other)

-- A run doesn't report that a known rules file is missing.
pub no_missed : (command : Command) (files : Option Files) (rules : List Rule) (had has : Option (List ℕ)) → RulesContent command files rules → Ends command files had has (status.NoFile RulesFile) → ⊥
no_missed command files rules had has shows ends =
    let found = known_bytes command files rules ends.2.0 ends.2.1 shows in
    let here = found.2 in
    let none = ends.2.2 in
    cc (here, none)

-- If an optional name is present, it has a value.
pub named_some : (named : Option (List ℕ)) → is_some named ≡ true → (name : List ℕ) × (named ≡ Some name)
named_some None is = absurd (true≢false (sym is))
named_some (Some name) is = (name, refl)

-- A run finds no error in a drop-in file that is known to be accepted.
pub no_drop_fault : (command : Command) (files : Option Files) (rules : List Rule) (fault : DropFault) (had has : Option (List ℕ)) → RulesContent command files rules → Ends command files had has (status.DropIn fault) → ⊥
no_drop_fault command files rules fault had has shows ends =
    let named = named_some (rules_name command) ends.2.1 in
    let over = named_some (drop_in_name command) ends.1 in
    let found = known_bytes command files rules named.0 named.1 shows in
    let here = named_bytes files (drop_in_name command) over.0 found.1 over.1 found.3 in
    let bad = ends.4 found.0 here.0 (named.0, named.1, found.2) (over.0, over.1, here.1) in
    let same = here.2 in
    let good = found.4 in
    cc (same, good, bad)

-- A run doesn't report that a known drop-in file is missing.
pub no_missed_drop_in : (command : Command) (files : Option Files) (rules : List Rule) (had has : Option (List ℕ)) → RulesContent command files rules → Ends command files had has (status.NoFile DropInFile) → ⊥
no_missed_drop_in command files rules had has shows ends =
    let named = named_some (rules_name command) ends.1.1 in
    let found = known_bytes command files rules named.0 named.1 shows in
    let here = named_bytes files (drop_in_name command) ends.2.0 found.1 ends.2.1 found.3 in
    let some = here.1 in
    let none = ends.2.2 in
    cc (some, none)

-- A run doesn't report that a file of this kind is missing, if its bytes are known.
none_known : (command : Command) (files : Option Files) (bytes : List ℕ) (which : Which) (had has : Option (List ℕ)) → source_of command ≡ which → HasContent command (source_of command) files bytes → Ends command files had has (status.NoFile which) → ⊥
none_known command files bytes which had has from shows ends =
    one_known files shows.0 ends.2.0 bytes (file_of command (source_of command)) shows.1 (ap (file_of command) from ∙ ends.2.1) shows.2 ends.2.2

-- A run doesn't report that the trace file is missing, if its bytes are known.
no_trace : (command : Command) (files : Option Files) (bytes : List ℕ) (had has : Option (List ℕ)) → HasContent command (source_of command) files bytes → Ends command files had has (status.NoFile TraceFile) → ⊥
no_trace command files bytes had has shows ends = none_known command files bytes TraceFile had has (from_trace command (ap is_some ends.2.1)) shows ends

-- A run doesn't report that the ftrace file is missing, if its bytes are known.
no_import : (command : Command) (files : Option Files) (bytes : List ℕ) (had has : Option (List ℕ)) → HasContent command (source_of command) files bytes → Ends command files had has (status.NoFile ImportFile) → ⊥
no_import command files bytes had has shows ends = none_known command files bytes ImportFile had has (from_import command (ap is_some ends.2.1)) shows ends

-- If the status reports a rejected line of a file of this kind and the file's bytes are known,
-- parsing them gives this status.
taken_known : (command : Command) (files : Option Files) (bytes : List ℕ) (which : Which) (had has : Option (List ℕ)) (result : Status) → source_of command ≡ which → HasContent command (source_of command) files bytes → Refuses command files had has which result
    → parse_of command bytes ≡ Err result
taken_known command files bytes which had has result from shows refuses = refuses.4 bytes (subst (λ w. HasContent command w files bytes) from shows)

-- If the status reports a rejected line of a trace and the trace's bytes are known, parsing them
-- gives this status.
trace_known : (command : Command) (files : Option Files) (bytes : List ℕ) (had has : Option (List ℕ)) (result : Status) → HasContent command (source_of command) files bytes → Refuses command files had has TraceFile result → parse_of command bytes ≡ Err result
trace_known command files bytes had has result shows refuses = taken_known command files bytes TraceFile had has result (from_trace command refuses.1) shows refuses

-- If the status reports a rejected line of an ftrace text and the text's bytes are known, parsing
-- them gives this status.
import_known : (command : Command) (files : Option Files) (bytes : List ℕ) (had has : Option (List ℕ)) (result : Status) → HasContent command (source_of command) files bytes → Refuses command files had has ImportFile result → parse_of command bytes ≡ Err result
import_known command files bytes had has result shows refuses = taken_known command files bytes ImportFile had has result (from_import command refuses.1) shows refuses

-- The trace that a command takes is the parsed trace.
pub of_read : (read : Result Trace Refusal) (trace : Trace) → or_refused_trace read ≡ Ok trace → read ≡ Ok trace
of_read (Ok other) trace is = let same : other ≡ trace = cc is in ap (λ (t : Trace). let read : Result Trace Refusal = Ok t in read) same
of_read (Err refusal) trace is = absurd (let no : ⊥ = cc is in no)

-- If `replay` ends with Done, its output is one of the specified outputs for its trace and rules.
pub headlined : (name : List ℕ) (options : Options) (files : Option Files) (before now : RunCounts) (had has : Option (List ℕ)) → Runs (Replay name options) files before now had has status.Done
    → (bytes : List ℕ) (rules : List Rule) → HasContent (Replay name options) TraceFile files bytes → RulesContent (Replay name options) files rules
    → (trace : Trace) × (trace_of (accepts_of (Replay name options)) bytes ≡ Ok trace)
    × ((text : List ℕ) × IsReplayText trace (timing_of options) rules text × Appends had has text)
headlined name options files before now had has runs bytes rules shows rules_known =
    let ends = runs.ends in
    let same = same_rules (Replay name options) files ends.1 rules ends.3 rules_known in
    (ends.0, of_read (trace_of (accepts_of (Replay name options)) bytes) ends.0 ((ends.2 tt).read bytes shows), (ends.6.0, subst (λ r. IsReplayText ends.0 (timing_of options) r ends.6.0) same ends.6.1, ends.6.2))

-- the trace of an import has the imported events
of_import : (cpus : ℕ) (read : Result (List Event) Refused) (trace : Trace) → or_not_imported cpus read ≡ Ok trace → (events : List Event) × (read ≡ Ok events) × (trace ≡ import_trace cpus events)
of_import cpus (Ok events) trace is = (events, refl, let same : import_trace cpus events ≡ trace = cc is in sym same)
of_import cpus (Err refusal) trace is = absurd (let no : ⊥ = cc is in no)

-- if an import is Done, its output is the text of its trace
pub imports : (name : List ℕ) (cpus : ℕ) (files : Option Files) (before now : RunCounts) (had has : Option (List ℕ)) → Runs (Import name cpus) files before now had has status.Done
    → (bytes : List ℕ) → HasContent (Import name cpus) ImportFile files bytes
    → (events : List Event) × (import_of cpus bytes ≡ Ok events) × Appends had has (text_of (import_trace cpus events))
imports name cpus files before now had has runs bytes shows =
    let ends = runs.ends in
    let found = of_import cpus (import_of cpus bytes) ends.0 ((ends.2 tt).read bytes shows) in
    (found.0, found.1, subst (λ trace. Appends had has (text_of trace)) found.2 (subst (Appends had has) ends.6.1.1 ends.6.2))

-- If `replay` has no group for live samples, there is exactly one such output.
pub headlined_alone : (name : List ℕ) (options : Options) (files : Option Files) (before now : RunCounts) (had has : Option (List ℕ)) → Runs (Replay name options) files before now had has status.Done
    → (bytes : List ℕ) (rules : List Rule) → options.live ≡ None → HasContent (Replay name options) TraceFile files bytes → RulesContent (Replay name options) files rules
    → (trace : Trace) × (trace_of (accepts_of (Replay name options)) bytes ≡ Ok trace) × Appends had has (replay_text trace (timing_of options) (with_rules rules))
headlined_alone name options files before now had has runs bytes rules none shows rules_known =
    let found = headlined name options files before now had has runs bytes rules shows rules_known in
    let text = found.2 in
    (found.0, found.1, subst (Appends had has) (one_text_unwatched found.0 (timing_of options) rules text.0 (ap (watch_of_path options.live_count) none) text.1) text.2)

-- A command with an output for a trace and rulesets has the expected status Done.
done_there : (command : Command) (trace : Trace) (rules : List Rule) (text : List ℕ) → IsOutput command trace rules text → outcome_of command trace rules ≡ status.Done
done_there (words.Whatif name options) trace rules text output = ap status_of_last output.1
done_there (words.Stall name) trace rules text output = refl
done_there (words.Check name tick_ms) trace rules text output = refl
done_there (words.Replay name options) trace rules text output = refl
done_there (words.Gen shape) trace rules text output = refl
done_there (words.Stress shape workers) trace rules text output = refl
done_there (words.Import file cpus) trace rules text output = refl
done_there (words.Rules file drop_in) trace rules text output = refl

-- the trace that a command takes is the trace of the known bytes
same_trace : (command : Command) (files : Option Files) (bytes : List ℕ) (taken trace : Trace) → (HasTrace command → TakesTrace command files taken) → (shows : HasContent command (source_of command) files bytes) → parse_of command bytes ≡ Ok trace → taken ≡ trace
same_trace command files bytes taken trace takes shows is =
    let read = (takes (has_trace command shows.0 shows.1)).read bytes shows in
    cc (read, is)

-- The status for the trace and rules that a command takes is the status for the known trace and
-- rules.
same_outcome : (command : Command) (files : Option Files) (bytes : List ℕ) (taken trace : Trace) (taken_rules rules : List Rule) (result : Status) → (HasTrace command → TakesTrace command files taken) → TakesRules command files taken_rules
    → RulesContent command files rules → (shows : HasContent command (source_of command) files bytes) → parse_of command bytes ≡ Ok trace
    → outcome_of command taken taken_rules ≡ result → result ≡ outcome_of command trace rules
same_outcome command files bytes taken trace taken_rules rules result takes takes_rules bytes_read shows is comes =
    sym comes ∙ ap (λ t. outcome_of command t taken_rules) (same_trace command files bytes taken trace takes shows is)
    ∙ ap (outcome_of command trace) (same_rules command files taken_rules rules takes_rules bytes_read)

-- If the trace and the rules are accepted, the run has the expected status, unless a read or a
-- write failed or memory ran out.
pub completes : (command : Command) (files : Option Files) (before now : RunCounts) (had has : Option (List ℕ)) (result : Status) → Runs command files before now had has result
    → Completes command files before now result
completes command files before now had has status.Done runs rules bytes trace bytes_read shows is reads writes =
    let ends = runs.ends in
    inl (same_outcome command files bytes ends.0 trace ends.1 rules status.Done ends.2 ends.3 bytes_read shows is (done_there command ends.0 ends.1 ends.6.0 ends.6.1))
completes command files before now had has (status.TooLarge events) runs rules bytes trace bytes_read shows is reads writes =
    let come = runs.ends.1 in
    inl (same_outcome command files bytes come.trace trace come.rules rules (status.TooLarge events) come.takes come.takes_rules bytes_read shows is come.outcome)
completes command files before now had has (status.NoMemory _) runs rules bytes trace bytes_read shows is reads writes = inr refl
completes command files before now had has status.WriteFault runs rules bytes trace bytes_read shows is reads writes = absurd (writes (runs.counts.writes.increased refl))
completes command files before now had has status.ReadFault runs rules bytes trace bytes_read shows is reads writes = absurd (reads (runs.counts.faults.increased refl))
completes command files before now had has status.Usage runs rules bytes trace bytes_read shows is reads writes = absurd runs.ends
completes command files before now had has (status.Rules fault) runs rules bytes trace bytes_read shows is reads writes = absurd (no_fault command files rules fault had has bytes_read runs.ends)
completes command files before now had has (status.DropIn fault) runs rules bytes trace bytes_read shows is reads writes = absurd (no_drop_fault command files rules fault had has bytes_read runs.ends)
completes command files before now had has (status.NoFile DropInFile) runs rules bytes trace bytes_read shows is reads writes = absurd (no_missed_drop_in command files rules had has bytes_read runs.ends)
completes command files before now had has (status.Trace line why) runs rules bytes trace bytes_read shows is reads writes = let other = trace_known command files bytes had has (status.Trace line why) shows runs.ends in absurd (let no : ⊥ = cc (is, other) in no)
completes command files before now had has (status.Import line why) runs rules bytes trace bytes_read shows is reads writes = let other = import_known command files bytes had has (status.Import line why) shows runs.ends in absurd (let no : ⊥ = cc (is, other) in no)
completes command files before now had has (status.NoFile RulesFile) runs rules bytes trace bytes_read shows is reads writes = absurd (no_missed command files rules had has bytes_read runs.ends)
completes command files before now had has (status.NoFile TraceFile) runs rules bytes trace bytes_read shows is reads writes = absurd (no_trace command files bytes had has shows runs.ends)
completes command files before now had has (status.NoFile ImportFile) runs rules bytes trace bytes_read shows is reads writes = absurd (no_import command files bytes had has shows runs.ends)

-- If the rules are accepted and the file is rejected, the status reports its first rejected line,
-- unless a read failed or memory ran out.
pub refuses : (command : Command) (files : Option Files) (before now : RunCounts) (had has : Option (List ℕ)) (result : Status) → Runs command files before now had has result
    → RejectsSource command files before now result
refuses command files before now had has status.Done runs rules bytes why bytes_read shows is reads = let other = (runs.ends.2 (has_trace command shows.0 shows.1)).read bytes shows in absurd (let no : ⊥ = cc (is, other) in no)
refuses command files before now had has (status.NoMemory _) runs rules bytes why bytes_read shows is reads = inr refl
refuses command files before now had has status.WriteFault runs rules bytes why bytes_read shows is reads = let other = (runs.ends.2 (has_trace command shows.0 shows.1)).read bytes shows in absurd (let no : ⊥ = cc (is, other) in no)
refuses command files before now had has status.ReadFault runs rules bytes why bytes_read shows is reads = absurd (reads (runs.counts.faults.increased refl))
refuses command files before now had has status.Usage runs rules bytes why bytes_read shows is reads = absurd runs.ends
refuses command files before now had has (status.Rules fault) runs rules bytes why bytes_read shows is reads = absurd (no_fault command files rules fault had has bytes_read runs.ends)
refuses command files before now had has (status.DropIn fault) runs rules bytes why bytes_read shows is reads = absurd (no_drop_fault command files rules fault had has bytes_read runs.ends)
refuses command files before now had has (status.NoFile DropInFile) runs rules bytes why bytes_read shows is reads = absurd (no_missed_drop_in command files rules had has bytes_read runs.ends)
refuses command files before now had has (status.TooLarge events) runs rules bytes why bytes_read shows is reads = let other = (runs.ends.1.takes (has_trace command shows.0 shows.1)).read bytes shows in absurd (let no : ⊥ = cc (is, other) in no)
refuses command files before now had has (status.Trace at cause) runs rules bytes why bytes_read shows is reads =
    let other = trace_known command files bytes had has (status.Trace at cause) shows runs.ends in
    inl (cc (is, other))
refuses command files before now had has (status.Import at cause) runs rules bytes why bytes_read shows is reads =
    let other = import_known command files bytes had has (status.Import at cause) shows runs.ends in
    inl (cc (is, other))
refuses command files before now had has (status.NoFile RulesFile) runs rules bytes why bytes_read shows is reads = absurd (no_missed command files rules had has bytes_read runs.ends)
refuses command files before now had has (status.NoFile TraceFile) runs rules bytes why bytes_read shows is reads = absurd (no_trace command files bytes had has shows runs.ends)
refuses command files before now had has (status.NoFile ImportFile) runs rules bytes why bytes_read shows is reads = absurd (no_import command files bytes had has shows runs.ends)

-- If the bytes of the rules file are known, the content of the drop-in file is known, unless this
-- file is missing. A shelf has known contents for all files or for none.
known_drop_in : (files : Option Files) (named : Option (List ℕ)) (name bytes : List ℕ) → content_of files name ≡ Some bytes → ((other : List ℕ) → named ≡ Some other → IsAbsent files other → ⊥)
    → (found : Option (List ℕ)) × (content_if_named files named ≡ Some found)
known_drop_in None named name bytes shows there = absurd (true≢false (sym (ap is_some shows)))
known_drop_in (Some held) None name bytes shows there = (None, refl)
known_drop_in (Some held) (Some over) name bytes shows there = go (bytes_of held over) refl
  where
    go : (found : Option (List ℕ)) → bytes_of held over ≡ found → (drop_in : Option (List ℕ)) × (content_if_named (Some held) (Some over) ≡ Some drop_in)
    go None is = absurd (there over refl is)
    go (Some here) is = (Some here, ap (option_map (λ b. Some b)) is)

-- A command takes no rulesets from bytes that have an error.
none_taken : (command : Command) (files : Option Files) (taken : List Rule) (name bytes : List ℕ) (fault : RulesFault) → TakesRules command files taken → IsThere command files DropInFile → rules_name command ≡ Some name → content_of files name ≡ Some bytes → rules_of bytes ≡ Err fault → ⊥
none_taken command files taken name bytes fault takes there named shows is =
    let over = known_drop_in files (drop_in_name command) name bytes shows there in
    let good = takes.read bytes over.0 (name, named, shows) over.1 in
    let bad = fault_first bytes over.0 fault is in
    cc (good, bad)

-- A command applies no drop-in file to rulesets from bytes that have an error.
no_base : (command : Command) (files : Option Files) (base : Rules) (name bytes : List ℕ) (fault : RulesFault) → TakesBase command files base → rules_name command ≡ Some name → content_of files name ≡ Some bytes → rules_of bytes ≡ Err fault → ⊥
no_base command files base name bytes fault takes named shows is = let good = takes bytes (name, named, shows) in cc (good, is)

found_fault : (command : Command) (files : Option Files) (had has : Option (List ℕ)) (name bytes : List ℕ) (found fault : RulesFault) → Ends command files had has (status.Rules found) → rules_name command ≡ Some name → content_of files name ≡ Some bytes
    → rules_of bytes ≡ Err fault → found ≡ fault
found_fault command files had has name bytes found fault ends named shows is =
    let same : ends.2.0 ≡ name = let other = ends.2.1 in cc (named, other) in
    let other = ends.2.2 bytes (subst (λ n. content_of files n ≡ Some bytes) (sym same) shows) in
    cc (is, other)

-- If a read failed, it was a read of the rules file, because no other file is read before the
-- error.
failed_rules : (command : Command) (files : Option Files) (log log_now : List ReadCall) (name bytes : List ℕ) (fault : RulesFault) → rules_name command ≡ Some name → content_of files name ≡ Some bytes → rules_of bytes ≡ Err fault
    → (which : Which) → FailsAt command log log_now which shelf.Failed → IsPassed command files which → FailedAt command log log_now RulesFile status.ReadFault
failed_rules command files log log_now name bytes fault named shows is RulesFile fails passed = (refl, fails)
failed_rules command files log log_now name bytes fault named shows is DropInFile fails passed = absurd (no_base command files passed.0 name bytes fault passed.2 named shows is)
failed_rules command files log log_now name bytes fault named shows is TraceFile fails passed = absurd (none_taken command files passed.0 name bytes fault passed.1 passed.2.1 named shows is)
failed_rules command files log log_now name bytes fault named shows is ImportFile fails passed = absurd (none_taken command files passed.0 name bytes fault passed.1 passed.2.1 named shows is)

-- If the rules file is rejected, the status reports its first error, unless a read of this file
-- failed or memory ran out.
pub faults : (command : Command) (files : Option Files) (before now : RunCounts) (had has : Option (List ℕ)) (log log_now : List ReadCall) (result : Status) → Runs command files before now had has result → ReadsInOrder command files log log_now result
    → RejectsRules command files log log_now result
faults command files before now had has log log_now status.Done runs order name bytes fault named shows is = absurd (none_taken command files runs.ends.1 name bytes fault runs.ends.3 runs.ends.4.1 named shows is)
faults command files before now had has log log_now (status.NoMemory _) runs order name bytes fault named shows is = inr (inl refl)
faults command files before now had has log log_now status.WriteFault runs order name bytes fault named shows is = absurd (none_taken command files runs.ends.1 name bytes fault runs.ends.3 runs.ends.4.1 named shows is)
faults command files before now had has log log_now (status.TooLarge events) runs order name bytes fault named shows is = absurd (none_taken command files runs.ends.1.rules name bytes fault runs.ends.1.takes_rules runs.ends.1.rules_there.1 named shows is)
faults command files before now had has log log_now status.ReadFault runs order name bytes fault named shows is = inr (inr (failed_rules command files log log_now name bytes fault named shows is order.0 order.1 order.2))
faults command files before now had has log log_now status.Usage runs order name bytes fault named shows is = absurd runs.ends
faults command files before now had has log log_now (status.Rules found) runs order name bytes fault named shows is = inl (ap status.Rules (found_fault command files had has name bytes found fault runs.ends named shows is))
faults command files before now had has log log_now (status.DropIn found) runs order name bytes fault named shows is = absurd (no_base command files runs.ends.2.0 name bytes fault runs.ends.2.2 named shows is)
faults command files before now had has log log_now (status.NoFile DropInFile) runs order name bytes fault named shows is = absurd (no_base command files runs.ends.1.0 name bytes fault runs.ends.1.2 named shows is)
faults command files before now had has log log_now (status.Trace line why) runs order name bytes fault named shows is = absurd (none_taken command files runs.ends.2.0 name bytes fault runs.ends.2.1 runs.ends.2.2.1 named shows is)
faults command files before now had has log log_now (status.Import line why) runs order name bytes fault named shows is = absurd (none_taken command files runs.ends.2.0 name bytes fault runs.ends.2.1 runs.ends.2.2.1 named shows is)
faults command files before now had has log log_now (status.NoFile RulesFile) runs order name bytes fault named shows is = absurd (one_known files name runs.ends.2.0 bytes (rules_name command) named runs.ends.2.1 shows runs.ends.2.2)
faults command files before now had has log log_now (status.NoFile TraceFile) runs order name bytes fault named shows is = absurd (none_taken command files runs.ends.1.0 name bytes fault runs.ends.1.1 runs.ends.1.2.1 named shows is)
faults command files before now had has log log_now (status.NoFile ImportFile) runs order name bytes fault named shows is = absurd (none_taken command files runs.ends.1.0 name bytes fault runs.ends.1.1 runs.ends.1.2.1 named shows is)
