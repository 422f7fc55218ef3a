-- Laws of the status of a run, given the results of reading a trace and writing a text.
use Rattle.std.proofs.Common.{◌≡◌, ℕ, List, [], arith, refl, sym, ap, ◌∙◌, subst, inl, inr, Option, None, Some, Ok, Err}
use Rattle.std.specs.Prelude.{IsErrOf, IsSome}
use Rattle.std.specs.Io.KnownBytes.{Keeps}
use Rattle.psi_base.specs.Memory.{no_memory}
use Rattle.outside.specs.Outside.{Files, IsAbsent, Increased, content_of}
use Rattle.psi_base.specs.declared.event.Event.{Event}
use Rattle.psi_spec.specs.Fields.{IsAmong}
use Rattle.psi_spec.specs.Grammar.{One, Two, Version, verbs_of, versions}
use Rattle.psi_spec.specs.Trace.{AreKnown, IsAccepted, IsCpuCount, Trace, limits_of, trace_of}
use Rattle.run_spec.specs.declared.command.Command.{Command}
use Rattle.run_spec.specs.declared.command.Command.TheVariants as words
use Rattle.run_spec.specs.declared.command.Options.{Options}
use Rattle.run_spec.specs.declared.status.Status.{Status}
use Rattle.run_spec.specs.declared.status.Status.TheVariants as status
use Rattle.run_spec.specs.declared.status.Which.{Which}
use Rattle.run_spec.specs.declared.status.Which.TheVariants.{TraceFile}
use Rattle.run_spec.specs.Outputs.{IsOutput, accepts_of, drop_in_name, file_of, or_refused_trace, timing_of, rules_name, source_name, source_of, status_of_last, parse_of, tick_length, trace_name, versions_of}
use Rattle.run_spec.specs.Run.{FailuresAreCounted, IsThere, ReadsFiles, RisesWhere, RulesAreThere, RunCounts, Runs, TakesRules, TakesTrace, content_if_named}
use Rattle.std.proofs.lemmas.List.Elements.{All-nil}
use Rattle.ruleset_json.specs.RuleRanges.{FitsRule}
use Rattle.ruleset_json.specs.declared.types.Rule.{Rule}
use Rattle.run_outcomes.specs.Rules.{RulesOption}
use Rattle.trace_file.specs.Reads.{CausesTraceFault, RefusalOf, ShowsNothing, trace_with}
use Rattle.run_outcomes.specs.Writes.{IsStatusOf, WritesLast, WritesText}
use Rattle.trace_file.specs.declared.trace.TraceFault.{TraceFault}
use Rattle.trace_file.specs.declared.trace.TraceFault.TheVariants as fault

pub keeps_same : (had : Option (List ℕ)) → Keeps had had
keeps_same None = tt
keeps_same (Some bytes) = refl

-- ---- counts

-- A count that is unchanged satisfies `RisesWhere` if the event that increases it didn't happen.
pub stays : (Happened : Type 0) (before now : ℕ) → (Happened → ⊥) → now ≡ before → RisesWhere Happened before now
stays Happened before now not same = record { increased = λ happened. absurd (not happened); same = λ _. same }

-- ---- a text that was written

-- A command has at most one name for a file of a kind.
pub same_name : (command : Command) (which : Which) (name other : List ℕ) → file_of command which ≡ Some name → file_of command which ≡ Some other → other ≡ name
same_name command which name other is also = cc

-- The trace of the command comes from its trace file.
abbrev pub Reads : Command → Type 0
Reads command = (bytes : List ℕ) → parse_of command bytes ≡ or_refused_trace (trace_of (accepts_of command) bytes)

-- A command takes the trace whose events were played.
pub takes_trace : (command : Command) (name : List ℕ) (files : Option Files) (version : Version) (cpus : ℕ) (events : List Event) → Reads command → source_name command ≡ Some name → IsAmong version (versions_of command) → IsCpuCount cpus
    → AreKnown (verbs_of version) events → IsAccepted (limits_of (tick_length command) cpus) events
    → ((bytes : List ℕ) → content_of files name ≡ Some bytes → trace_of (accepts_of command) bytes ≡ Ok (trace_with version cpus events))
    → TakesTrace command files (trace_with version cpus events)
takes_trace command name files version cpus events reads named among counted known accepted read = record {
  version = among;
  cpus = counted;
  known = known;
  accepted = accepted;
  read = λ bytes known. reads bytes ∙ ap or_refused_trace (read bytes (subst (λ n. content_of files n ≡ Some bytes) (same_name command (source_of command) name known.0 named known.1) known.2));
}

-- the list of all versions has each version
every : (version : Version) → IsAmong version versions
every One = inl refl
every Two = inr (inl refl)

-- a command that accepts all versions takes a trace of any version
pub takes_any : (command : Command) (name : List ℕ) (files : Option Files) (version : Version) (cpus : ℕ) (events : List Event) → Reads command → source_name command ≡ Some name → versions_of command ≡ versions → IsCpuCount cpus
    → AreKnown (verbs_of version) events → IsAccepted (limits_of (tick_length command) cpus) events
    → ((bytes : List ℕ) → content_of files name ≡ Some bytes → trace_of (accepts_of command) bytes ≡ Ok (trace_with version cpus events))
    → TakesTrace command files (trace_with version cpus events)
takes_any command name files version cpus events reads named all counted known accepted read =
    takes_trace command name files version cpus events reads named (subst (IsAmong version) (sym all) (every version)) counted known accepted read

-- The counts of a run that failed no read satisfy the contract: the shelf's counts are unchanged,
-- and the count of failed writes increased exactly if the status is WriteFault.
pub counts_written : (before now : RunCounts) (result : Status) → now.shelf.faults ≡ before.shelf.faults → now.shelf.absent ≡ before.shelf.absent
    → (result ≡ status.ReadFault → ⊥) → (((which : _) × (result ≡ status.NoFile which)) → ⊥) → RisesWhere (result ≡ status.WriteFault) before.writes now.writes → FailuresAreCounted before now result
counts_written before now result faults absent no_read no_file writes = record {
  faults = stays (result ≡ status.ReadFault) before.shelf.faults now.shelf.faults no_read faults;
  absent = stays _ before.shelf.absent now.shelf.absent no_file absent;
  writes = writes;
}

-- ---- rules that were read before the trace

-- The rulesets of a command that names these rules and drop-in files are the rulesets of the files.
pub takes_events : (command : Command) (named drop_in : Option (List ℕ)) (files : Option Files) (rules : List Rule) → rules_name command ≡ named → drop_in_name command ≡ drop_in → RulesOption named drop_in files rules → TakesRules command files rules
takes_events command named drop_in files rules is over bytes_read = record {
  fit = bytes_read.fit;
  none = λ none. bytes_read.none (sym is ∙ none);
  read = λ bytes found known shows. bytes_read.read known.0 bytes found (sym is ∙ known.1) known.2 (subst (λ n. content_if_named files n ≡ Some found) over shows);
}

-- a command that names no rules file has no rulesets
pub no_events : (files : Option Files) → RulesOption None None files []
no_events files = record {
  fit = record { few = omega arith; each = All-nil FitsRule };
  none = λ _. refl;
  read = λ name bytes over is. absurd (let no : ⊥ = cc is in no);
  held = λ name is. absurd (let no : ⊥ = cc is in no);
  drop_in_held = λ name is. absurd (let no : ⊥ = cc is in no);
}

-- a command whose options name no file has no rulesets
pub empty_read : (named drop_in : Option (List ℕ)) (files : Option Files) → named ≡ None → drop_in ≡ None → RulesOption named drop_in files []
empty_read named drop_in files none over = subst (λ n. RulesOption n drop_in files []) (sym none) (subst (λ d. RulesOption None d files []) (sym over) (no_events files))

-- If a command's rules were read, its rules file and its drop-in file aren't known to be missing.
pub rules_there : (command : Command) (files : Option Files) (rules : List Rule) → RulesOption (rules_name command) (drop_in_name command) files rules → RulesAreThere command files
rules_there command files rules bytes_read = (λ other is lacks. bytes_read.held other is lacks, λ other is lacks. bytes_read.drop_in_held other is lacks)

-- The command's file of a kind isn't known to be missing if the file with its name isn't.
pub file_there : (command : Command) (which : Which) (name : List ℕ) (files : Option Files) → file_of command which ≡ Some name → (IsAbsent files name → ⊥) → IsThere command files which
file_there command which name files named held = λ other is lacks. held (subst (IsAbsent files) (same_name command which name other named is) lacks)

pub runs_written : (command : Command) (name : List ℕ) (files : Option Files) (before now : RunCounts) (had has : Option (List ℕ)) (trace : Trace) (rules : List Rule) (text : List ℕ) (result : Status)
    → source_name command ≡ Some name → TakesTrace command files trace → RulesOption (rules_name command) (drop_in_name command) files rules → (IsAbsent files name → ⊥) → IsOutput command trace rules text
    → now.shelf.faults ≡ before.shelf.faults → now.shelf.absent ≡ before.shelf.absent
    → WritesText text before.writes now.writes had has result → Runs command files before now had has result
runs_written command name files before now had has trace rules text status.Done named takes bytes_read held output faults absent wrote = record {
  ends = (trace, rules, λ _. takes, takes_events command _ _ files rules refl refl bytes_read, rules_there command files rules bytes_read, file_there command (source_of command) name files named held, (text, output, wrote.0));
  counts = counts_written before now status.Done faults absent (λ is. cc is) (λ is. cc is.1) (stays _ before.writes now.writes (λ is. cc is) wrote.1);
}
runs_written command name files before now had has trace rules text status.WriteFault named takes bytes_read held output faults absent wrote = record {
  ends = (trace, rules, λ _. takes, takes_events command _ _ files rules refl refl bytes_read, rules_there command files rules bytes_read, file_there command (source_of command) name files named held, (text, output, wrote.0));
  counts = counts_written before now status.WriteFault faults absent (λ is. cc is) (λ is. cc is.1) (record { increased = λ _. wrote.1; same = λ not. absurd (not refl) });
}
runs_written command name files before now had has trace rules text (status.NoMemory _) named takes bytes_read held output faults absent wrote = record {
  ends = wrote.0;
  counts = counts_written before now (status.NoMemory no_memory) faults absent (λ is. cc is) (λ is. cc is.1) (stays _ before.writes now.writes (λ is. cc is) wrote.1);
}
runs_written command name files before now had has trace rules text _ named takes bytes_read held output faults absent wrote = absurd wrote

-- The run of `whatif` that wrote the output of a trace keeps the general contract.
pub runs_supposed : (name : List ℕ) (options : Options) (files : Option Files) (before now : RunCounts) (had has : Option (List ℕ)) (trace : Trace) (rules : List Rule) (result : Status)
    → TakesTrace (words.Whatif name options) files trace → RulesOption options.rules options.drop_in files rules → (IsAbsent files name → ⊥)
    → now.shelf.faults ≡ before.shelf.faults → now.shelf.absent ≡ before.shelf.absent
    → WritesLast trace (timing_of options) rules before.writes now.writes had has result → Runs (words.Whatif name options) files before now had has result
runs_supposed name options files before now had has trace rules status.Done takes bytes_read held faults absent wrote =
    let some = wrote.2 in
    runs_written (words.Whatif name options) name files before now had has trace rules some.0 status.Done refl takes bytes_read held (wrote.0, wrote.1, some.1) faults absent some.2
runs_supposed name options files before now had has trace rules status.WriteFault takes bytes_read held faults absent wrote =
    let some = wrote.2 in
    runs_written (words.Whatif name options) name files before now had has trace rules some.0 status.WriteFault refl takes bytes_read held (wrote.0, wrote.1, some.1) faults absent some.2
runs_supposed name options files before now had has trace rules (status.NoMemory _) takes bytes_read held faults absent wrote = record {
  ends = wrote.0;
  counts = counts_written before now (status.NoMemory no_memory) faults absent (λ is. cc is) (λ is. cc is.1) (stays _ before.writes now.writes (λ is. cc is) wrote.1);
}
runs_supposed name options files before now had has trace rules (status.TooLarge events) takes bytes_read held faults absent wrote = record {
  ends = (
    wrote.1,
    record {
      trace = trace;
      rules = rules;
      takes = λ _. takes;
      takes_rules = takes_events (words.Whatif name options) _ _ files rules refl refl bytes_read;
      rules_there = rules_there (words.Whatif name options) files rules bytes_read;
      there = file_there (words.Whatif name options) TraceFile name files refl held;
      outcome = ap status_of_last wrote.0;
    },
  );
  counts = counts_written before now (status.TooLarge events) faults absent (λ is. cc is) (λ is. cc is.1) (stays _ before.writes now.writes (λ is. cc is) wrote.2);
}
runs_supposed name options files before now had has trace rules _ takes bytes_read held faults absent wrote = absurd wrote.2.2

-- ---- a file that couldn't be read

-- A run in which memory ran out before anything was done keeps the general contract.
pub runs_lacking : (command : Command) (files : Option Files) (counts : RunCounts) (had : Option (List ℕ)) → Runs command files counts counts had had (status.NoMemory no_memory)
runs_lacking command files counts had = record {
  ends = keeps_same had;
  counts = counts_written counts counts (status.NoMemory no_memory) refl refl (λ is. cc is) (λ is. cc is.1) (stays _ counts.writes counts.writes (λ is. cc is) refl);
}

-- If the command's file of a kind has a name, a name exists.
pub is_named : (command : Command) (which : Which) (name : List ℕ) → file_of command which ≡ Some name → IsSome (file_of command which)
is_named command which name named = subst IsSome (sym named) refl

-- A run in which a read failed keeps the general contract with the status ReadFault.
pub read_failed : (command : Command) (files : Option Files) (before now : RunCounts) (had : Option (List ℕ)) → ReadsFiles command → Increased before.shelf.faults now.shelf.faults → now.shelf.absent ≡ before.shelf.absent → now.writes ≡ before.writes
    → Runs command files before now had had status.ReadFault
read_failed command files before now had reads increased absent writes = record {
  ends = (keeps_same had, reads);
  counts = record {
    faults = record { increased = λ _. increased; same = λ not. absurd (not refl) };
    absent = stays _ before.shelf.absent now.shelf.absent (λ is. cc is.1) absent;
    writes = stays _ before.writes now.writes (λ is. cc is) writes;
  };
}

-- A run in which memory ran out keeps the general contract with the status NoMemory.
pub out_of_memory_at : (command : Command) (files : Option Files) (before now : RunCounts) (had : Option (List ℕ)) → now.shelf.faults ≡ before.shelf.faults → now.shelf.absent ≡ before.shelf.absent → now.writes ≡ before.writes
    → Runs command files before now had had (status.NoMemory no_memory)
out_of_memory_at command files before now had faults absent writes = record {
  ends = keeps_same had;
  counts = counts_written before now (status.NoMemory no_memory) faults absent (λ is. cc is) (λ is. cc is.1) (stays _ before.writes now.writes (λ is. cc is) writes);
}

-- The counts of a run that missed a file satisfy the contract: only the count of missing files
-- increased.
pub missed_counts : (which : Which) (before now : RunCounts) → now.shelf.faults ≡ before.shelf.faults → Increased before.shelf.absent now.shelf.absent → now.writes ≡ before.writes → FailuresAreCounted before now (status.NoFile which)
missed_counts which before now faults increased writes = record {
  faults = stays _ before.shelf.faults now.shelf.faults (λ is. cc is) faults;
  absent = record { increased = λ _. increased; same = λ not. absurd (not (which, refl)) };
  writes = stays _ before.writes now.writes (λ is. cc is) writes;
}

-- A run that read its rules, but couldn't read its trace, keeps the general contract.
pub runs_refused : {T : Type 0} → (command : Command) (name : List ℕ) (files : Option Files) (before now : RunCounts) (had : Option (List ℕ)) (rules : List Rule) (found : TraceFault) (result : Status)
    → Reads command → trace_name command ≡ Some name → RulesOption (rules_name command) (drop_in_name command) files rules → ((bytes : List ℕ) → content_of files name ≡ Some bytes → RefusalOf found (trace_of (accepts_of command) bytes)) → (IsAbsent files name → ShowsNothing {A = Unit {0}} (Err found))
    → (IsErrOf {T = T} (Err found) fault.NoFile → content_of files name ≡ None)
    → CausesTraceFault {A = T} before.shelf now.shelf (Err found) → now.writes ≡ before.writes
    → IsStatusOf found result → Runs command files before now had had result
runs_refused command name files before now had rules (fault.Refused refusal) result reads named bytes_read refused lacking missed causes writes is =
    subst (Runs command files before now had had) (sym is) (record {
      ends = (keeps_same had, is_named command TraceFile name named, (rules, takes_events command _ _ files rules refl refl bytes_read, rules_there command files rules bytes_read), file_there command TraceFile name files named lacking, λ bytes known. reads bytes ∙ ap or_refused_trace (refused bytes (subst (λ n. content_of files n ≡ Some bytes) (same_name command TraceFile name known.0 named known.1) known.2)));
      counts = counts_written before now (status.Trace refusal.line refusal.cause) (causes.faults_same (λ is. cc is)) (causes.absent_same (λ is. cc is)) (λ is. cc is) (λ is. cc is.1) (stays _ before.writes now.writes (λ is. cc is) writes);
    })
runs_refused command name files before now had rules fault.NoFile result reads named bytes_read refused lacking missed causes writes is =
    subst (Runs command files before now had had) (sym is) (record {
      ends = (keeps_same had, (rules, takes_events command _ _ files rules refl refl bytes_read, rules_there command files rules bytes_read), (name, named, missed refl));
      counts = missed_counts TraceFile before now (causes.faults_same (λ is. cc is)) (causes.missed refl) writes;
    })
runs_refused command name files before now had rules fault.ReadFault result reads named bytes_read refused lacking missed causes writes is =
    subst (Runs command files before now had had) (sym is) (read_failed command files before now had (TraceFile, is_named command TraceFile name named) (causes.failed refl) (causes.absent_same (λ is. cc is)) writes)
runs_refused command name files before now had rules (fault.NoMemory _) result reads named bytes_read refused lacking missed causes writes is =
    subst (Runs command files before now had had) (sym is) (out_of_memory_at command files before now had (causes.faults_same (λ is. cc is)) (causes.absent_same (λ is. cc is)) writes)
