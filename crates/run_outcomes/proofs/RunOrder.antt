-- Laws of the order in which a run reads its files.
use Rattle.std.proofs.Common.{◌≡◌, ℕ, List, [], ◌∷◌, ◌++◌, refl, sym, subst, Option, None, Some}
use Rattle.outside.specs.Outside.{Files}
use Rattle.outside.specs.Reads.{ReadCall, ReadsEach, ReadsFile}
use Rattle.outside.proofs.ReadOrder.{file_stops, files_stop, files_then, none_read}
use Rattle.ruleset_json.specs.declared.types.Rule.{Rule}
use Rattle.psi_base.specs.Memory.{no_memory}
use Rattle.psi_spec.specs.Trace.{Trace}
use Rattle.run_spec.specs.declared.command.Command.{Command}
use Rattle.run_spec.specs.declared.command.Command.TheVariants as words
use Rattle.run_spec.specs.declared.status.Status.{Status}
use Rattle.run_spec.specs.declared.status.Status.TheVariants as status
use Rattle.run_spec.specs.declared.status.Which.TheVariants.{TraceFile}
use Rattle.run_spec.specs.Outputs.{drop_in_name, rules_name, source_name, trace_name}
use Rattle.run_spec.specs.ReadOrder.{ReadsInOrder, listed, names_in_order, names_of_rules}
use Rattle.run_spec.specs.Replay.{Timing}
use Rattle.trace_file.specs.Reads.{shelf_fault}
use Rattle.trace_file.specs.declared.trace.TraceFault.{TraceFault}
use Rattle.trace_file.specs.declared.trace.TraceFault.TheVariants as fault
use Rattle.run_outcomes.specs.Rules.{RulesOption}
use Rattle.run_outcomes.specs.Writes.{IsStatusOf, WritesLast, WritesText}
use Rattle.run_outcomes.proofs.RunLaws.{rules_there, takes_events}

-- ---- a text that was written

-- If a text was written, the files were read in order.
pub written_order : (command : Command) (files : Option Files) (log log_now : List ReadCall) (text : List ℕ) (before now : ℕ) (had has : Option (List ℕ)) (result : Status) → ReadsEach (names_in_order command) log log_now
    → WritesText text before now had has result → ReadsInOrder command files log log_now result
written_order command files log log_now text before now had has status.Done reads wrote = reads
written_order command files log log_now text before now had has status.WriteFault reads wrote = reads
written_order command files log log_now text before now had has (status.NoMemory _) reads wrote = reads
written_order command files log log_now text before now had has _ reads wrote = absurd wrote

-- if the output of `whatif` was written, all files were read in order
pub supposed_order : (command : Command) (files : Option Files) (log log_now : List ReadCall) (trace : Trace) (timing : Timing) (rules : List Rule) (before now : ℕ) (had has : Option (List ℕ)) (result : Status) → ReadsEach (names_in_order command) log log_now
    → WritesLast trace timing rules before now had has result → ReadsInOrder command files log log_now result
supposed_order command files log log_now trace timing rules before now had has status.Done reads wrote = reads
supposed_order command files log log_now trace timing rules before now had has status.WriteFault reads wrote = reads
supposed_order command files log log_now trace timing rules before now had has (status.NoMemory _) reads wrote = reads
supposed_order command files log log_now trace timing rules before now had has (status.TooLarge events) reads wrote = reads
supposed_order command files log log_now trace timing rules before now had has _ reads wrote = absurd wrote.2.2

-- ---- files that were read

-- If the rules files were read first and then the trace or the ftrace text, the files of the
-- command were read in order.
pub rules_then : (command : Command) (name : List ℕ) (before middle now : List ReadCall) → source_name command ≡ Some name
    → ReadsEach (names_of_rules (rules_name command) (drop_in_name command)) before middle → ReadsFile name 0 middle now None → ReadsEach (names_in_order command) before now
rules_then command name before middle now named rules reads =
    let names = names_of_rules (rules_name command) (drop_in_name command) in
    subst (λ source. ReadsEach (names ++ listed source) before now) (sym named) (files_then names (name ∷ []) before middle now rules (file_stops name [] middle now reads))

-- If the rules files were read first and then the trace up to an error, the files were read in
-- order.
pub trace_order : (command : Command) (name : List ℕ) (files : Option Files) (rules : List Rule) (before middle now : List ReadCall) (found : TraceFault) (result : Status) → trace_name command ≡ Some name → source_name command ≡ Some name
    → RulesOption (rules_name command) (drop_in_name command) files rules → ReadsEach (names_of_rules (rules_name command) (drop_in_name command)) before middle → ReadsFile name 0 middle now (shelf_fault found) → IsStatusOf found result
    → ReadsInOrder command files before now result
trace_order command name files rules before middle now (fault.Refused refusal) result traced named bytes_read read reads is =
    subst (ReadsInOrder command files before now) (sym is) (rules_then command name before middle now named read reads)
trace_order command name files rules before middle now fault.NoFile result traced named bytes_read read reads is =
    subst (ReadsInOrder command files before now) (sym is) (name, middle, traced, read, reads)
trace_order command name files rules before middle now fault.ReadFault result traced named bytes_read read reads is =
    subst (ReadsInOrder command files before now) (sym is) (TraceFile, (name, middle, traced, read, reads), (rules, takes_events command _ _ files rules refl refl bytes_read, rules_there command files rules bytes_read))
trace_order command name files rules before middle now (fault.NoMemory none) result traced named bytes_read read reads is =
    subst (ReadsInOrder command files before now) (sym is) (rules_then command name before middle now named read reads)

-- The command `rules`, which has no trace, has read its files in order.
pub printed_order : (name : List ℕ) (drop_in : Option (List ℕ)) (files : Option Files) (before now : List ReadCall) (text : List ℕ) (writes writes_now : ℕ) (had has : Option (List ℕ)) (result : Status) → ReadsEach (names_of_rules (Some name) drop_in) before now
    → WritesText text writes writes_now had has result → ReadsInOrder (words.Rules name drop_in) files before now result
printed_order name drop_in files before now text writes writes_now had has result reads wrote =
    written_order (words.Rules name drop_in) files before now text writes writes_now had has result (files_stop (names_of_rules (Some name) drop_in) [] before now reads) wrote

-- ---- no read

-- If memory ran out before any file was read, the files were read in order.
pub stopped_order : (command : Command) (files : Option Files) (log : List ReadCall) → ReadsInOrder command files log log (status.NoMemory no_memory)
stopped_order command files log = none_read (names_in_order command) log
