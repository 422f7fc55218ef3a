-- The ends of runs with a drop-in file, of runs of `rules`, and of runs of `whatif`: each follows
-- from the general contract.
use Rattle.std.proofs.Common.{◌≡◌, ◌≢◌, ◌⊎◌, inl, inr, ℕ, List, ◌++◌, refl, sym, ap, subst, Option, None, Some, true, true≢false}
use Rattle.std.specs.Prelude.{Result, Ok, Err, codes, is_some, option_map}
use Rattle.std.specs.Io.KnownBytes.{Appends, Keeps}
use Rattle.outside.specs.Outside.{Files, content_of}
use Rattle.outside.specs.Reads.{ReadCall}
use Rattle.outside.specs.declared.shelf.ShelfFault.TheVariants as shelf
use Rattle.psi_spec.specs.Trace.{Trace, trace_of}
use Rattle.run_spec.specs.declared.command.Command.{Command}
use Rattle.run_spec.specs.declared.status.Status.{Status}
use Rattle.run_spec.specs.declared.status.Status.TheVariants as status
use Rattle.run_spec.specs.declared.command.Command.TheVariants.{Import}
use Rattle.run_spec.specs.declared.command.Command.TheVariants as words
use Rattle.run_spec.specs.declared.command.Options.{Options}
use Rattle.run_spec.specs.declared.status.Which.{Which}
use Rattle.run_spec.specs.declared.status.Which.TheVariants.{DropInFile, ImportFile, RulesFile, TraceFile}
use Rattle.run_spec.specs.Outputs.{accepts_of, file_of, timing_of, rules_from, status_of_last, watch_of_path}
use Rattle.run_spec.specs.Replay.{IsReplayText, replay_text, with_rules}
use Rattle.run_spec.specs.Whatif.{last_trace}
use Rattle.run_spec.specs.Words.{command_of}
use Rattle.run_spec.proofs.RangeLaws.{command_ranges}
use Rattle.run_laws.proofs.LiveTexts.{one_text_unwatched}
use Rattle.run_spec.specs.Promises.{PrintsRules, RejectsDropIn}
use Rattle.run_spec.specs.ReadOrder.{FailedAt, FailsAt, ReadsInOrder}
use Rattle.run_spec.specs.Run.{DropInContent, Ends, HasContent, IsPassed, RulesContent, RunCounts, Runs, TakesRules, content_if_named}
use Rattle.ruleset_json.specs.declared.fault.RulesFault.{RulesFault}
use Rattle.ruleset_json.specs.declared.types.Rule.{Rule}
use Rattle.ruleset_json.specs.declared.types.Rules.{Rules}
use Rattle.dropin_rules.specs.declared.fault.DropFault.{DropFault}
use Rattle.dropin_rules.specs.RulesText.{rules_text}
use Rattle.replay_core.proofs.RunEnds.{one_known, same_rules, fault_first, no_fault, no_missed, no_drop_fault, no_missed_drop_in, of_read, faults}

-- ---- rejected drop-in files

-- The content of the command's drop-in file, if the bytes of the file are known.
over_known : (command : Command) (files : Option Files) (drop_in : List ℕ) → HasContent command DropInFile files drop_in → DropInContent command files (Some drop_in)
over_known command files drop_in over =
    subst (λ named. content_if_named files named ≡ Some (Some drop_in)) (sym over.1) (ap (option_map (λ b. Some b)) over.2)

-- A command takes no rulesets if the drop-in file has an error.
none_joined : (command : Command) (files : Option Files) (taken : List Rule) (bytes drop_in : List ℕ) (fault : DropFault) → TakesRules command files taken → HasContent command RulesFile files bytes → HasContent command DropInFile files drop_in
    → rules_from bytes (Some drop_in) ≡ Err (status.DropIn fault) → ⊥
none_joined command files taken bytes drop_in fault takes known over is =
    let good = takes.read bytes (Some drop_in) known (over_known command files drop_in over) in cc (good, is)

-- If only the drop-in file has an error, the run finds no error in the rules file.
no_rules_fault : (command : Command) (files : Option Files) (had has : Option (List ℕ)) (bytes drop_in : List ℕ) (found : RulesFault) (fault : DropFault) → Ends command files had has (status.Rules found) → HasContent command RulesFile files bytes
    → rules_from bytes (Some drop_in) ≡ Err (status.DropIn fault) → ⊥
no_rules_fault command files had has bytes drop_in found fault ends known is =
    let same : ends.2.0 ≡ known.0 = let one = ends.2.1 in let other = known.1 in cc (one, other) in
    let first = fault_first bytes (Some drop_in) found (ends.2.2 bytes (subst (λ n. content_of files n ≡ Some bytes) (sym same) known.2)) in
    cc (first, is)

-- a file whose bytes are known isn't missing
not_missed : (command : Command) (files : Option Files) (which : Which) (had has : Option (List ℕ)) (bytes : List ℕ) → HasContent command which files bytes → Ends command files had has (status.NoFile which) → ⊥
not_missed command files which had has bytes known ends = one_known files known.0 ends.2.0 bytes (file_of command which) known.1 ends.2.1 known.2 ends.2.2

-- If a read failed, it was a read of the rules file or of the drop-in file, because no other file
-- is read before the error.
failed_drop_in : (command : Command) (files : Option Files) (log log_now : List ReadCall) (bytes drop_in : List ℕ) (fault : DropFault) → HasContent command RulesFile files bytes → HasContent command DropInFile files drop_in → rules_from bytes (Some drop_in) ≡ Err (status.DropIn fault)
    → (which : Which) → FailsAt command log log_now which shelf.Failed → IsPassed command files which
    → FailedAt command log log_now RulesFile status.ReadFault ⊎ FailedAt command log log_now DropInFile status.ReadFault
failed_drop_in command files log log_now bytes drop_in fault known over is RulesFile fails passed = inl (refl, fails)
failed_drop_in command files log log_now bytes drop_in fault known over is DropInFile fails passed = inr (refl, fails)
failed_drop_in command files log log_now bytes drop_in fault known over is TraceFile fails passed = absurd (none_joined command files passed.0 bytes drop_in fault passed.1 known over is)
failed_drop_in command files log log_now bytes drop_in fault known over is ImportFile fails passed = absurd (none_joined command files passed.0 bytes drop_in fault passed.1 known over is)

-- If the drop-in file is rejected, the status reports its first error, unless a read of the two
-- files failed or memory ran out.
pub drop_faults : (command : Command) (files : Option Files) (before now : RunCounts) (had has : Option (List ℕ)) (log log_now : List ReadCall) (result : Status) → Runs command files before now had has result → ReadsInOrder command files log log_now result
    → RejectsDropIn command files log log_now result
drop_faults command files before now had has log log_now status.Done runs order bytes drop_in fault known over is = absurd (none_joined command files runs.ends.1 bytes drop_in fault runs.ends.3 known over is)
drop_faults command files before now had has log log_now status.WriteFault runs order bytes drop_in fault known over is = absurd (none_joined command files runs.ends.1 bytes drop_in fault runs.ends.3 known over is)
drop_faults command files before now had has log log_now (status.TooLarge events) runs order bytes drop_in fault known over is = absurd (none_joined command files runs.ends.1.rules bytes drop_in fault runs.ends.1.takes_rules known over is)
drop_faults command files before now had has log log_now (status.NoMemory _) runs order bytes drop_in fault known over is = inr (inl refl)
drop_faults command files before now had has log log_now status.ReadFault runs order bytes drop_in fault known over is = inr (inr (failed_drop_in command files log log_now bytes drop_in fault known over is order.0 order.1 order.2))
drop_faults command files before now had has log log_now status.Usage runs order bytes drop_in fault known over is = absurd runs.ends
drop_faults command files before now had has log log_now (status.Rules found) runs order bytes drop_in fault known over is = absurd (no_rules_fault command files had has bytes drop_in found fault runs.ends known is)
drop_faults command files before now had has log log_now (status.DropIn found) runs order bytes drop_in fault known over is = let other = runs.ends.4 bytes drop_in known over in inl (cc (is, other))
drop_faults command files before now had has log log_now (status.Trace line why) runs order bytes drop_in fault known over is = absurd (none_joined command files runs.ends.2.0 bytes drop_in fault runs.ends.2.1 known over is)
drop_faults command files before now had has log log_now (status.Import line why) runs order bytes drop_in fault known over is = absurd (none_joined command files runs.ends.2.0 bytes drop_in fault runs.ends.2.1 known over is)
drop_faults command files before now had has log log_now (status.NoFile RulesFile) runs order bytes drop_in fault known over is = absurd (not_missed command files RulesFile had has bytes known runs.ends)
drop_faults command files before now had has log log_now (status.NoFile DropInFile) runs order bytes drop_in fault known over is = absurd (not_missed command files DropInFile had has drop_in over runs.ends)
drop_faults command files before now had has log log_now (status.NoFile TraceFile) runs order bytes drop_in fault known over is = absurd (none_joined command files runs.ends.1.0 bytes drop_in fault runs.ends.1.1 known over is)
drop_faults command files before now had has log log_now (status.NoFile ImportFile) runs order bytes drop_in fault known over is = absurd (none_joined command files runs.ends.1.0 bytes drop_in fault runs.ends.1.1 known over is)

-- ---- `rules`

-- If `rules` ends with Done, the output is the text of the rules.
pub prints : (name : List ℕ) (drop_in : Option (List ℕ)) (files : Option Files) (before now : RunCounts) (had has : Option (List ℕ)) → Runs (words.Rules name drop_in) files before now had has status.Done
    → (rules : List Rule) → RulesContent (words.Rules name drop_in) files rules → Appends had has (rules_text rules ++ codes "\n")
prints name drop_in files before now had has runs rules shows =
    let ends = runs.ends in
    let same = same_rules (words.Rules name drop_in) files ends.1 rules ends.3 shows in
    subst (λ (r : List Rule). Appends had has (rules_text r ++ codes "\n")) same (subst (Appends had has) ends.6.1 ends.6.2)

-- If the rules are accepted, `rules` ends with Done, unless a read or a write failed or memory ran
-- out.
pub prints_all : (name : List ℕ) (drop_in : Option (List ℕ)) (files : Option Files) (before now : RunCounts) (had has : Option (List ℕ)) (result : Status) → Runs (words.Rules name drop_in) files before now had has result
    → PrintsRules name drop_in files before now result
prints_all name drop_in files before now had has status.Done runs rules bytes_read reads writes = inl refl
prints_all name drop_in files before now had has (status.NoMemory _) runs rules bytes_read reads writes = inr refl
prints_all name drop_in files before now had has status.WriteFault runs rules bytes_read reads writes = absurd (writes (runs.counts.writes.increased refl))
prints_all name drop_in files before now had has (status.TooLarge events) runs rules bytes_read reads writes = absurd (let no : ⊥ = let come = runs.ends.1.outcome in cc come in no)
prints_all name drop_in files before now had has status.ReadFault runs rules bytes_read reads writes = absurd (reads (runs.counts.faults.increased refl))
prints_all name drop_in files before now had has status.Usage runs rules bytes_read reads writes = absurd runs.ends
prints_all name drop_in files before now had has (status.Rules fault) runs rules bytes_read reads writes = absurd (no_fault (words.Rules name drop_in) files rules fault had has bytes_read runs.ends)
prints_all name drop_in files before now had has (status.DropIn fault) runs rules bytes_read reads writes = absurd (no_drop_fault (words.Rules name drop_in) files rules fault had has bytes_read runs.ends)
prints_all name drop_in files before now had has (status.Trace line why) runs rules bytes_read reads writes = absurd (true≢false (sym runs.ends.1))
prints_all name drop_in files before now had has (status.Import line why) runs rules bytes_read reads writes = absurd (true≢false (sym runs.ends.1))
prints_all name drop_in files before now had has (status.NoFile RulesFile) runs rules bytes_read reads writes = absurd (no_missed (words.Rules name drop_in) files rules had has bytes_read runs.ends)
prints_all name drop_in files before now had has (status.NoFile DropInFile) runs rules bytes_read reads writes = absurd (no_missed_drop_in (words.Rules name drop_in) files rules had has bytes_read runs.ends)
prints_all name drop_in files before now had has (status.NoFile TraceFile) runs rules bytes_read reads writes = absurd (true≢false (sym (ap is_some runs.ends.2.1)))
prints_all name drop_in files before now had has (status.NoFile ImportFile) runs rules bytes_read reads writes = absurd (true≢false (sym (ap is_some runs.ends.2.1)))

-- ---- `whatif`

-- If `whatif` ends with Done, the output is the replay of the last trace.
pub supposed : (name : List ℕ) (options : Options) (files : Option Files) (before now : RunCounts) (had has : Option (List ℕ)) → Runs (words.Whatif name options) files before now had has status.Done
    → (bytes : List ℕ) (rules : List Rule) → options.live ≡ None → HasContent (words.Whatif name options) TraceFile files bytes → RulesContent (words.Whatif name options) files rules
    → (trace : Trace) × (last : Trace) × (trace_of (accepts_of (words.Whatif name options)) bytes ≡ Ok trace)
    × (last_trace trace (timing_of options) rules ≡ Ok last) × Appends had has (replay_text last (timing_of options) (with_rules rules))
supposed name options files before now had has runs bytes rules none shows rules_known =
    let ends = runs.ends in
    let same = same_rules (words.Whatif name options) files ends.1 rules ends.3 rules_known in
    let last = ends.6.1.0 in
    let text = subst (λ r. IsReplayText last (timing_of options) r ends.6.0) same ends.6.1.2 in (
      ends.0,
      last,
      of_read (trace_of (accepts_of (words.Whatif name options)) bytes) ends.0 ((ends.2 tt).read bytes shows),
      subst (λ r. last_trace ends.0 (timing_of options) r ≡ Ok last) same ends.6.1.1,
      subst (Appends had has) (one_text_unwatched last (timing_of options) rules ends.6.0 (ap (watch_of_path options.live_count) none) text) ends.6.2,
    )

-- If the status is TooLarge, its number of events is the number that a round left.
large_events : (last : Result Trace ℕ) (events : ℕ) → status_of_last last ≡ status.TooLarge events → last ≡ Err events
large_events (Ok trace) events is = absurd (let no : ⊥ = cc is in no)
large_events (Err more) events is = let same : more ≡ events = cc is in ap (λ (n : ℕ). let lost : Result Trace ℕ = Err n in lost) same

-- If `whatif` ends with TooLarge, a round left the number of events in the status.
pub outgrown : (name : List ℕ) (options : Options) (files : Option Files) (before now : RunCounts) (had has : Option (List ℕ)) (events : ℕ) → Runs (words.Whatif name options) files before now had has (status.TooLarge events)
    → (bytes : List ℕ) (rules : List Rule) → HasContent (words.Whatif name options) TraceFile files bytes → RulesContent (words.Whatif name options) files rules
    → (trace : Trace) × (trace_of (accepts_of (words.Whatif name options)) bytes ≡ Ok trace) × (last_trace trace (timing_of options) rules ≡ Err events) × Keeps had has
outgrown name options files before now had has events runs bytes rules shows rules_known =
    let come = runs.ends.1 in
    let same = same_rules (words.Whatif name options) files come.rules rules come.takes_rules rules_known in (
      come.trace,
      of_read (trace_of (accepts_of (words.Whatif name options)) bytes) come.trace ((come.takes tt).read bytes shows),
      subst (λ r. last_trace come.trace (timing_of options) r ≡ Err events) same (large_events (last_trace come.trace (timing_of options) come.rules) events come.outcome),
      runs.ends.0,
    )

-- The command `whatif` has no group for live samples.
pub unwatched : (bytes_read : List (List ℕ)) (name : List ℕ) (options : Options) → command_of bytes_read ≡ Some (words.Whatif name options) → options.live ≡ None
unwatched bytes_read name options is = (command_ranges bytes_read (words.Whatif name options) is).3
