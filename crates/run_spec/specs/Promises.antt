-- Defines the results that a run promises for accepted files and for rejected files. `before` and
-- `now` are the failure counts, or the logs of read calls, before and after the run. `result` is
-- the status of the run, and `files` are the known contents of files.
use Rattle.std.specs.Prelude.{◌≡◌, ◌⊎◌, ℕ, List, Option, Some, Ok, Err}
use Rattle.psi_base.specs.Memory.{no_memory}
use Rattle.outside.specs.Outside.{Files, Increased, content_of}
use Rattle.outside.specs.Reads.{ReadCall}
use Rattle.psi_spec.specs.Trace.{Trace}
use Rattle.ruleset_json.specs.declared.fault.RulesFault.{RulesFault}
use Rattle.ruleset_json.specs.declared.types.Rule.{Rule}
use Rattle.ruleset_json.specs.Rules.{rules_of}
use Rattle.dropin_rules.specs.declared.fault.DropFault.{DropFault}
use Rattle.run_spec.specs.declared.command.Command.{Command}
use Rattle.run_spec.specs.declared.command.Command.TheVariants as words
use Rattle.run_spec.specs.declared.status.Status.{Status}
use Rattle.run_spec.specs.declared.status.Status.TheVariants as status
use Rattle.run_spec.specs.declared.status.Which.TheVariants.{DropInFile, RulesFile}
use Rattle.run_spec.specs.Outputs.{outcome_of, parse_of, rules_from, rules_name, source_of}
use Rattle.run_spec.specs.ReadOrder.{FailedAt}
use Rattle.run_spec.specs.Run.{HasContent, ReadsFiles, RulesContent, RunCounts}

-- If the rules and the trace (or ftrace text) of a command are accepted, the run ends with the
-- status `outcome_of`, unless a read or a write fails or memory runs out.
abbrev pub Completes : Command → Option Files → RunCounts → RunCounts → Status → Type 0
Completes command files before now result = (rules : List Rule) (bytes : List ℕ) (trace : Trace)
    → RulesContent command files rules → HasContent command (source_of command) files bytes → parse_of command bytes ≡ Ok trace
    → (Increased before.shelf.faults now.shelf.faults → ⊥) → (Increased before.writes now.writes → ⊥)
    → (result ≡ outcome_of command trace rules) ⊎ (result ≡ status.NoMemory no_memory)

-- If the rules are accepted, the command `rules` prints them, unless a read or a write fails or
-- memory runs out.
abbrev pub PrintsRules : List ℕ → Option (List ℕ) → Option Files → RunCounts → RunCounts → Status → Type 0
PrintsRules name drop_in files before now result = (rules : List Rule)
    → RulesContent (words.Rules name drop_in) files rules
    → (Increased before.shelf.faults now.shelf.faults → ⊥) → (Increased before.writes now.writes → ⊥)
    → (result ≡ status.Done) ⊎ (result ≡ status.NoMemory no_memory)

-- A command that reads no file ends with the status Done, unless a write fails or memory runs out.
abbrev pub MakesOutput : Command → RunCounts → RunCounts → Status → Type 0
MakesOutput command before now result = (ReadsFiles command → ⊥) → (Increased before.writes now.writes → ⊥)
    → (result ≡ status.Done) ⊎ (result ≡ status.NoMemory no_memory)

-- If the rules file is rejected, the run ends with a status that reports the first error in this
-- file, unless a read of the file fails or memory runs out.
abbrev pub RejectsRules : Command → Option Files → List ReadCall → List ReadCall → Status → Type 0
RejectsRules command files before now result = (name bytes : List ℕ) (fault : RulesFault)
    → rules_name command ≡ Some name → content_of files name ≡ Some bytes → rules_of bytes ≡ Err fault
    → (result ≡ status.Rules fault) ⊎ (result ≡ status.NoMemory no_memory) ⊎ FailedAt command before now RulesFile result

-- If the rules file is accepted and the drop-in file is rejected, the run ends with a status that
-- reports the first error in the drop-in file. The exceptions are a failed read of one of the two
-- files, and out of memory.
abbrev pub RejectsDropIn : Command → Option Files → List ReadCall → List ReadCall → Status → Type 0
RejectsDropIn command files before now result = (bytes drop_in : List ℕ) (fault : DropFault)
    → HasContent command RulesFile files bytes → HasContent command DropInFile files drop_in
    → rules_from bytes (Some drop_in) ≡ Err (status.DropIn fault)
    → (result ≡ status.DropIn fault) ⊎ (result ≡ status.NoMemory no_memory) ⊎ FailedAt command before now RulesFile result
    ⊎ FailedAt command before now DropInFile result

-- If the rules are accepted and the trace or ftrace text is rejected, the run ends with a status
-- that reports the first rejected line, unless a read fails or memory runs out.
abbrev pub RejectsSource : Command → Option Files → RunCounts → RunCounts → Status → Type 0
RejectsSource command files before now result = (rules : List Rule) (bytes : List ℕ) (why : Status)
    → RulesContent command files rules → HasContent command (source_of command) files bytes → parse_of command bytes ≡ Err why
    → (Increased before.shelf.faults now.shelf.faults → ⊥)
    → (result ≡ why) ⊎ (result ≡ status.NoMemory no_memory)
