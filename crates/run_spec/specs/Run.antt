-- The contract of a run: what each status implies for the files and the output, and which failure
-- counts increase.
use Rattle.std.specs.Prelude.{◌≡◌, ℕ, List, [], Option, None, Some, IsSome, MatchOption, option_map, Ok, Err, ⊤}
use Rattle.std.specs.Io.KnownBytes.{Appends, Keeps}
use Rattle.outside.specs.Outside.{Files, content_of, IsAbsent, Increased, AppendsPrefix, ShelfCounts, counts_of}
use Rattle.psi_spec.specs.Fields.{IsAmong}
use Rattle.psi_spec.specs.Trace.{AreKnown, IsAccepted, IsCpuCount, Trace, limits_of}
use Rattle.run_spec.specs.declared.command.Command.{Command}
use Rattle.run_spec.specs.declared.command.Command.TheVariants as words
use Rattle.run_spec.specs.declared.status.Status.{Status}
use Rattle.run_spec.specs.declared.status.Status.TheVariants as status
use Rattle.run_spec.specs.declared.status.Which.{Which}
use Rattle.run_spec.specs.declared.status.Which.TheVariants.{DropInFile, ImportFile, RulesFile, TraceFile}
use Rattle.ruleset_json.specs.declared.types.Rule.{Rule}
use Rattle.ruleset_json.specs.declared.types.Rules.{Rules}
use Rattle.ruleset_json.specs.RuleRanges.{FitsRules}
use Rattle.ruleset_json.specs.Rules.{rules_of}
use Rattle.run_spec.specs.Outputs.{IsOutput, accepts_of, drop_in_name, file_of, outcome_of, rules_from, rules_name, source_of, parse_of}

-- ---- the failure counts of a run

-- The failure counts of a run: the numbers of failed reads, of missing files, and of failed writes.
pub record RunCounts : Type 0 where
  pub shelf : ShelfCounts
  pub writes : ℕ

-- `run_counts faults absent writes`: the failure counts with `faults` failed reads, `absent`
-- missing files and `writes` failed writes.
abbrev pub run_counts : ℕ → ℕ → ℕ → RunCounts
run_counts faults absent writes = record { shelf = counts_of faults absent; writes = writes }

-- `RisesWhere Happened before now`: a count increased from `before` to `now` if `Happened` holds.
-- Otherwise the count is unchanged.
pub record RisesWhere (Happened : Type 0) (before now : ℕ) : Type 0 where
  pub increased : Happened → Increased before now
  pub same : ¬ Happened → now ≡ before

-- `IsNoFile result`: the status `result` reports that some file is missing.
abbrev pub IsNoFile : Status → Type 0
IsNoFile result = (which : Which) × (result ≡ status.NoFile which)

-- `FailuresAreCounted before now result`: each failure count increased if and only if the status
-- `result` reports a failure of this kind. So no failure is silently ignored.
pub record FailuresAreCounted (before now : RunCounts) (result : Status) : Type 0 where
  pub faults : RisesWhere (result ≡ status.ReadFault) before.shelf.faults now.shelf.faults
  pub absent : RisesWhere (IsNoFile result) before.shelf.absent now.shelf.absent
  pub writes : RisesWhere (result ≡ status.WriteFault) before.writes now.writes

-- ---- the content of a command's files

-- `HasContent command which files bytes`: the command reads a file of the kind `which`, and the
-- content of this file is known to be `bytes`.
abbrev pub HasContent : Command → Which → Option Files → List ℕ → Type 0
HasContent command which files bytes = (name : List ℕ) × (file_of command which ≡ Some name) × (content_of files name ≡ Some bytes)

-- `content_if_named files name`: the content of a file with an optional name. If no file is named,
-- the result is `Some None`. If the content of the named file is unknown, the result is `None`.
abbrev pub content_if_named : Option Files → Option (List ℕ) → Option (Option (List ℕ))
content_if_named files None = Some None
content_if_named files (Some name) = option_map (λ bytes. Some bytes) (content_of files name)

-- `DropInContent command files drop_in`: the content of the command's drop-in file is known to be
-- `drop_in`. If the command has no drop-in file, `drop_in` is `None`.
abbrev pub DropInContent : Command → Option Files → Option (List ℕ) → Type 0
DropInContent command files drop_in = content_if_named files (drop_in_name command) ≡ Some drop_in

-- The command has a trace, which it reads, imports or generates. Every command except `rules` has a
-- trace.
abbrev pub HasTrace : Command → Type 0
HasTrace (words.Rules file drop_in) = ⊥
HasTrace _ = ⊤

-- `TakesTrace command files trace`: `trace` is a valid trace for the command. Its version and the
-- verbs of its events are accepted, and its events are legal. If the content of the command's trace
-- file or ftrace text is known, `trace` is the result of parsing this content.
pub record TakesTrace (command : Command) (files : Option Files) (trace : Trace) : Type 0 where
  pub version : IsAmong trace.version (accepts_of command).versions
  pub cpus : IsCpuCount trace.cpus
  pub known : AreKnown ((accepts_of command).verbs trace.version) trace.events
  pub accepted : IsAccepted (limits_of (accepts_of command).tick trace.cpus) trace.events
  pub read : (bytes : List ℕ) → HasContent command (source_of command) files bytes → parse_of command bytes ≡ Ok trace

-- `TakesRules command files rules`: `rules` are valid rulesets for the command, with all values in
-- range. If the contents of the rules file and of the drop-in file are known, `rules` are the
-- result of parsing them. A command without a rules file has no rulesets.
pub record TakesRules (command : Command) (files : Option Files) (rules : List Rule) : Type 0 where
  pub fit : FitsRules rules
  pub none : rules_name command ≡ None → rules ≡ []
  pub read : (bytes : List ℕ) (drop_in : Option (List ℕ)) → HasContent command RulesFile files bytes → DropInContent command files drop_in
      → rules_from bytes drop_in ≡ Ok (record { rules = rules })

-- `TakesBase command files base`: if the content of the command's rules file is known, `base` is
-- the result of parsing it, before a drop-in file is applied.
abbrev pub TakesBase : Command → Option Files → Rules → Type 0
TakesBase command files base = (bytes : List ℕ) → HasContent command RulesFile files bytes → rules_of bytes ≡ Ok base

-- `RulesContent command files rules`: the rulesets of the command are known to be `rules`. They are
-- the rulesets of its rules file, changed by its drop-in file, if any. A command without a rules
-- file has no rulesets.
abbrev pub RulesContent : Command → Option Files → List Rule → Type 0
RulesContent command files rules = MatchOption (rules_name command) (rules ≡ [])
    (λ name. (bytes : List ℕ) × (drop_in : Option (List ℕ)) × (content_of files name ≡ Some bytes) × DropInContent command files drop_in
    × (rules_from bytes drop_in ≡ Ok (record { rules = rules })))

-- ---- what each status implies

-- `IsThere command files which`: the command reads no file of the kind `which`, or this file isn't
-- known to be missing.
abbrev pub IsThere : Command → Option Files → Which → Type 0
IsThere command files which = (name : List ℕ) → file_of command which ≡ Some name → IsAbsent files name → ⊥

-- `RulesAreThere command files`: neither the rules file nor the drop-in file of the command is
-- known to be missing.
abbrev pub RulesAreThere : Command → Option Files → Type 0
RulesAreThere command files = IsThere command files RulesFile × IsThere command files DropInFile

-- `HasOutput command files IsSo`: the command has a complete output for which the property `IsSo`
-- holds. This is the output for some valid trace and some valid rulesets. None of the command's
-- files is known to be missing. If the command has no trace, any trace may be chosen.
abbrev pub HasOutput : Command → Option Files → (List ℕ → Type 0) → Type 0
HasOutput command files IsSo =
    (trace : Trace) × (rules : List Rule) × (HasTrace command → TakesTrace command files trace) × TakesRules command files rules
    × RulesAreThere command files × IsThere command files (source_of command)
    × ((text : List ℕ) × IsOutput command trace rules text × IsSo text)

-- `ComesTo command files result`: if nothing fails, the command ends with the status `result` for
-- some valid trace and some valid rulesets. None of the command's files is known to be missing.
pub record ComesTo (command : Command) (files : Option Files) (result : Status) : Type 0 where
  pub trace : Trace
  pub rules : List Rule
  pub takes : HasTrace command → TakesTrace command files trace
  pub takes_rules : TakesRules command files rules
  pub rules_there : RulesAreThere command files
  pub there : IsThere command files (source_of command)
  pub outcome : outcome_of command trace rules ≡ result

-- `IsPassed command files which`: all files that the command reads before its file of the kind
-- `which` were accepted, and none of them is known to be missing. The rules file is read first,
-- then the drop-in file, and then the trace or ftrace text.
abbrev pub IsPassed : Command → Option Files → Which → Type 0
IsPassed command files RulesFile = ⊤
IsPassed command files DropInFile =
    (base : Rules) × IsSome (rules_name command) × TakesBase command files base × IsThere command files RulesFile
IsPassed command files _ = (rules : List Rule) × TakesRules command files rules × RulesAreThere command files

-- `ReadsFiles command`: the command reads at least one file.
abbrev pub ReadsFiles : Command → Type 0
ReadsFiles command = (which : Which) × IsSome (file_of command which)

-- `Refuses command files old new which result`: the status `result` reports the first rejected line
-- of the command's file of the kind `which`. All files that are read before this file were
-- accepted. Nothing was written: `old` and `new` are the bytes of the output before and after the
-- run.
abbrev pub Refuses : Command → Option Files → Option (List ℕ) → Option (List ℕ) → Which → Status → Type 0
Refuses command files old new which result =
    Keeps old new × IsSome (file_of command which) × IsPassed command files which × IsThere command files which
    × ((bytes : List ℕ) → HasContent command which files bytes → parse_of command bytes ≡ Err result)

-- `Ends command files old new result`: what the status `result` guarantees. `files` are the known
-- contents of files, and `old` and `new` are the bytes of the output before and after the run.
-- Done: the complete output for a valid trace and valid rulesets was written. WriteFault: only a
-- prefix of that output was written. With any other status, nothing was written. Rules, DropIn,
-- Trace, Import: the status reports the first error in the file of this kind, and the files read
-- before it were accepted. TooLarge: a round of `whatif` leaves too many events. NoFile: a file is
-- missing.
abbrev pub Ends : Command → Option Files → Option (List ℕ) → Option (List ℕ) → Status → Type 0
Ends command files old new status.Done = HasOutput command files (λ text. Appends old new text)
Ends command files old new status.WriteFault = HasOutput command files (λ text. AppendsPrefix old new text)
Ends command files old new (status.Rules fault) =
    Keeps old new × IsThere command files RulesFile × ((name : List ℕ) × (rules_name command ≡ Some name)
    × ((bytes : List ℕ) → content_of files name ≡ Some bytes → rules_of bytes ≡ Err fault))
Ends command files old new (status.DropIn fault) =
    Keeps old new × IsSome (file_of command DropInFile) × IsPassed command files DropInFile × IsThere command files DropInFile
    × ((bytes drop_in : List ℕ) → HasContent command RulesFile files bytes → HasContent command DropInFile files drop_in
    → rules_from bytes (Some drop_in) ≡ Err (status.DropIn fault))
Ends command files old new (status.Trace line why) = Refuses command files old new TraceFile (status.Trace line why)
Ends command files old new (status.Import line why) = Refuses command files old new ImportFile (status.Import line why)
Ends command files old new (status.TooLarge events) = Keeps old new × ComesTo command files (status.TooLarge events)
Ends command files old new (status.NoFile which) =
    Keeps old new × IsPassed command files which × ((name : List ℕ) × (file_of command which ≡ Some name) × (content_of files name ≡ None))
Ends command files old new status.ReadFault = Keeps old new × ReadsFiles command
Ends command files old new (status.NoMemory _) = Keeps old new
Ends command files old new status.Usage = ⊥

-- `Runs command files before now old new result`: the contract of a run of a command. It states
-- what the status `result` guarantees, and which failure counts increase from `before` to `now`.
pub record Runs (command : Command) (files : Option Files) (before now : RunCounts) (old new : Option (List ℕ))
    (result : Status) : Type 0 where
  pub ends : Ends command files old new result
  pub counts : FailuresAreCounted before now result
