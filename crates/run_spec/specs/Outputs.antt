-- Defines which files a command reads, the trace and the rules that it parses from them, the length
-- of its ticks, and its output.
use Rattle.std.specs.Prelude.{◌≡◌, ℕ, ◌*◌, List, [], ◌∷◌, ◌++◌, codes, Option, None, Some, Result, Ok, Err}
use Rattle.psi_base.specs.declared.event.Event.{Event}
use Rattle.psi_base.specs.declared.event.Refusal.{Refusal}
use Rattle.psi_spec.specs.Grammar.{One, Version, versions}
use Rattle.psi_spec.specs.Trace.{Accepts, Trace, accepts_with, text_of, trace_of}
use Rattle.import_spec.specs.Import.{Refused, import_of, import_trace}
use Rattle.ruleset_json.specs.declared.fault.RulesFault.{RulesFault}
use Rattle.ruleset_json.specs.declared.types.Rule.{Rule}
use Rattle.ruleset_json.specs.declared.types.Rules as types
use Rattle.ruleset_json.specs.Rules.{rules_of}
use Rattle.dropin_rules.specs.declared.fault.DropFault.{DropFault}
use Rattle.dropin_rules.specs.Joined.{dropped_in}
use Rattle.dropin_rules.specs.RulesText.{rules_text}
use Rattle.kill_spec.specs.Detectors.{of_seconds}
use Rattle.run_spec.specs.declared.command.Command.{Command}
use Rattle.run_spec.specs.declared.command.Command.TheVariants.{Stall, Check, Replay, Gen, Stress, Import, Rules, Whatif}
use Rattle.run_spec.specs.declared.command.Options.{Options}
use Rattle.run_spec.specs.declared.status.Status.{Status}
use Rattle.run_spec.specs.declared.status.Status.TheVariants as status
use Rattle.run_spec.specs.declared.status.Which.{Which}
use Rattle.run_spec.specs.declared.status.Which.TheVariants.{DropInFile, ImportFile, RulesFile, TraceFile}
use Rattle.run_spec.specs.Text.{check_text, stall_text}
use Rattle.run_spec.specs.Generated.{generated}
use Rattle.run_spec.specs.Live.{LiveWatch}
use Rattle.run_spec.specs.Replay.{IsReplayText, Timing, stress_text}
use Rattle.run_spec.specs.Whatif.{last_trace}

-- `trace_name command`: the name of the trace file that a command reads, or `None` if it reads no
-- trace file.
abbrev pub trace_name : Command → Option (List ℕ)
trace_name (Stall trace) = Some trace
trace_name (Check trace tick_ms) = Some trace
trace_name (Replay trace options) = Some trace
trace_name (Gen shape) = None
trace_name (Stress shape workers) = None
trace_name (Import file cpus) = None
trace_name (Rules file drop_in) = None
trace_name (Whatif trace options) = Some trace

-- `rules_name command`: the name of the rules file that a command reads, or `None` if it reads no
-- rules file.
abbrev pub rules_name : Command → Option (List ℕ)
rules_name (Replay trace options) = options.rules
rules_name (Rules file drop_in) = Some file
rules_name (Whatif trace options) = options.rules
rules_name _ = None

-- `drop_in_name command`: the name of the drop-in file that a command reads, or `None` if it reads
-- no drop-in file.
abbrev pub drop_in_name : Command → Option (List ℕ)
drop_in_name (Replay trace options) = options.drop_in
drop_in_name (Rules file drop_in) = drop_in
drop_in_name (Whatif trace options) = options.drop_in
drop_in_name _ = None

-- `import_name command`: the name of the file with the ftrace text that a command imports, or
-- `None` if it imports none.
abbrev pub import_name : Command → Option (List ℕ)
import_name (Import file cpus) = Some file
import_name _ = None

-- `file_of command which`: the name of the command's file of the kind `which`, or `None` if the
-- command reads no such file.
abbrev pub file_of : Command → Which → Option (List ℕ)
file_of command RulesFile = rules_name command
file_of command TraceFile = trace_name command
file_of command ImportFile = import_name command
file_of command DropInFile = drop_in_name command

-- `source_of command`: the kind of the file from which a command reads its trace. It is an ftrace
-- text for `import`, and a trace file for every other command.
abbrev pub source_of : Command → Which
source_of (Import file cpus) = ImportFile
source_of _ = TraceFile

-- `source_name command`: the name of the file from which a command reads its trace, or `None` if it
-- reads no trace and no ftrace text.
abbrev pub source_name : Command → Option (List ℕ)
source_name command = file_of command (source_of command)

-- Converts `n` milliseconds to nanoseconds.
abbrev pub of_ms : ℕ → ℕ
of_ms n = n * 1000000

-- `tick_length command`: the length (ns) of a tick for a command, 2 s unless the command has an
-- option for it. A trace may last at most a million ticks.
abbrev pub tick_length : Command → ℕ
tick_length (Check trace tick_ms) = of_ms tick_ms
tick_length (Replay trace options) = of_ms options.tick_ms
tick_length (Whatif trace options) = of_ms options.tick_ms
tick_length _ = of_seconds 2

-- `versions_of command`: the trace versions that a command accepts. These are all versions for
-- `stall`, `check`, `replay` and `whatif`, and version 1 for the other commands.
abbrev pub versions_of : Command → List Version
versions_of (Stall trace) = versions
versions_of (Check trace tick_ms) = versions
versions_of (Replay trace options) = versions
versions_of (Whatif trace options) = versions
versions_of _ = One ∷ []

-- `accepts_of command`: which traces a command accepts. It accepts the versions that `versions_of`
-- lists, all verbs of each version, and times of at most a million ticks.
abbrev pub accepts_of : Command → Accepts
accepts_of command = accepts_with (versions_of command) (tick_length command)

-- `or_refused_trace parsed`: converts the result of the trace parser. A rejection becomes a status,
-- which reports the first rejected line of the trace and the cause.
abbrev pub or_refused_trace : Result Trace Refusal → Result Trace Status
or_refused_trace (Ok trace) = Ok trace
or_refused_trace (Err refusal) = Err (status.Trace refusal.line refusal.cause)

-- `or_not_imported cpus imported`: makes a trace on `cpus` processors from imported events. A
-- rejection becomes a status, which reports the first rejected line of the ftrace text and the
-- cause.
abbrev pub or_not_imported : ℕ → Result (List Event) Refused → Result Trace Status
or_not_imported cpus (Ok events) = Ok (import_trace cpus events)
or_not_imported cpus (Err refusal) = Err (status.Import refusal.line refusal.cause)

-- `parse_of command bytes`: parses the content `bytes` of the command's trace file or ftrace text.
-- The result is the trace, or a status that reports the first rejected line. `import` converts an
-- ftrace text to a trace. Every other command parses a trace.
abbrev pub parse_of : Command → List ℕ → Result Trace Status
parse_of (Import file cpus) bytes = or_not_imported cpus (import_of cpus bytes)
parse_of command bytes = or_refused_trace (trace_of (accepts_of command) bytes)

-- `or_rules_fault parsed`: converts the result of parsing a rules file. An error becomes a status
-- that reports it.
abbrev pub or_rules_fault : Result types.Rules RulesFault → Result types.Rules Status
or_rules_fault (Ok rules) = Ok rules
or_rules_fault (Err fault) = Err (status.Rules fault)

-- `or_drop_fault changed`: converts the result of applying a drop-in file. An error becomes a
-- status that reports it.
abbrev pub or_drop_fault : Result types.Rules DropFault → Result types.Rules Status
or_drop_fault (Ok rules) = Ok rules
or_drop_fault (Err fault) = Err (status.DropIn fault)

-- `with_drop_in drop_in parsed`: applies the content `drop_in` of a drop-in file to parsed rules.
-- `drop_in` is `None` if there is no drop-in file. An error in `parsed` is returned unchanged.
abbrev pub with_drop_in : Option (List ℕ) → Result types.Rules Status → Result types.Rules Status
with_drop_in drop_in (Err why) = Err why
with_drop_in None (Ok base) = Ok base
with_drop_in (Some bytes) (Ok base) = or_drop_fault (dropped_in base bytes)

-- `rules_from bytes drop_in`: the rules of a command. `bytes` is the content of its rules file, and
-- `drop_in` is the content of its drop-in file (`None` if there is none). If one of the files is
-- rejected, the result is a status that names the file and its first error.
abbrev pub rules_from : List ℕ → Option (List ℕ) → Result types.Rules Status
rules_from bytes drop_in = with_drop_in drop_in (or_rules_fault (rules_of bytes))

-- `watch_of_path count path`: what `--live` watches if its value is `path`. `count` samples are
-- taken on each processor between two ticks. The result is `None` if `path` is `None`.
abbrev pub watch_of_path : ℕ → Option (List ℕ) → Option LiveWatch
watch_of_path count None = None
watch_of_path count (Some path) = Some (record { path = path; count = count })

-- `watch_of options`: the group that `--live` watches, or `None` if the option is absent.
abbrev pub watch_of : Options → Option LiveWatch
watch_of options = watch_of_path options.live_count options.live

-- `timing_of options`: the tick length, report period and evaluation interval (ns) of the options,
-- and the watched group.
abbrev pub timing_of : Options → Timing
timing_of options = record {
  length = of_ms options.tick_ms;
  report = of_seconds options.report_s;
  interval = of_seconds options.interval_s;
  watch = watch_of options;
}

-- `stress_options workers`: the options with which `stress` replays its trace. They are the default
-- options, except that there are at most `workers` threads, and that only the last tick has a
-- report.
abbrev pub stress_options : ℕ → Options
stress_options workers = record {
  rules = None;
  drop_in = None;
  tick_ms = 2000;
  interval_s = 5;
  report_s = 0;
  workers = workers;
  live = None;
  live_count = 1;
}

-- `IsOutput command trace rules text`: `text` is a complete output of `command` for the valid trace
-- `trace` and the valid rulesets `rules`. `gen` and `stress` read no file: their trace is the
-- generated trace of their shape. `import` prints its trace, whose number of processors is an
-- option. `rules` has no trace, and prints its rulesets. `whatif` prints the replay of the trace
-- that remains after all its rounds. `replay` has several possible outputs if a group is watched,
-- because the numbers of changes before the live samples may vary.
abbrev pub IsOutput : Command → Trace → List Rule → List ℕ → Type 0
IsOutput (Stall name) trace rules text = text ≡ stall_text trace
IsOutput (Check name tick_ms) trace rules text = text ≡ check_text trace
IsOutput (Replay name options) trace rules text =
    IsReplayText trace (timing_of options) rules text
IsOutput (Gen shape) trace rules text = (trace ≡ generated shape) × (text ≡ text_of trace)
IsOutput (Stress shape workers) trace rules text =
    (trace ≡ generated shape) × (text ≡ stress_text trace (timing_of (stress_options workers)))
IsOutput (Import file cpus) trace rules text = (trace.cpus ≡ cpus) × (text ≡ text_of trace)
IsOutput (Rules file drop_in) trace rules text = text ≡ rules_text rules ++ codes "\n"
IsOutput (Whatif name options) trace rules text =
    (last : Trace) × (last_trace trace (timing_of options) rules ≡ Ok last) × IsReplayText last (timing_of options) rules text

-- `status_of_last left`: the status of `whatif` for the result of `last_trace`, the trace after all
-- rounds. The status is Done, or TooLarge if a round left more events than a trace may have.
abbrev pub status_of_last : Result Trace ℕ → Status
status_of_last (Ok last) = status.Done
status_of_last (Err events) = status.TooLarge events

-- `outcome_of command trace rules`: the status of a command for a valid trace and valid rulesets,
-- if nothing fails. The status is Done, unless a round of `whatif` leaves more events than a trace
-- may have.
abbrev pub outcome_of : Command → Trace → List Rule → Status
outcome_of (Whatif name options) trace rules = status_of_last (last_trace trace (timing_of options) rules)
outcome_of command trace rules = status.Done
