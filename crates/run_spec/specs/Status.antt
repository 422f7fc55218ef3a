-- The exit status of the program for each status of a run, and the message that reports the status.
use Rattle.std.specs.Prelude.{ℕ, List, [], ◌++◌, codes, decimal, Option, None, Some}
use Rattle.psi_base.specs.declared.event.Cause.{Cause}
use Rattle.import_spec.specs.declared.cause.ImportCause.{ImportCause}
use Rattle.run_spec.specs.declared.command.Command.{Command}
use Rattle.run_spec.specs.declared.status.Status.{Status}
use Rattle.run_spec.specs.declared.status.Status.TheVariants as status
use Rattle.run_spec.specs.declared.status.Which.{Which}
use Rattle.ruleset_json.specs.FaultText.{fault_text}
use Rattle.dropin_rules.specs.FaultText.{drop_fault_text}
use Rattle.run_spec.specs.Outputs.{file_of}
use Rattle.run_spec.specs.Text.{cause_text, import_cause_text}

-- The exit status of the program, from 0 to 10, for a status of a run.
abbrev pub code_of : Status → ℕ
code_of status.Done = 0
code_of status.Usage = 1
code_of (status.Trace line why) = 2
code_of (status.Rules fault) = 3
code_of (status.NoFile which) = 4
code_of status.ReadFault = 5
code_of status.WriteFault = 6
code_of (status.NoMemory _) = 7
code_of (status.Import line why) = 8
code_of (status.DropIn fault) = 9
code_of (status.TooLarge events) = 10

-- `name_or_none name`: the bytes of an optional name. The result is empty for `None`.
abbrev pub name_or_none : Option (List ℕ) → List ℕ
name_or_none None = []
name_or_none (Some name) = name

-- `name_text command which`: the name of the file of the kind `which` that a command reads. The
-- result is empty if the command is `None` or reads no such file.
abbrev pub name_text : Option Command → Which → List ℕ
name_text None which = []
name_text (Some command) which = name_or_none (file_of command which)

-- `refusal_text line why`: the message for line number `line` (from 1) of a trace, if the line is
-- rejected with the cause `why`.
abbrev pub refusal_text : ℕ → Cause → List ℕ
refusal_text line why = codes "trace line " ++ (decimal line ++ (codes ": " ++ (cause_text why ++ codes "\n")))

-- `import_refusal_text line why`: the message for line number `line` (from 1) of an ftrace text, if
-- the line is rejected with the cause `why`.
abbrev pub import_refusal_text : ℕ → ImportCause → List ℕ
import_refusal_text line why = codes "import line " ++ (decimal line ++ (codes ": " ++ (import_cause_text why ++ codes "\n")))

-- `status_text command result`: the message for the status `result`. It is one line with its
-- newline, or no bytes for Done. `command` is the command that ran, or `None` if the words form no
-- command.
abbrev pub status_text : Option Command → Status → List ℕ
status_text command status.Done = []
status_text command status.Usage = codes "usage: psi_oomd stall or check or replay or gen or stress or import or rules or whatif\n"
status_text command (status.Trace line why) = refusal_text line why
status_text command (status.Rules fault) = fault_text fault ++ codes "\n"
status_text command (status.NoFile which) = codes "no file: " ++ (name_text command which ++ codes "\n")
status_text command status.ReadFault = codes "read fault\n"
status_text command status.WriteFault = codes "write fault\n"
status_text command (status.NoMemory _) = codes "out of memory\n"
status_text command (status.Import line why) = import_refusal_text line why
status_text command (status.DropIn fault) = drop_fault_text fault ++ codes "\n"
status_text command (status.TooLarge events) = codes "too large\n"
