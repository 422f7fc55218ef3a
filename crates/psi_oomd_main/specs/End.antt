-- The end of the program `psi_oomd`: its exit code, its message on standard error, and the contract
-- that the run satisfies.
use Rattle.std.specs.Prelude.{◌≡◌, ◌⊎◌, ◌+◌, ◌≤◌, ℕ, List, Option, None, Some}
use Rattle.std.specs.Io.KnownBytes.{Appends, Keeps}
use Rattle.psi_base.specs.Memory.{no_memory}
use Rattle.outside.specs.Outside.{AppendsPrefix, Files, Increased}
use Rattle.outside.specs.Reads.{ReadCall}
use Rattle.run_spec.specs.declared.command.Command.{Command}
use Rattle.run_spec.specs.declared.command.Command.TheVariants as words
use Rattle.run_spec.specs.MostRead.{most_read}
use Rattle.run_spec.specs.Promises.{Completes, MakesOutput, PrintsRules, RejectsDropIn, RejectsRules, RejectsSource}
use Rattle.run_spec.specs.ReadOrder.{ReadsInOrder}
use Rattle.run_spec.specs.Run.{RunCounts, Runs}
use Rattle.run_spec.specs.Status.{code_of, status_text}
use Rattle.run_spec.specs.Stops.{StopsAtRefusal}
use Rattle.run_spec.specs.declared.status.Status.{Status}
use Rattle.run_spec.specs.declared.status.Status.TheVariants as status

-- The program ends with the exit code of `status`. The message of the status was appended to
-- standard error, or a prefix of the message if a write to standard error failed.
pub record EndsAs (command : Option Command) (status : Status) (exit faults_before faults_now : ℕ)
    (old new : Option (List ℕ)) : Type 0 where
  pub code : exit ≡ code_of status
  pub prefix : AppendsPrefix old new (status_text command status)
  pub whole : (Increased faults_before faults_now → ⊥) → Appends old new (status_text command status)

-- The reads of a run: the number of bytes read and the log of read calls, each before the run and
-- after it.
pub record RunReads : Type 0 where
  pub bytes : ℕ
  pub bytes_now : ℕ
  pub log : List ReadCall
  pub log_now : List ReadCall

-- Builds the record of a run's reads from its four parts.
abbrev pub run_reads : ℕ → ℕ → List ReadCall → List ReadCall → RunReads
run_reads bytes bytes_now log log_now =
    record { bytes = bytes; bytes_now = bytes_now; log = log; log_now = log_now }

-- A run of `command` that ended with the status `ended` satisfies the contract of `run` about
-- files, failure counts, reads and output.
pub record KeepsPromises (command : Command) (ended : Status) (files : Option Files) (before now : RunCounts) (reads : RunReads)
    (old new : Option (List ℕ)) : Type 0 where
  pub runs : Runs command files before now old new ended
  pub complete : Completes command files before now ended
  pub prints : (name : List ℕ) (drop_in : Option (List ℕ)) → command ≡ words.Rules name drop_in
      → PrintsRules name drop_in files before now ended
  pub made : MakesOutput command before now ended
  pub faulty : RejectsRules command files reads.log reads.log_now ended
  pub dropped : RejectsDropIn command files reads.log reads.log_now ended
  pub refuses : RejectsSource command files before now ended
  pub reads_few : reads.bytes_now ≤ reads.bytes + most_read command
  pub order : ReadsInOrder command files reads.log reads.log_now ended
  pub stops : StopsAtRefusal command files reads.bytes reads.bytes_now ended

-- The run read nothing, and wrote nothing to the output.
pub record DoesNothing (reads : RunReads) (old new : Option (List ℕ)) : Type 0 where
  pub bytes : reads.bytes_now ≡ reads.bytes
  pub log : reads.log_now ≡ reads.log
  pub keeps : Keeps old new

-- The run ended with the status `ended`, and satisfies the contract of `run` for the parsed
-- command. If the arguments aren't a command, the status is Usage or NoMemory, and the run read and
-- wrote nothing.
pub record RanAs (command : Option Command) (ended : Status) (files : Option Files) (before now : RunCounts) (reads : RunReads)
    (old new : Option (List ℕ)) : Type 0 where
  pub kept : (spelled : Command) → command ≡ Some spelled → KeepsPromises spelled ended files before now reads old new
  pub unknown : command ≡ None → (ended ≡ status.Usage) ⊎ (ended ≡ status.NoMemory no_memory)
  pub idle : command ≡ None → DoesNothing reads old new
