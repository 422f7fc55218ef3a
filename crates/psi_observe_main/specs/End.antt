-- The contract of the program `psi_observe`: its exit code, its message on standard error, its
-- output and its reads.
use Rattle.std.specs.Prelude.{◌≡◌, ◌↔◌, ◌+◌, ◌≤◌, ℕ, List, Option, None, Some}
use Rattle.std.specs.Io.KnownBytes.{Appends, Keeps}
use Rattle.outside.specs.Outside.{AppendsPrefix, Files, Increased}
use Rattle.outside.specs.Reads.{ReadCall}
use Rattle.run_spec.specs.MostRead.{most_of_trace}
use Rattle.run_spec.specs.Run.{RunCounts}
use Rattle.observe_spec.specs.Run.{Observes, ObservesAll, ReadsTraceInOrder, RejectsManySamples, RejectsTrace, StopsObserving}
use Rattle.observe_spec.specs.Status.{code_of, observe_status_text}
use Rattle.observe_spec.specs.Words.{Request}
use Rattle.observe_spec.specs.declared.status.ObserveStatus.{ObserveStatus}
use Rattle.observe_spec.specs.declared.status.ObserveStatus.TheVariants.{Usage}

-- The program ends with the exit code `exit` of `status`. The content of standard error is `old`
-- before the run and `new` after it. The message of the status was appended, or a prefix of the
-- message if a write to standard error failed.
pub record EndsAs (request : Option Request) (status : ObserveStatus) (exit faults_before faults_now : ℕ)
    (old new : Option (List ℕ)) : Type 0 where
  pub code : exit ≡ code_of status
  pub prefix : AppendsPrefix old new (observe_status_text request status)
  pub whole : (Increased faults_before faults_now → ⊥) → Appends old new (observe_status_text request status)

-- The reads of a run: the number of bytes read before the run (`bytes`) and after it (`bytes_now`),
-- and the log of read calls before the run (`log`) and after it (`log_now`).
pub record RunReads : Type 0 where
  pub bytes : ℕ
  pub bytes_now : ℕ
  pub log : List ReadCall
  pub log_now : List ReadCall

-- `run_reads bytes bytes_now log log_now`: builds the record of a run's reads.
abbrev pub run_reads : ℕ → ℕ → List ReadCall → List ReadCall → RunReads
run_reads bytes bytes_now log log_now =
    record { bytes = bytes; bytes_now = bytes_now; log = log; log_now = log_now }

-- A run of `request` ended with the status `ended`, and satisfies the contract of `observe` about
-- the trace, the failure counts, the reads and the output.
pub record KeepsPromises (request : Request) (ended : ObserveStatus) (files : Option Files) (before now : RunCounts) (reads : RunReads)
    (old new : Option (List ℕ)) : Type 0 where
  pub runs : Observes request files before now old new ended
  pub complete : ObservesAll request files before now ended
  pub many : RejectsManySamples request files before now ended
  pub refuses : RejectsTrace request files before now ended
  pub reads_few : reads.bytes_now ≤ reads.bytes + most_of_trace
  pub order : ReadsTraceInOrder request reads.log reads.log_now ended
  pub stops : StopsObserving request files reads.bytes reads.bytes_now ended

-- The run read nothing, and wrote nothing to the output.
pub record DoesNothing (reads : RunReads) (old new : Option (List ℕ)) : Type 0 where
  pub bytes : reads.bytes_now ≡ reads.bytes
  pub log : reads.log_now ≡ reads.log
  pub keeps : Keeps old new

-- The run ended with the status `ended`, and satisfies the contract of `observe` for the request.
-- `request` is `None` if the arguments don't form a request. Exactly in this case the status is
-- Usage, and the run read and wrote nothing.
pub record RanAs (request : Option Request) (ended : ObserveStatus) (files : Option Files) (before now : RunCounts) (reads : RunReads)
    (old new : Option (List ℕ)) : Type 0 where
  pub kept : (spelled : Request) → request ≡ Some spelled → KeepsPromises spelled ended files before now reads old new
  pub usage : (ended ≡ Usage) ↔ (request ≡ None)
  pub idle : request ≡ None → DoesNothing reads old new
