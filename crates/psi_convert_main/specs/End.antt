-- The contract of the program `psi_convert`: its exit code, its message on standard error, its
-- output and its reads.
use Rattle.std.specs.Prelude.{◌≡◌, ℕ, List, ◌∷◌, true, false, codes, Option, Some}
use Rattle.std.specs.Io.KnownBytes.{Appends, Keeps}
use Rattle.outside.specs.Outside.{AppendsPrefix, Files, Increased, content_of}
use Rattle.outside.specs.Reads.{ReadCall}
use Rattle.convert_core.specs.Convert.{contents_of, convert_of, is_command}
use Rattle.convert_core.specs.Runs.{Converts, FailuresAreCounted, IsMissing, LacksFile, ReadsInOrder, RunCounts, shelf_fault_in}
use Rattle.convert_core.specs.Status.{code_of, status_text}
use Rattle.convert_core.specs.declared.status.Status.{Status}
use Rattle.convert_core.specs.declared.status.Status.TheVariants as status

-- The program, run with the arguments `words`, ends with the exit code `exit` of the status
-- `ended`. The content of standard error is `old` before the run and `new` after it. The message of
-- the status was appended, or a prefix of the message if a write to standard error failed.
pub record EndsAs (words : List (List ℕ)) (ended : Status) (exit faults_before faults_now : ℕ)
    (old new : Option (List ℕ)) : Type 0 where
  pub code : exit ≡ code_of ended
  pub prefix : AppendsPrefix old new (status_text words ended)
  pub whole : (Increased faults_before faults_now → ⊥) → Appends old new (status_text words ended)

-- The log of read calls before a run (`log`) and after the run (`log_now`).
pub record RunReads : Type 0 where
  pub log : List ReadCall
  pub log_now : List ReadCall

-- `run_reads log log_now`: builds the record of a run's reads from the two logs.
abbrev pub run_reads : List ReadCall → List ReadCall → RunReads
run_reads log log_now = record { log = log; log_now = log_now }

-- A run of the command line `words` ended with the status `ended`. If the contents of the files are
-- known, the output and the status are those that `convert_of` defines. Each failure that the
-- status reports was counted, and the files were read in order. If the status is NoFile, the file
-- that it names is missing. If a file is missing, the status isn't Done. The status is Usage
-- exactly if the words aren't a command; then the run read and wrote nothing.
pub record RanAs (words : List (List ℕ)) (ended : Status) (files : Option Files) (before now : RunCounts) (reads : RunReads)
    (old new : Option (List ℕ)) : Type 0 where
  pub converts : (table : List ℕ) (pages : List (List ℕ)) (bytes : List ℕ) (wholes : List (List ℕ)) → is_command words ≡ true
      → words ≡ codes "events" ∷ table ∷ pages → content_of files table ≡ Some bytes → contents_of files pages ≡ Some wholes
      → Converts old new (convert_of bytes wholes) ended
  pub counts : FailuresAreCounted before now ended
  pub order : (names : List (List ℕ)) → is_command words ≡ true → words ≡ codes "events" ∷ names
      → ReadsInOrder names reads.log reads.log_now (shelf_fault_in ended)
  pub missed : (names : List (List ℕ)) (file : ℕ) → words ≡ codes "events" ∷ names → ended ≡ status.NoFile file
      → IsMissing files 0 names file
  pub lacking : (names : List (List ℕ)) → words ≡ codes "events" ∷ names → LacksFile files names → ¬ (ended ≡ status.Done)
  pub unknown : is_command words ≡ false → ended ≡ status.Usage
  pub usage : ended ≡ status.Usage → is_command words ≡ false
  pub quiet : ended ≡ status.Usage → Keeps old new
  pub unread : ended ≡ status.Usage → reads.log_now ≡ reads.log
