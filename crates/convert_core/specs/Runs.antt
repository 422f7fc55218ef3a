-- Defines what each status of a run means for the files and the output, and which failure counts
-- increase.
use Rattle.std.specs.Prelude.{◌≡◌, ◌⊎◌, ℕ, ◌+◌, List, [], ◌∷◌, Bool, true, false, Option, None, Some, Result, Ok, Err}
use Rattle.std.specs.Io.KnownBytes.{Appends, Keeps}
use Rattle.outside.specs.Outside.{AppendsPrefix, Files, Increased, IsAbsent, ShelfCounts, content_of, counts_of}
use Rattle.outside.specs.Reads.{ReadCall, ReadsFile}
use Rattle.outside.specs.declared.shelf.ShelfFault.{ShelfFault}
use Rattle.outside.specs.declared.shelf.ShelfFault.TheVariants as shelf
use Rattle.psi_base.specs.declared.event.Fault.{Fault}
use Rattle.psi_base.specs.declared.event.Fault.TheVariants as base
use Rattle.file_reader.specs.declared.prefix.FileFault.{FileFault}
use Rattle.file_reader.specs.declared.prefix.FileFault.TheVariants as fault
use Rattle.page_files.specs.declared.file.FileStop.{FileStop}
use Rattle.page_files.specs.declared.file.FileStop.TheVariants as stop
use Rattle.convert_table.specs.declared.fault.TableFault.{TableFault}
use Rattle.convert_core.specs.Convert.{Output, run_fault}
use Rattle.convert_core.specs.declared.status.Status.{Status}
use Rattle.convert_core.specs.declared.status.Status.TheVariants as status

-- `status_at cpu stop`: the status of a run that stops at the file of processor `cpu` for the
-- reason `stop`.
abbrev pub status_at : ℕ → FileStop → Status
status_at cpu stop.NoFile = status.NoFile (cpu + 1)
status_at cpu stop.ReadFault = status.ReadFault
status_at cpu (stop.Refused page byte why) = status.Page cpu page byte why
status_at cpu stop.WriteFault = status.WriteFault

-- `table_status fault`: the status of a run that can't read the table's file because of `fault`.
abbrev pub table_status : FileFault → Status
table_status fault.NoFile = status.NoFile 0
table_status fault.ReadFault = status.ReadFault
table_status (fault.NoMemory none) = status.NoMemory none

-- `refused_status fault`: the status of a run that can't parse the table because of `fault`.
abbrev pub refused_status : Fault TableFault → Status
refused_status (base.Refused why) = status.Table why
refused_status (base.NoMemory none) = status.NoMemory none

-- Whether the status means that all events were written, or all events before an invalid page.
abbrev pub ends_whole : Status → Bool
ends_whole status.Done = true
ends_whole (status.Page cpu page byte why) = true
ends_whole _ = false

-- ---- the output

-- `PutsOutput old new output result`: what the status `result` means for the bytes written. `old`
-- and `new` are the bytes written before and after. Done: the whole text of `output` was appended,
-- and `output` has no error. Page: the text was appended, and the status reports the error of
-- `output`. NoFile, ReadFault, WriteFault: a prefix of the text was appended. No other status is
-- possible.
abbrev pub PutsOutput : Option (List ℕ) → Option (List ℕ) → Output → Status → Type 0
PutsOutput old new output status.Done = (output.fault ≡ None) × Appends old new output.text
PutsOutput old new output (status.Page cpu page byte why) =
    (output.fault ≡ Some (run_fault cpu page byte why)) × Appends old new output.text
PutsOutput old new output (status.NoFile file) = AppendsPrefix old new output.text
PutsOutput old new output status.ReadFault = AppendsPrefix old new output.text
PutsOutput old new output status.WriteFault = AppendsPrefix old new output.text
PutsOutput old new output _ = ⊥

-- `Converts old new converted result`: what the status `result` means for the bytes written
-- (`PutsOutput`). `converted` is the output for the table and the pages, or the error of the table.
-- If the table has an error or memory runs out, nothing was written.
abbrev pub Converts : Option (List ℕ) → Option (List ℕ) → Result Output TableFault → Status → Type 0
Converts old new (Ok output) (status.NoMemory _) = Keeps old new
Converts old new (Ok output) result = PutsOutput old new output result
Converts old new (Err why) (status.Table reported) = (why ≡ reported) × Keeps old new
Converts old new (Err why) (status.NoFile file) = Keeps old new
Converts old new (Err why) status.ReadFault = Keeps old new
Converts old new (Err why) (status.NoMemory _) = Keeps old new
Converts old new (Err why) _ = ⊥

-- ---- failures

-- The failure counts of a run: the numbers of failed reads, of missing files, and of failed writes.
pub record RunCounts : Type 0 where
  pub shelf : ShelfCounts
  pub writes : ℕ

-- Builds the failure counts of a run from the numbers of failed reads, missing files and failed
-- writes.
abbrev pub counts_of_run : ℕ → ℕ → ℕ → RunCounts
counts_of_run faults absent writes = record { shelf = counts_of faults absent; writes = writes }

-- `IncreasesIf Happened before now`: a count increased from `before` to `now` if `Happened` holds,
-- and is unchanged if it doesn't.
pub record IncreasesIf (Happened : Type 0) (before now : ℕ) : Type 0 where
  pub increased : Happened → Increased before now
  pub same : ¬ Happened → now ≡ before

-- The status reports that a file is missing.
abbrev pub IsNoFile : Status → Type 0
IsNoFile result = (file : ℕ) × (result ≡ status.NoFile file)

-- Each failure count increased if and only if the status reports this failure. So no failure is
-- silently ignored.
pub record FailuresAreCounted (before now : RunCounts) (result : Status) : Type 0 where
  pub faults : IncreasesIf (result ≡ status.ReadFault) before.shelf.faults now.shelf.faults
  pub absent : IncreasesIf (IsNoFile result) before.shelf.absent now.shelf.absent
  pub writes : IncreasesIf (result ≡ status.WriteFault) before.writes now.writes

-- `IsMissing files number names file`: the file with the number `file` is missing. The files in
-- `names` are numbered from `number`.
abbrev pub IsMissing : Option Files → ℕ → List (List ℕ) → ℕ → Type 0
IsMissing files number [] file = ⊥
IsMissing files number (name ∷ names) file = ((file ≡ number) × (content_of files name ≡ None)) ⊎ IsMissing files (number + 1) names file

-- `LacksFile files names`: the contents of the shelf are known, and at least one of the files
-- `names` doesn't exist.
abbrev pub LacksFile : Option Files → List (List ℕ) → Type 0
LacksFile files [] = ⊥
LacksFile files (name ∷ names) = IsAbsent files name ⊎ LacksFile files names

-- ---- reads

-- Returns the fault of the file store (`Shelf`) that a status reports, or `None`.
abbrev pub shelf_fault_in : Status → Option ShelfFault
shelf_fault_in (status.NoFile file) = Some shelf.NoFile
shelf_fault_in status.ReadFault = Some shelf.Failed
shelf_fault_in _ = None

-- `ReadsInOrder names before now fault`: the log of read calls grew from `before` to `now` by reads
-- of the files `names` in order. Each file is read from its first byte, and no byte is read twice.
-- If a read fails with `fault`, nothing more is read.
abbrev pub ReadsInOrder : List (List ℕ) → List ReadCall → List ReadCall → Option ShelfFault → Type 0
ReadsInOrder [] before now fault = (now ≡ before) × (fault ≡ None)
ReadsInOrder (name ∷ names) before now fault =
    ((middle : List ReadCall) × ReadsFile name 0 before middle None × ReadsInOrder names middle now fault)
    ⊎ ((why : ShelfFault) × ReadsFile name 0 before now (Some why) × (fault ≡ Some why))
