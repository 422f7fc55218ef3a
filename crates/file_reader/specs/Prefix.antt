-- Defines the result of reading the first bytes of a file, and how the read changes the failure
-- counts of the file store (`Shelf`).
use Rattle.std.specs.Prelude.{Option, None, Some, Result, Ok, Err, IsErrOf, ⊤}
use Rattle.outside.specs.Outside.{HasCauses, ShelfCounts}
use Rattle.outside.specs.declared.shelf.ShelfFault.{ShelfFault}
use Rattle.outside.specs.declared.shelf.ShelfFault.TheVariants as shelf
use Rattle.file_reader.specs.declared.prefix.FileFault.{FileFault}
use Rattle.file_reader.specs.declared.prefix.FileFault.TheVariants as fault

-- Converts a fault of the file store to the corresponding fault of reading a file.
abbrev pub file_fault : ShelfFault → FileFault
file_fault shelf.NoFile = fault.NoFile
file_fault shelf.Failed = fault.ReadFault

-- `CausesFileFault before now result`: the file store counted a failed read or a missing file if
-- and only if `result` reports it.
abbrev pub CausesFileFault : {A : Type 0} → ShelfCounts → ShelfCounts → Result A FileFault → Type 0
CausesFileFault before now result =
    HasCauses before now (IsErrOf result fault.ReadFault) (IsErrOf result fault.NoFile)

-- `ShowsNothing result`: `result` is a fault, not the bytes of the file.
abbrev pub ShowsNothing : {A : Type 0} → Result A FileFault → Type 0
ShowsNothing (Ok x) = ⊥
ShowsNothing (Err found) = ⊤

-- Returns the fault of the file store that a fault of reading a file reports, or `None` if memory
-- ran out.
abbrev pub shelf_fault : FileFault → Option ShelfFault
shelf_fault fault.NoFile = Some shelf.NoFile
shelf_fault fault.ReadFault = Some shelf.Failed
shelf_fault (fault.NoMemory _) = None

-- Returns the fault of the file store that a result reports, or `None`.
abbrev pub shelf_fault_in : {A : Type 0} → Result A FileFault → Option ShelfFault
shelf_fault_in (Ok x) = None
shelf_fault_in (Err found) = shelf_fault found
