-- Defines what a call that writes the lines of a file appends to a sink, and the fault with which
-- the call ends.
use Rattle.std.specs.Prelude.{◌≡◌, ℕ, ◌≤◌, List, Option, None, Some, Result, Ok, Err, IsErrOf}
use Rattle.std.specs.Io.KnownBytes.{Appends}
use Rattle.outside.specs.Outside.{AppendsPrefix, Increased}
use Rattle.outside.specs.declared.shelf.ShelfFault.{ShelfFault}
use Rattle.outside.specs.declared.shelf.ShelfFault.TheVariants as shelf
use Rattle.page_spec.specs.Items.{Found, PageFault, byte_fault, fault_at}
use Rattle.page_spec.specs.Lines.{items_text}
use Rattle.event_lines.specs.declared.page.PageStop.{PageStop}
use Rattle.event_lines.specs.declared.page.PageStop.TheVariants as stop
use Rattle.page_files.specs.declared.file.FileStop.{FileStop}
use Rattle.page_files.specs.declared.file.FileStop.TheVariants as file

-- `stop_of_read fault`: the fault of a failed read, converted to a fault of the call that writes
-- the file (`FileStop`).
abbrev pub stop_of_read : ShelfFault → FileStop
stop_of_read shelf.NoFile = file.NoFile
stop_of_read shelf.Failed = file.ReadFault

-- `stop_at page stop`: the fault `stop` of writing page number `page` (from 0), converted to a
-- fault of the call that writes the whole file (`FileStop`).
abbrev pub stop_at : ℕ → PageStop → FileStop
stop_at page (stop.Refused why) = file.Refused page why.byte why.cause
stop_at page stop.WriteFault = file.WriteFault

-- `shelf_fault_of stop`: the fault of the read that failed, or `None` if `stop` isn't a failed
-- read.
abbrev pub shelf_fault_of : FileStop → Option ShelfFault
shelf_fault_of file.NoFile = Some shelf.NoFile
shelf_fault_of file.ReadFault = Some shelf.Failed
shelf_fault_of _ = None

-- `shelf_fault_in result`: the fault of the read that failed, or `None` if `result` reports no
-- failed read.
abbrev pub shelf_fault_in : {T : Type 0} → Result T FileStop → Option ShelfFault
shelf_fault_in (Ok done) = None
shelf_fault_in (Err found) = shelf_fault_of found

-- `PutsFile old new cpu found result`: relates the result of a call that writes the lines of the
-- items in `found`, for processor `cpu`, to the sink's content. The content changed from `old` to
-- `new`. If the result is Ok, all lines were appended and `found` has no error. If it is Refused,
-- all lines before the error were appended. If a read or a write failed, a prefix of the lines was
-- appended.
abbrev pub PutsFile : {T : Type 0} → Option (List ℕ) → Option (List ℕ) → ℕ → Found PageFault → Result T FileStop → Type 0
PutsFile old new cpu found (Ok done) = (found.fault ≡ None) × Appends old new (items_text cpu found.items)
PutsFile old new cpu found (Err (file.Refused page byte cause)) =
    (found.fault ≡ Some (fault_at page (byte_fault byte cause))) × Appends old new (items_text cpu found.items)
PutsFile old new cpu found (Err _) = AppendsPrefix old new (items_text cpu found.items)

-- `HasFileWriteCause before now result`: the number of failed writes increased from `before` to
-- `now` if `result` is WriteFault. For any other result, both numbers are equal.
pub record HasFileWriteCause {T : Type 0} (before now : ℕ) (result : Result T FileStop) : Type 0 where
  pub later : before ≤ now
  pub failed : IsErrOf result file.WriteFault → Increased before now
  pub same : ¬ IsErrOf result file.WriteFault → now ≡ before
