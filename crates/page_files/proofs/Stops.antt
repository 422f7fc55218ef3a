-- The shelf's fault in the end of a file.
use Rattle.std.proofs.Common.{◌≡◌, ℕ, ◌+◌, ◌*◌, List, refl, sym, subst, arith, None, Some}
use Rattle.outside.specs.Reads.{ReadCall, ReadsFile, ReadsFrom}
use Rattle.outside.specs.Reads.Progress.{Next}
use Rattle.outside.specs.declared.shelf.ShelfFault.{ShelfFault}
use Rattle.outside.specs.declared.shelf.ShelfFault.TheVariants as shelf
use Rattle.outside.proofs.ReadOrder.{file_read, file_then, reads_then}
use Rattle.event_lines.specs.declared.page.PageStop.{PageStop}
use Rattle.event_lines.specs.declared.page.PageStop.TheVariants as stop
use Rattle.page_files.specs.Puts.{shelf_fault_of, stop_at, stop_of_read}
use Rattle.page_files.specs.declared.file.FileStop.{FileStop}

-- a failed read has its own fault
read_fault : (fault : ShelfFault) → shelf_fault_of (stop_of_read fault) ≡ Some fault
read_fault shelf.NoFile = refl
read_fault shelf.Failed = refl

-- a page has none
page_fault : (number : ℕ) (end : PageStop) → shelf_fault_of (stop_at number end) ≡ None
page_fault number (stop.Refused why) = refl
page_fault number stop.WriteFault = refl

-- a file's reads end with the read of a part that had a fault
pub read_ends : (name : List ℕ) (place : ℕ) (before between now : List ReadCall) (fault : ShelfFault) (end : FileStop) → ReadsFrom name (Next 0) before between (Next place)
    → ReadsFile name place between now (Some fault) → end ≡ stop_of_read fault → ReadsFile name 0 before now (shelf_fault_of end)
read_ends name place before between now fault end first then is =
    subst (λ (e : FileStop). ReadsFile name 0 before now (shelf_fault_of e)) (sym is)
    (subst (λ found. ReadsFile name 0 before now found) (sym (read_fault fault)) (file_then name 0 place before between now (Some fault) first then))

-- the reads of whole parts
pub parts_read : (name : List ℕ) (number size count : ℕ) (before between now : List ReadCall) → ReadsFrom name (Next 0) before between (Next (number * size))
    → ReadsFrom name (Next (number * size)) between now (Next (number * size + count)) → count ≡ size → ReadsFrom name (Next 0) before now (Next ((number + 1) * size))
parts_read name number size count before between now first then full =
    let place : number * size + size ≡ (number + 1) * size = grind arith in
    let exact : ReadsFrom name (Next (number * size)) between now (Next (number * size + size)) = subst (λ n. ReadsFrom name (Next (number * size)) between now (Next (number * size + n))) full then in
    subst (λ at. ReadsFrom name (Next 0) before now (Next at)) place (reads_then name (Next 0) (Next (number * size)) (Next (number * size + size)) before between now first exact)

-- they end after a whole part
pub part_ends : (name : List ℕ) (number size count : ℕ) (before between now : List ReadCall) → ReadsFrom name (Next 0) before between (Next (number * size))
    → ReadsFrom name (Next (number * size)) between now (Next (number * size + count)) → ReadsFile name 0 before now None
part_ends name number size count before between now first then =
    file_read name 0 before now (Next (number * size + count)) (reads_then name (Next 0) (Next (number * size)) (Next (number * size + count)) before between now first then)

-- the same, with the end of a page
pub page_ends : (name : List ℕ) (number size count : ℕ) (before between now : List ReadCall) (end : FileStop) (stopped : PageStop) → ReadsFrom name (Next 0) before between (Next (number * size))
    → ReadsFrom name (Next (number * size)) between now (Next (number * size + count)) → end ≡ stop_at number stopped → ReadsFile name 0 before now (shelf_fault_of end)
page_ends name number size count before between now end stopped first then is =
    subst (λ (e : FileStop). ReadsFile name 0 before now (shelf_fault_of e)) (sym is)
    (subst (λ found. ReadsFile name 0 before now found) (sym (page_fault number stopped)) (part_ends name number size count before between now first then))
