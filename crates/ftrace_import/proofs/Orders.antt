-- Proofs about the order of the reads of a text.
use Rattle.std.proofs.Common.{◌≡◌, ℕ, List, refl, sym, subst}
use Rattle.std.specs.Prelude.{Err, IsErr, None, Ok, Result}
use Rattle.std.specs.Result.{IsErrAnd}
use Rattle.psi_base.specs.declared.text.NoMemory as token
use Rattle.outside.specs.Reads.{Progress, ReadCall, ReadsFile, ReadsFrom, fault_in}
use Rattle.outside.specs.Reads.Progress.{Next}
use Rattle.outside.proofs.ReadOrder.{file_read, file_unread}
use Rattle.psi_base.specs.declared.event.Fault.{Fault}
use Rattle.psi_base.specs.declared.event.Fault.TheVariants as fault
use Rattle.psi_lines.specs.Next.{progress_by_fault}
use Rattle.psi_lines.specs.declared.lines.LineFault.{LineFault}
use Rattle.psi_lines.specs.declared.lines.LineFault.TheVariants as lines
use Rattle.import_spec.specs.declared.cause.ImportCause.{ImportCause}
use Rattle.ftrace_import.specs.Gathers.{IsLineFault, import_fault, shelf_fault, shelf_fault_in}
use Rattle.ftrace_import.specs.declared.text.ImportFault.{ImportFault}
use Rattle.ftrace_import.specs.declared.text.ImportFault.TheVariants as import

-- The reads end at offset `q` if they end at `p` and these are equal.
pub place_is : (name : List ℕ) (from : Progress) (p q : ℕ) (before now : List ReadCall) → ReadsFrom name from before now (Next p) → p ≡ q → ReadsFrom name from before now (Next q)
place_is name from p q before now reads is = subst (λ n. ReadsFrom name from before now (Next n)) is reads

-- The order of reads after which a line is rejected, or has another fault that isn't a failed read.
pub faulted_order : (name : List ℕ) (at place line : ℕ) (before now : List ReadCall) (why : Fault ImportCause) (found : ImportFault) → ReadsFrom name (Next at) before now (Next place) → IsLineFault line why found
    → ReadsFile name at before now (shelf_fault found)
faulted_order name at place line before now (fault.Refused cause) found reads is = subst (λ f. ReadsFile name at before now (shelf_fault f)) (sym is) (file_read name at before now (Next place) reads)
faulted_order name at place line before now (fault.NoMemory none) found reads is = subst (λ f. ReadsFile name at before now (shelf_fault f)) (sym is) (file_read name at before now (Next place) reads)

-- The order of reads that end with the fault of a line that can't be read.
pub unread_order : (name : List ℕ) (at place : ℕ) (before now : List ReadCall) (why : LineFault) (found : ImportFault) → ReadsFrom name (Next at) before now (progress_by_fault place why) → found ≡ import_fault why
    → ReadsFile name at before now (shelf_fault found)
unread_order name at place before now (lines.TooLong n) found reads is = subst (λ f. ReadsFile name at before now (shelf_fault f)) (sym is) (file_read name at before now _ reads)
unread_order name at place before now (lines.Cut n) found reads is = subst (λ f. ReadsFile name at before now (shelf_fault f)) (sym is) (file_read name at before now _ reads)
unread_order name at place before now lines.NoFile found reads is = subst (λ f. ReadsFile name at before now (shelf_fault f)) (sym is) (file_read name at before now _ reads)
unread_order name at place before now lines.ReadFault found reads is = subst (λ f. ReadsFile name at before now (shelf_fault f)) (sym is) (file_read name at before now _ reads)
unread_order name at place before now (lines.NoMemory none) found reads is = subst (λ f. ReadsFile name at before now (shelf_fault f)) (sym is) (file_read name at before now _ reads)

-- If memory ran out before the first read, the log is unchanged.
pub nothing_read : {A : Type 0} → (name : List ℕ) (log : List ReadCall) (none : token.NoMemory) (result : Result A ImportFault) → IsErr result → IsErrAnd result (λ e. e ≡ import.NoMemory none) → ReadsFile name 0 log log (shelf_fault_in result)
nothing_read name log none (Ok value) failed same = cc
nothing_read name log none (Err found) failed same =
    let is : found ≡ import.NoMemory none = same in
    subst (λ (f : ImportFault). ReadsFile name 0 log log (shelf_fault f)) (sym is) (file_unread name 0 log)
