-- Proofs about the order of the reads of a trace.
use Rattle.std.proofs.Common.{◌≡◌, ℕ, List, refl, sym, subst}
use Rattle.std.specs.Prelude.{Err, IsErr, None, Ok, Result}
use Rattle.std.specs.Result.{IsErrAnd}
use Rattle.psi_base.specs.declared.text.NoMemory as token
use Rattle.outside.specs.Reads.{Progress, ReadCall, ReadsFile, ReadsFrom, fault_in}
use Rattle.outside.specs.Reads.Progress.{Next}
use Rattle.outside.proofs.ReadOrder.{file_read, file_unread, no_reads}
use Rattle.psi_base.specs.declared.event.Cause.{Cause}
use Rattle.psi_base.specs.declared.event.Fault.{Fault}
use Rattle.psi_base.specs.declared.event.Fault.TheVariants as fault
use Rattle.psi_base.specs.declared.event.Refusal.{Refusal}
use Rattle.psi_lines.specs.Next.{progress_by_fault}
use Rattle.psi_lines.specs.declared.lines.LineFault.{LineFault}
use Rattle.psi_lines.specs.declared.lines.LineFault.TheVariants as lines
use Rattle.trace_file.specs.Reads.{IsTraceFault, shelf_fault, shelf_fault_in, trace_fault}
use Rattle.trace_file.specs.declared.trace.TraceFault.{TraceFault}
use Rattle.trace_file.specs.declared.trace.TraceFault.TheVariants.{Refused, NoFile, ReadFault, NoMemory}

-- If the reads end at offset `p` and `p` equals `q`, the reads end at offset `q`.
pub place_is : (name : List ℕ) (from : Progress) (p q : ℕ) (before now : List ReadCall) → ReadsFrom name from before now (Next p) → p ≡ q → ReadsFrom name from before now (Next q)
place_is name from p q before now reads is = subst (λ n. ReadsFrom name from before now (Next n)) is reads

-- If nothing is read, the offset is unchanged.
pub stays_there : (name : List ℕ) (at place : ℕ) (log : List ReadCall) → place ≡ at → ReadsFrom name (Next at) log log (Next place)
stays_there name at place log is = place_is name (Next at) at place log log (no_reads name (Next at) log) (sym is)

-- If a line is rejected after reads without a fault, the reads of the file are in order and report
-- no fault.
pub refused_order : (name : List ℕ) (at : ℕ) (progress : Progress) (before now : List ReadCall) (refusal : Refusal) (found : TraceFault) → ReadsFrom name (Next at) before now progress → fault_in progress ≡ None → found ≡ Refused refusal
    → ReadsFile name at before now (shelf_fault found)
refused_order name at progress before now refusal found reads none is =
    subst (λ f. ReadsFile name at before now (shelf_fault f)) (sym is) (subst (λ f. ReadsFile name at before now f) none (file_read name at before now progress reads))

-- If a line has a fault that isn't a fault of a read, the reads before it are in order and report
-- no fault.
pub faulted_order : (name : List ℕ) (at place line : ℕ) (before now : List ReadCall) (why : Fault Cause) (found : TraceFault) → ReadsFrom name (Next at) before now (Next place) → IsTraceFault line why found → ReadsFile name at before now (shelf_fault found)
faulted_order name at place line before now (fault.Refused cause) found reads is = refused_order name at (Next place) before now _ found reads refl is
faulted_order name at place line before now (fault.NoMemory none) found reads is =
    subst (λ f. ReadsFile name at before now (shelf_fault f)) (sym is) (file_read name at before now (Next place) reads)

-- If a line can't be read, the reads of the file are in order and end with the line's fault.
pub unread_order : (name : List ℕ) (at place : ℕ) (before now : List ReadCall) (cut : Cause) (why : LineFault) (found : TraceFault) → ReadsFrom name (Next at) before now (progress_by_fault place why) → found ≡ trace_fault cut why
    → ReadsFile name at before now (shelf_fault found)
unread_order name at place before now cut (lines.TooLong n) found reads is = subst (λ f. ReadsFile name at before now (shelf_fault f)) (sym is) (file_read name at before now _ reads)
unread_order name at place before now cut (lines.Cut n) found reads is = subst (λ f. ReadsFile name at before now (shelf_fault f)) (sym is) (file_read name at before now _ reads)
unread_order name at place before now cut lines.NoFile found reads is = subst (λ f. ReadsFile name at before now (shelf_fault f)) (sym is) (file_read name at before now _ reads)
unread_order name at place before now cut lines.ReadFault found reads is = subst (λ f. ReadsFile name at before now (shelf_fault f)) (sym is) (file_read name at before now _ reads)
unread_order name at place before now cut (lines.NoMemory none) found reads is = subst (λ f. ReadsFile name at before now (shelf_fault f)) (sym is) (file_read name at before now _ reads)

-- If memory ran out before the first read, the log is unchanged.
pub nothing_read : {A : Type 0} → (name : List ℕ) (log : List ReadCall) (none : token.NoMemory) (result : Result A TraceFault) → IsErr result → IsErrAnd result (λ e. e ≡ NoMemory none) → ReadsFile name 0 log log (shelf_fault_in result)
nothing_read name log none (Ok value) failed same = cc
nothing_read name log none (Err found) failed same =
    let is : found ≡ NoMemory none = same in
    subst (λ (f : TraceFault). ReadsFile name 0 log log (shelf_fault f)) (sym is) (file_unread name 0 log)
