-- Lemmas about the order of the reads for a prefix of a file.
use Rattle.std.proofs.Common.{◌≡◌, ℕ, List, sym, subst}
use Rattle.std.specs.Prelude.{Err, IsErr, Ok, Result}
use Rattle.std.specs.Result.{IsErrAnd}
use Rattle.psi_base.specs.declared.text.NoMemory.{NoMemory}
use Rattle.outside.specs.Reads.{ReadCall, ReadsFile, ReadsFrom, after_read}
use Rattle.outside.specs.Reads.Progress.{Next}
use Rattle.outside.specs.declared.shelf.ShelfFault.{ShelfFault}
use Rattle.outside.specs.declared.shelf.ShelfFault.TheVariants as shelf
use Rattle.outside.proofs.ReadOrder.{file_fails, file_unread}
use Rattle.file_reader.specs.Prefix.{file_fault, shelf_fault, shelf_fault_in}
use Rattle.file_reader.specs.declared.prefix.FileFault.{FileFault}
use Rattle.file_reader.specs.declared.prefix.FileFault.TheVariants as fault

-- If a read fails, its fault is the result, and the reads before it are in order.
pub prefix_fails : (name : List ℕ) (at place : ℕ) (before between now : List ReadCall) (why : ShelfFault) (found : FileFault) → ReadsFrom name (Next at) before between (Next place)
    → ReadsFrom name (Next place) between now (after_read place (Err why)) → found ≡ file_fault why → ReadsFile name at before now (shelf_fault found)
prefix_fails name at place before between now shelf.NoFile found first then is =
    subst (λ (f : FileFault). ReadsFile name at before now (shelf_fault f)) (sym is) (file_fails name at place before between now shelf.NoFile first then)
prefix_fails name at place before between now shelf.Failed found first then is =
    subst (λ (f : FileFault). ReadsFile name at before now (shelf_fault f)) (sym is) (file_fails name at place before between now shelf.Failed first then)

-- If memory runs out before the first read, nothing is read.
pub prefix_unread : {A : Type 0} → (name : List ℕ) (log : List ReadCall) (none : NoMemory) (result : Result A FileFault) → IsErr result → IsErrAnd result (λ e. e ≡ fault.NoMemory none) → ReadsFile name 0 log log (shelf_fault_in result)
prefix_unread name log none (Ok value) failed same = cc
prefix_unread name log none (Err found) failed same =
    let is : found ≡ fault.NoMemory none = same in
    subst (λ (f : FileFault). ReadsFile name 0 log log (shelf_fault f)) (sym is) (file_unread name 0 log)
