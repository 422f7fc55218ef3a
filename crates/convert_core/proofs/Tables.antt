-- A table, and what follows it.
use Rattle.std.proofs.Common.{◌≡◌, ℕ, ◌<◌, ◌≤◌, ◌∙◌, List, ◌∷◌, length, take, refl, sym, ap, subst, inl, inr, arith, length-take, Option, None, Some, Ok, Err, Bool, true, false}
use Rattle.std.specs.Prelude.{Result, nat_lt}
use Rattle.std.specs.Io.KnownBytes.{Keeps}
use Rattle.std.proofs.lemmas.Bool.{lt-ltb, ltb-false, ltb-true}
use Rattle.std.proofs.lemmas.List.{take_all}
use Rattle.psi_base.specs.declared.event.Fault.{Fault}
use Rattle.psi_base.specs.declared.event.Fault.TheVariants as base
use Rattle.psi_base.specs.Gives.{FaultOf}
use Rattle.outside.specs.Reads.{ReadCall, ReadsFile}
use Rattle.outside.specs.declared.shelf.ShelfFault.TheVariants as shelf
use Rattle.convert_core.proofs.Wholes.{unread_in_order}
use Rattle.page_spec.specs.declared.layout.Layout.{Layout}
use Rattle.file_reader.specs.declared.prefix.FileFault.{FileFault}
use Rattle.file_reader.specs.declared.prefix.FileFault.TheVariants as fault
use Rattle.file_reader.specs.Prefix.{shelf_fault}
use Rattle.convert_table.specs.declared.fault.TableCause.TheVariants.{TooLong}
use Rattle.convert_table.specs.declared.fault.TableFault.{TableFault}
use Rattle.convert_table.specs.Table.{table_fault, table_of}
use Rattle.convert_core.specs.Convert.{output_with}
use Rattle.convert_core.specs.Runs.{Converts, ReadsInOrder, refused_status, shelf_fault_in, table_status}
use Rattle.convert_core.specs.declared.status.Status.{Status}

-- nothing was written
keeps : (has : Option (List ℕ)) → Keeps has has
keeps None = tt
keeps (Some bytes) = refl

-- a table with too many bytes
too_long : (bytes : List ℕ) → 65536 < length bytes → table_of bytes ≡ Err (table_fault 1 TooLong)
unfolding table_of
too_long bytes long = rw (lt-ltb 65536 (length bytes) long) refl

either : (a b : ℕ) (P : Type 0) → (a ≤ b → P) → (b < a → P) → P
either a b P few many = by_test (nat_lt b a) refl
  where
    by_test : (test : Bool) → nat_lt b a ≡ test → P
    by_test true is = many (ltb-true b a is)
    by_test false is = few (ltb-false b a is)

-- the first bytes of a table decide on all of it
pub table_prefix : (bytes : List ℕ) → table_of (take 65537 bytes) ≡ table_of bytes
table_prefix bytes =
    either (length bytes) 65537 (table_of (take 65537 bytes) ≡ table_of bytes) (λ few. ap table_of (take_all 65537 bytes few))
    (λ many. too_long (take 65537 bytes) (omega (arith, many, length-take 65537 bytes)) ∙ sym (too_long bytes (omega arith)))

-- a table whose memory ran out
none_written : (has : Option (List ℕ)) (table : Result Layout TableFault) (wholes : List (List ℕ)) (end : Fault TableFault) → FaultOf end table → Converts has has (output_with table wholes) (refused_status end)
none_written has (Ok layout) wholes (base.Refused why) is = cc
none_written has (Err found) wholes (base.Refused why) is = (cc is, keeps has)
none_written has (Ok layout) wholes (base.NoMemory none) is = keeps has
none_written has (Err found) wholes (base.NoMemory none) is = keeps has

-- a table without a layout
pub table_refused : (has : Option (List ℕ)) (bytes : List ℕ) (wholes : List (List ℕ)) (end : Fault TableFault) (result : Status) → FaultOf end (table_of (take 65537 bytes)) → result ≡ refused_status end
    → Converts has has (output_with (table_of bytes) wholes) result
table_refused has bytes wholes end result fault is =
    subst (λ (s : Status). Converts has has (output_with (table_of bytes) wholes) s) (sym is)
    (none_written has (table_of bytes) wholes end (subst (λ (t : Result Layout TableFault). FaultOf end t) (table_prefix bytes) fault))

-- the table's file wasn't read, and nothing more
unread_by : (name : List ℕ) (names : List (List ℕ)) (before now : List ReadCall) (end : FileFault) → ReadsFile name 0 before now (shelf_fault end) → ReadsInOrder (name ∷ names) before now (shelf_fault_in (table_status end))
unread_by name names before now fault.NoFile reads = inr (shelf.NoFile, reads, refl)
unread_by name names before now fault.ReadFault reads = inr (shelf.Failed, reads, refl)
unread_by name names before now (fault.NoMemory none) reads = inl (now, reads, unread_in_order names now)

-- the same for the status
pub table_unread : (name : List ℕ) (names : List (List ℕ)) (before now : List ReadCall) (end : FileFault) (result : Status) → ReadsFile name 0 before now (shelf_fault end) → result ≡ table_status end
    → ReadsInOrder (name ∷ names) before now (shelf_fault_in result)
table_unread name names before now end result reads is =
    subst (λ (s : Status). ReadsInOrder (name ∷ names) before now (shelf_fault_in s)) (sym is) (unread_by name names before now end reads)

-- a refused table has no fault of the shelf
no_fault : (end : Fault TableFault) → shelf_fault_in (refused_status end) ≡ None
no_fault (base.Refused why) = refl
no_fault (base.NoMemory none) = refl

-- the table's file was read, and nothing more
pub table_alone : (name : List ℕ) (names : List (List ℕ)) (before now : List ReadCall) (end : Fault TableFault) (result : Status) → ReadsFile name 0 before now None → result ≡ refused_status end
    → ReadsInOrder (name ∷ names) before now (shelf_fault_in result)
table_alone name names before now end result reads is =
    subst (λ (s : Status). ReadsInOrder (name ∷ names) before now (shelf_fault_in s)) (sym is)
    (subst (λ found. ReadsInOrder (name ∷ names) before now found) (sym (no_fault end)) (inl (now, reads, unread_in_order names now)))
