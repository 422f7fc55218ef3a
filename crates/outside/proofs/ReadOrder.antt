-- How reads of files in order are combined.
use Rattle.std.proofs.Common.{◌≡◌, ℕ, zero, suc, ◌+◌, ◌<◌, List, [], ◌∷◌, ◌++◌, refl, sym, ap, ◌∙◌, subst, append_assoc, arith, Option, None, Some, Result, Ok, Err}
use Rattle.std.proofs.lemmas.List.{append-nil}
use Rattle.outside.specs.declared.shelf.ShelfFault.{ShelfFault}
use Rattle.outside.specs.Reads.{AreReads, Progress, ReadCall, ReadsFile, ReadsEach, ReadsFrom, after_read, fault_in, read_call}
use Rattle.outside.specs.Reads.Progress.{Next, Over}

-- ---- one file

-- no read
pub no_reads : (name : List ℕ) (from : Progress) (log : List ReadCall) → ReadsFrom name from log log from
no_reads name from log = record { calls = []; grown = sym (append-nil log); in_order = refl }

-- one read
pub one_read : (name : List ℕ) (at size : ℕ) (outcome : Result ℕ ShelfFault) (before now : List ReadCall) → 0 < size
    → now ≡ before ++ read_call name at size outcome ∷ [] → ReadsFrom name (Next at) before now (after_read at outcome)
one_read name at size outcome before now some grown =
    record { calls = read_call name at size outcome ∷ []; grown = grown; in_order = (refl, refl, some, refl) }

-- calls after calls
calls_then : (name : List ℕ) (from middle to : Progress) (xs ys : List ReadCall) → AreReads name from xs middle → AreReads name middle ys to → AreReads name from (xs ++ ys) to
calls_then name from middle to [] ys first then = subst (λ p. AreReads name p ys to) first then
calls_then name (Next at) middle to (call ∷ xs) ys first then =
    (first.0, first.1, first.2, calls_then name (after_read at call.outcome) middle to xs ys first.3 then)
calls_then name (Over fault) middle to (call ∷ xs) ys first then = absurd first

-- reads after reads
pub reads_then : (name : List ℕ) (from middle to : Progress) (before between now : List ReadCall) → ReadsFrom name from before between middle → ReadsFrom name middle between now to
    → ReadsFrom name from before now to
reads_then name from middle to before between now first then = record {
  calls = first.calls ++ then.calls;
  grown = then.grown ∙ ap (λ log. log ++ then.calls) first.grown ∙ append_assoc before first.calls then.calls;
  in_order = calls_then name from middle to first.calls then.calls first.in_order then.in_order;
}

-- after a read that returned bytes, the next read begins after them
pub goes_on : (at n : ℕ) → 0 < n → after_read at (Ok n) ≡ Next (at + n)
goes_on at zero some = absurd (omega (arith, some))
goes_on at (suc n) some = refl

-- one more read, which returned bytes
pub read_on : (name : List ℕ) (from : Progress) (at n : ℕ) (before between now : List ReadCall) → ReadsFrom name from before between (Next at) → ReadsFrom name (Next at) between now (after_read at (Ok n)) → 0 < n
    → ReadsFrom name from before now (Next (at + n))
read_on name from at n before between now first then some =
    reads_then name from (Next at) (Next (at + n)) before between now first (subst (ReadsFrom name (Next at) between now) (goes_on at n some) then)

-- reads of a file, with the fault that ended them
pub file_read : (name : List ℕ) (at : ℕ) (before now : List ReadCall) (progress : Progress) → ReadsFrom name (Next at) before now progress → ReadsFile name at before now (fault_in progress)
file_read name at before now progress reads = record { progress = progress; reads = reads; ended = refl }

-- the rest of a file's reads, after its first reads
pub file_then : (name : List ℕ) (at place : ℕ) (before between now : List ReadCall) (fault : Option ShelfFault) → ReadsFrom name (Next at) before between (Next place) → ReadsFile name place between now fault
    → ReadsFile name at before now fault
file_then name at place before between now fault first then =
    record { progress = then.progress; reads = reads_then name (Next at) (Next place) then.progress before between now first then.reads; ended = then.ended }

-- a file's reads end with a read that returned no byte
pub file_ends : (name : List ℕ) (at place : ℕ) (before between now : List ReadCall) (n : ℕ) → ReadsFrom name (Next at) before between (Next place) → ReadsFrom name (Next place) between now (after_read place (Ok n)) → n ≡ 0
    → ReadsFile name at before now None
file_ends name at place before between now zero first then none = file_read name at before now (Over None) (reads_then name (Next at) (Next place) (Over None) before between now first then)
file_ends name at place before between now (suc n) first then none = absurd (omega (arith, none))

-- or with a read that had a fault
pub file_fails : (name : List ℕ) (at place : ℕ) (before between now : List ReadCall) (fault : ShelfFault) → ReadsFrom name (Next at) before between (Next place)
    → ReadsFrom name (Next place) between now (after_read place (Err fault)) → ReadsFile name at before now (Some fault)
file_fails name at place before between now fault first then = file_read name at before now (Over (Some fault)) (reads_then name (Next at) (Next place) (Over (Some fault)) before between now first then)

-- nothing is read of a file
pub file_unread : (name : List ℕ) (at : ℕ) (log : List ReadCall) → ReadsFile name at log log None
file_unread name at log = file_read name at log log (Next at) (no_reads name (Next at) log)

-- ---- several files

-- nothing is read of any file
pub none_read : (names : List (List ℕ)) (log : List ReadCall) → ReadsEach names log log
none_read [] log = refl
none_read (name ∷ names) log = (log, file_unread name 0 log, none_read names log)

-- one file was read, and nothing of later files
pub file_stops : (name : List ℕ) (names : List (List ℕ)) (before now : List ReadCall) → ReadsFile name 0 before now None → ReadsEach (name ∷ names) before now
file_stops name names before now reads = (now, reads, none_read names now)

-- files after files
pub files_then : (xs ys : List (List ℕ)) (before between now : List ReadCall) → ReadsEach xs before between → ReadsEach ys between now → ReadsEach (xs ++ ys) before now
files_then [] ys before between now first then = subst (λ log. ReadsEach ys log now) first then
files_then (name ∷ xs) ys before between now first then = (first.0, first.1, files_then xs ys first.0 between now first.2 then)

-- nothing is read of later files
pub files_stop : (xs ys : List (List ℕ)) (before now : List ReadCall) → ReadsEach xs before now → ReadsEach (xs ++ ys) before now
files_stop xs ys before now reads = files_then xs ys before now now reads (none_read ys now)
