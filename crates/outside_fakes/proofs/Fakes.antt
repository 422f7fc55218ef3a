-- The contracts of shelves and sinks in memory meet those of every shelf and sink.
use Rattle.std.proofs.Common.{◌≡◌, ℕ, ◌-◌, ◌≤◌, min, List, length, refl, arith, ◌⊎◌, inl, inr}
use Rattle.std.specs.Prelude.{Result, Ok, Err, Option, None, Some, IfOk, IsErrOf}
use Rattle.outside.specs.Outside.{Files, HasCauses, ReadsBytes, Increased, bytes_of, counts_of}
use Rattle.outside.specs.Calls.{CountsWhere, one_more}
use Rattle.outside_fakes.specs.Memory.{GivesOf}
use Rattle.outside.specs.declared.shelf.ShelfFault.{ShelfFault}
use Rattle.outside.specs.declared.shelf.ShelfFault.TheVariants.{NoFile, Failed}

-- ---- counts

one_more_increased : (before now : ℕ) → now ≡ one_more before → Increased before now
one_more_increased before now is = grind (arith, is)

-- a shelf's counts increase for their causes only
pub shelf_causes : (result : Result ℕ ShelfFault) (faults faults_now absent absent_now : ℕ) → CountsWhere (IsErrOf result Failed) faults faults_now → CountsWhere (IsErrOf result NoFile) absent absent_now → HasCauses (counts_of faults absent) (counts_of faults_now absent_now) (IsErrOf result Failed) (IsErrOf result NoFile)
shelf_causes result faults faults_now absent absent_now fault missing = record {
  faults_later = fault.later;
  absent_later = missing.later;
  failed = λ is. one_more_increased faults faults_now (fault.counted is);
  missed = λ is. one_more_increased absent absent_now (missing.counted is);
  faults_same = fault.same;
  absent_same = missing.same;
}

-- ---- results of calls that don't fail

buffered_bound : (files : Files) (name : List ℕ) (at most : ℕ) (before into : List ℕ) (n : ℕ) (found : Option (List ℕ)) → bytes_of files name ≡ found → GivesOf files name at most before into (Ok n) → n ≤ length into
buffered_bound files name at most before into n (Some bytes) is gives =
    let held = gives.held bytes is in
    let count : n ≡ min most (min (length into) (length bytes - at)) = cc in
    grind (arith, count)
buffered_bound files name at most before into n None is gives = let lacked = gives.lacked is in cc

pub gives_bound : (files : Files) (name : List ℕ) (at most : ℕ) (before into : List ℕ) (result : Result ℕ ShelfFault) → ((IsErrOf result Failed → ⊥) → GivesOf files name at most before into result) → IfOk result (λ n. n ≤ length into)
gives_bound files name at most before into (Ok n) gives = buffered_bound files name at most before into n (bytes_of files name) refl (gives (λ is. cc))
gives_bound files name at most before into (Err fault) gives = tt

pub gives_bytes : (files : Files) (name : List ℕ) (at most : ℕ) (before into : List ℕ) (result : Result ℕ ShelfFault) → ((IsErrOf result Failed → ⊥) → GivesOf files name at most before into result) → (bytes : List ℕ) → bytes_of files name ≡ Some bytes → IfOk result (λ n. ReadsBytes bytes at n before into)
gives_bytes files name at most before into (Ok n) gives bytes is = (gives (λ failed. cc)).bytes bytes is
gives_bytes files name at most before into (Err fault) gives bytes is = tt

none_held : (files : Files) (name : List ℕ) (at most : ℕ) (before into : List ℕ) (result : Result ℕ ShelfFault) (found : Option (List ℕ)) → bytes_of files name ≡ found → GivesOf files name at most before into result → result ≡ Err NoFile → bytes_of files name ≡ None
none_held files name at most before into result (Some bytes) is gives missed = let held = gives.held bytes is in cc
none_held files name at most before into result None is gives missed = is

pub gives_missed : (files : Files) (name : List ℕ) (at most : ℕ) (before into : List ℕ) (result : Result ℕ ShelfFault) → ((IsErrOf result Failed → ⊥) → GivesOf files name at most before into result) → IsErrOf result NoFile → bytes_of files name ≡ None
gives_missed files name at most before into result gives missed = none_held files name at most before into result (bytes_of files name) refl (gives (λ failed. cc)) missed

pub gives_lacking : (files : Files) (name : List ℕ) (at most : ℕ) (before into : List ℕ) (result : Result ℕ ShelfFault) → ((IsErrOf result Failed → ⊥) → GivesOf files name at most before into result) → bytes_of files name ≡ None → IsErrOf result NoFile ⊎ IsErrOf result Failed
gives_lacking files name at most before into (Ok n) gives none = let lacked = (gives (λ failed. cc)).lacked none in cc
gives_lacking files name at most before into (Err NoFile) gives none = inl refl
gives_lacking files name at most before into (Err Failed) gives none = inr refl
