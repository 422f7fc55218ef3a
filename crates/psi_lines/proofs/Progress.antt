-- Proofs about the progress of reading a file.
use Rattle.std.proofs.Common.{◌≡◌, ◌≤◌, ℕ, zero, suc, ◌+◌, List, length, take, sym, ap, ◌∙◌, subst, arith}
use Rattle.std.proofs.lemmas.Grind.{common_steps}
use Rattle.std.proofs.lemmas.List.{take-take}
use Rattle.std.specs.Prelude.{Err, IsErr, None, Ok, Option, Result}
use Rattle.std.specs.Result.{IsErrAnd}
use Rattle.outside.specs.Reads.{Progress, ReadCall, ReadsFrom}
use Rattle.outside.specs.Reads.Progress.{Next, Over}
use Rattle.outside.proofs.ReadOrder.{reads_then}
use Rattle.psi_lines.specs.Next.{ReadsOn, progress_by_fault, progress_by_line, progress_by_read}
use Rattle.psi_lines.specs.declared.lines.LineFault.{LineFault}

-- If reads without a fault are followed by a read with a fault, the reads of the file end with this
-- fault.
pub fault_at : {T : Type 0} → (name : List ℕ) (from : Progress) (at : ℕ) (before between now : List ReadCall) (fault : LineFault) (result : Result (Option T) LineFault) → ReadsFrom name from before between (Next at)
    → ReadsFrom name (Next at) between now (progress_by_read at (Err fault)) → IsErr result → IsErrAnd result (λ e. e ≡ fault) → ReadsFrom name from before now (progress_by_line at result)
fault_at name from at before between now fault (Ok value) first then failed same = cc
fault_at name from at before between now fault (Err found) first then failed same =
    let is : found ≡ fault = same in
    subst (λ f. ReadsFrom name from before now (progress_by_fault at f)) (sym is) (reads_then name from (Next at) (progress_by_fault at fault) before between now first then)

-- If reads without a fault are followed by a read that returns no byte, the reads of the file end
-- without a fault.
pub ends_at : (name : List ℕ) (from : Progress) (at : ℕ) (before between now : List ReadCall) (n : ℕ) → ReadsFrom name from before between (Next at)
    → ReadsFrom name (Next at) between now (progress_by_read at (Ok n)) → n ≡ 0 → ReadsFrom name from before now (Over None)
ends_at name from at before between now zero first then none = reads_then name from (Next at) (Over None) before between now first then
ends_at name from at before between now (suc n) first then none = absurd (omega (arith, none))

-- One more read extends the buffered bytes and advances the offset by the number of bytes read.
pub reads_on : (buffered : List ℕ) (at : ℕ) (between : List ℕ) (at_between : ℕ) (now : List ℕ) (at_now n : ℕ) → ReadsOn buffered at between at_between → take (length between) now ≡ between → length now ≡ length between + n
    → at_now ≡ at_between + n → ReadsOn buffered at now at_now
reads_on buffered at between at_between now at_now n on prefix count moved =
    let longer : length buffered ≤ length between = grind (arith, common_steps, ap length on.prefix) in
    record {
      prefix = sym (take-take (length buffered) (length between) now longer) ∙ ap (take (length buffered)) prefix ∙ on.prefix;
      place = omega (arith, on.place, count, moved);
    }
