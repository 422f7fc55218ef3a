-- Lemmas about reading a prefix of a file with several reads.
use Rattle.std.proofs.Common.{◌≡◌, ℕ, ◌+◌, ◌<◌, ◌≤◌, List, ◌++◌, length, take, drop, sym, ap, ◌∙◌, length-drop, arith}
use Rattle.std.proofs.Math.Seq.{take-add}
use Rattle.std.proofs.lemmas.List.{take_all}
use Rattle.outside.specs.Outside.{ReadsBytes}

-- Bytes read after a prefix of the file extend the prefix.
pub prefix_grows : (whole before old new : List ℕ) (buffered n : ℕ) → take buffered new ≡ take buffered old → take buffered old ≡ take buffered whole
    → ReadsBytes whole buffered n before (drop buffered new) → take (buffered + n) new ≡ take (buffered + n) whole
prefix_grows whole before old new buffered n kept prefix reads =
    take-add buffered n new ∙ ap (λ xs. xs ++ take n (drop buffered new)) (kept ∙ prefix) ∙ ap (λ xs. take buffered whole ++ xs) reads.read ∙ sym (take-add buffered n whole)

-- A prefix is the whole file if a further read with room in the buffer returns nothing.
pub prefix_ends : (whole before new : List ℕ) (buffered n : ℕ) → ReadsBytes whole buffered n before (drop buffered new) → n ≡ 0 → buffered < length new
    → take buffered whole ≡ take (length new) whole
prefix_ends whole before new buffered n reads none room =
    let ends : length whole ≤ buffered = reads.end none (omega (arith, room, length-drop buffered new)) in
    take_all buffered whole ends ∙ sym (take_all (length new) whole (omega (arith, ends, room)))

-- After a read, the buffer has at most as many bytes as the file.
pub buffered_within : (whole before into : List ℕ) (buffered n : ℕ) → buffered ≤ length whole → ReadsBytes whole buffered n before into → buffered + n ≤ length whole
buffered_within whole before into buffered n inside reads = omega (arith, inside, reads.inside)
