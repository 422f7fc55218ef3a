-- How reads fill a buffer with the part of a file from a place on.
use Rattle.std.proofs.Common.{◌≡◌, ℕ, ◌+◌, ◌-◌, ◌<◌, ◌≤◌, List, ◌++◌, length, take, drop, sym, ap, ◌∙◌, length-drop, length-take, arith}
use Rattle.std.proofs.Math.Seq.{take-add}
use Rattle.std.proofs.lemmas.List.{drop-drop, take_all}
use Rattle.outside.specs.Outside.{ReadsBytes}

-- bytes that were read after others
pub filled_grows : (whole before old new : List ℕ) (at filled n : ℕ) → take filled new ≡ take filled old → take filled old ≡ take filled (drop at whole)
    → ReadsBytes whole (at + filled) n before (drop filled new) → take (filled + n) new ≡ take (filled + n) (drop at whole)
filled_grows whole before old new at filled n kept prefix reads =
    take-add filled n new ∙ ap (λ xs. xs ++ take n (drop filled new)) (kept ∙ prefix)
    ∙ ap (λ xs. take filled (drop at whole) ++ xs) (reads.read ∙ ap (take n) (sym (drop-drop filled at whole))) ∙ sym (take-add filled n (drop at whole))

-- no more bytes were read, though there was room: the file ends there
pub filled_ends : (whole before new : List ℕ) (at filled n : ℕ) → ReadsBytes whole (at + filled) n before (drop filled new) → n ≡ 0 → filled < length new
    → take filled (drop at whole) ≡ take (length new) (drop at whole)
filled_ends whole before new at filled n reads none room =
    let ends : length whole ≤ at + filled = reads.end none (omega (arith, room, length-drop filled new)) in
    let few : length (drop at whole) ≤ filled = omega (arith, ends, length-drop at whole) in
    take_all filled (drop at whole) few ∙ sym (take_all (length new) (drop at whole) (omega (arith, few, room)))

-- the part was filled: the file has at least this many bytes there
pub filled_whole : (whole new : List ℕ) (at n size : ℕ) → length new ≡ size → n ≡ size → take n new ≡ take (length new) (drop at whole) → (new ≡ take size (drop at whole)) × (size ≤ length (drop at whole))
filled_whole whole new at n size sized full is =
    let all : take n new ≡ new = take_all n new (omega arith) in
    let same : new ≡ take size (drop at whole) = sym all ∙ is ∙ ap (λ k. take k (drop at whole)) sized in
    (same, omega (arith, sized, ap length same, length-take size (drop at whole)))

-- it wasn't: the file has fewer bytes there
pub filled_short : (whole new : List ℕ) (at n size : ℕ) → length new ≡ size → n < size → take n new ≡ take (length new) (drop at whole) → length (drop at whole) < size
filled_short whole new at n size sized short is =
    let counts : length (take n new) ≡ length (take (length new) (drop at whole)) = ap length is in
    omega (arith, counts, sized, short, length-take n new, length-take (length new) (drop at whole))
