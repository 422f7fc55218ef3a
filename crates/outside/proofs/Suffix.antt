-- Reads into a part of a buffer.
use Rattle.std.proofs.Common.{◌≡◌, ℕ, ◌-◌, ◌≤◌, List, [], ◌++◌, length, take, drop, ap, ◌∙◌, length-drop, length-take, arith}
use Rattle.std.proofs.lemmas.List.{append-nil, drop_at}
use Rattle.std.proofs.lemmas.Slice.{between_to_end}
use borrow.Rule.Slice.PartMut.{put_mid, post_of}
use Rattle.std.proofs.Math.ListN.{drop_of_length-le}
use Rattle.std.specs.Prelude.{Result, Ok, Err, IfOk}
use Rattle.outside.specs.Outside.{ReadsBytes}

-- a read into the end of a buffer, after its held bytes
reads_after : (bytes : List ℕ) (at held n : ℕ) (buffer into : List ℕ) → held ≤ length buffer
    → ReadsBytes bytes at n (take (length buffer - held) (drop held buffer)) into → ReadsBytes bytes at n (drop held buffer) (drop held (put_mid held (length buffer - held) buffer into))
reads_after bytes at held n buffer into inside reads =
    let whole : take (length buffer - held) (drop held buffer) ≡ drop held buffer = between_to_end buffer held (length buffer) (omega arith) in
    let none : post_of held (length buffer - held) buffer ≡ [] = drop_of_length-le (drop held buffer) (omega (arith, length-drop held buffer)) in
    let read : drop held (put_mid held (length buffer - held) buffer into) ≡ into =
    drop_at (take held buffer) (into ++ post_of held (length buffer - held) buffer) held (omega (arith, length-take held buffer)) ∙ ap (λ xs. into ++ xs) none ∙ append-nil into in
    rw (read, ← whole) reads

pub answers_after : {E : Type 0} (bytes : List ℕ) (at held : ℕ) (buffer into : List ℕ) (result : Result ℕ E) → held ≤ length buffer
    → IfOk result (λ n. ReadsBytes bytes at n (take (length buffer - held) (drop held buffer)) into) → IfOk result (λ n. ReadsBytes bytes at n (drop held buffer) (drop held (put_mid held (length buffer - held) buffer into)))
answers_after bytes at held buffer into (Ok n) inside reads = reads_after bytes at held n buffer into inside reads
answers_after bytes at held buffer into (Err fault) inside reads = tt
