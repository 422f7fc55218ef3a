-- The inner sink of a buffered sink, from the buffered sink's content.
use Rattle.std.proofs.Common.{◌≡◌, ℕ, ◌+◌, ◌-◌, ◌≤◌, List, [], ◌++◌, length, take, sym, ap, ◌∙◌, arith, append-nil, length-append, length-take}
use Rattle.std.specs.Prelude.{Option, None, Some, Result, Ok, Err, OnOk}
use Rattle.std.specs.Io.KnownBytes.{Appends, Keeps, append_known}
use Rattle.std.proofs.lemmas.List.{take-take}
use Rattle.std.proofs.Math.Seq.{take-append_seam, take-append-add, take-length}
use Rattle.outside.specs.Outside.{AppendsPrefix, known_count}
use Rattle.outside.specs.Calls.{PutsAll}

-- if bytes grew by a prefix of a text, the first of them grew by a prefix of it too, as far as they
-- reach
prefix_below : (had below pending text : List ℕ) (n : ℕ) → length had ≤ length below → below ++ pending ≡ had ++ take n text → below ≡ had ++ take (length below - length had) text
prefix_below had below pending text n more same =
    let k = length below - length had in
    let reaches : length had + k ≡ length below = omega arith in
    let long : length below + length pending ≡ length had + length (take n text) = sym (length-append below pending) ∙ ap length same ∙ length-append had (take n text) in
    let short : k ≤ n = omega (arith, long, length-take n text) in
    let first : below ≡ take (length had + k) (had ++ take n text) = rw reaches (sym (take-append_seam below pending) ∙ ap (take (length below)) same) in
    first ∙ take-append-add had (take n text) k ∙ ap (λ xs. had ++ xs) (take-take k n text short)

-- a writer to a buffered sink failed: the inner sink has a prefix of its text
pub put_failed : (had below : Option (List ℕ)) (pending text : List ℕ) → AppendsPrefix (append_known had []) (append_known below pending) text → known_count had ≤ known_count below → AppendsPrefix had below text
put_failed None below pending text prefix more = tt
put_failed (Some had) None pending text prefix more = absurd prefix
put_failed (Some had) (Some below) pending text prefix more =
    let none : had ++ [] ≡ had = append-nil had in
    let grew : below ++ pending ≡ had ++ take (length (below ++ pending) - length had) text = rw none at prefix in
    prefix_below had below pending text _ more grew

-- everything that a writer put was forwarded
pub flushed : (had mid below : Option (List ℕ)) (pending left text : List ℕ) → Appends (append_known had []) (append_known mid pending) text → Keeps (append_known mid pending) (append_known below left) → left ≡ [] → Appends had below text
flushed None mid below pending left text put kept sent = tt
flushed (Some had) None below pending left text put kept sent = absurd put
flushed (Some had) (Some mid) None pending left text put kept sent = absurd kept
flushed (Some had) (Some mid) (Some below) pending left text put kept sent =
    sym (append-nil below) ∙ ap (λ xs. below ++ xs) (sym sent) ∙ kept ∙ put ∙ ap (λ xs. xs ++ text) (append-nil had)

-- a part of a writer's bytes wasn't forwarded: the inner sink has a prefix of them
pub flush_failed : (had mid below : Option (List ℕ)) (pending left text : List ℕ) → Appends (append_known had []) (append_known mid pending) text → Keeps (append_known mid pending) (append_known below left)
    → known_count had ≤ known_count below → AppendsPrefix had below text
flush_failed None mid below pending left text put kept more = tt
flush_failed (Some had) None below pending left text put kept more = absurd put
flush_failed (Some had) (Some mid) None pending left text put kept more = absurd kept
flush_failed (Some had) (Some mid) (Some below) pending left text put kept more =
    let grew : below ++ left ≡ had ++ take (length text) text = kept ∙ put ∙ ap (λ xs. xs ++ text) (append-nil had) ∙ ap (λ xs. had ++ xs) (sym (take-length text)) in
    prefix_below had below left text (length text) more grew

-- the inner sink after a writer that put everything, and a flush
pub puts_flushed : {T E : Type 0} → (had mid below : Option (List ℕ)) (pending left text : List ℕ) (result : Result T E) → Appends (append_known had []) (append_known mid pending) text
    → Keeps (append_known mid pending) (append_known below left) → OnOk result (left ≡ []) → known_count had ≤ known_count below → PutsAll had below result text
puts_flushed had mid below pending left text (Ok done) put kept sent more = flushed had mid below pending left text put kept sent
puts_flushed had mid below pending left text (Err failed) put kept sent more = flush_failed had mid below pending left text put kept more
