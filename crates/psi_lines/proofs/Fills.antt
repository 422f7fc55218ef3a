-- Proofs that reads preserve the remaining bytes of the file.
use Rattle.std.proofs.Common.{◌≡◌, ℕ, ◌+◌, ◌-◌, ◌<◌, ◌≤◌, List, [], ◌∷◌, ◌++◌, length, take, drop, refl, sym, ap, ◌∙◌, append_assoc, length-drop, arith}
use Rattle.std.proofs.lemmas.Grind.{common_steps}
use Rattle.std.specs.Prelude.{slice_index}
use Rattle.psi_lines.specs.Lines.{BeginsWithLine, HasNoNewline}
use Rattle.std.proofs.lemmas.List.{take-append-drop, drop-drop, drop-take, take-take}
use Rattle.std.proofs.Math.ListN.{drop_of_length-le}
use Rattle.std.proofs.Math.Seq.{take-add}
use Rattle.outside.specs.Outside.{ReadsBytes}
use Rattle.psi_lines.specs.Next.{FillsBytes}

-- Bytes that were read at an offset, followed by the bytes after them, are the bytes from that
-- offset.
read_on : (old chunk bytes : List ℕ) (at n : ℕ) → take n chunk ≡ take n (drop at bytes) → (old ++ take n chunk) ++ drop (at + n) bytes ≡ old ++ drop at bytes
read_on old chunk bytes at n same =
    append_assoc old (take n chunk) (drop (at + n) bytes) ∙ ap (λ xs. old ++ xs) (ap (λ xs. xs ++ drop (at + n) bytes) same ∙ ap (λ xs. take n (drop at bytes) ++ xs) (sym (drop-drop n at bytes)) ∙ take-append-drop n (drop at bytes))

-- A read into a buffer appends the bytes that it returned to the buffered bytes.
pub fills : (bytes : List ℕ) (at buffered n : ℕ) (old new before buffer : List ℕ) → new ≡ take (buffered + n) buffer → take buffered buffer ≡ old → buffered < length buffer
    → ReadsBytes bytes at n before (drop buffered buffer) → FillsBytes bytes at old new n
fills bytes at buffered n old new before buffer grew prefix room reads =
    let same : new ≡ old ++ take n (drop buffered buffer) = grew ∙ take-add buffered n buffer ∙ ap (λ xs. xs ++ take n (drop buffered buffer)) prefix in
    record {
      left = rw same (read_on old (drop buffered buffer) bytes at n reads.read);
      end = λ none. drop_of_length-le bytes (reads.end none (omega (arith, length-drop buffered buffer)));
    }

-- The first `count` buffered bytes are a slice of the buffer.
pub takes : (buffer : List ℕ) (start end count : ℕ) → start + count ≤ end → take (start + count - start) (drop start buffer) ≡ take count (take (end - start) (drop start buffer))
takes buffer start end count inside =
    let same : start + count - start ≡ count = omega arith in
    rw same (sym (take-take count (end - start) (drop start buffer) (omega arith)))

-- The buffered bytes after the first `count` bytes are a slice of the buffer.
pub skips : (buffer : List ℕ) (start end count : ℕ) → start + count ≤ end → take (end - (start + count)) (drop (start + count) buffer) ≡ drop count (take (end - start) (drop start buffer))
skips buffer start end count inside =
    let more : end - start ≡ count + (end - (start + count)) = omega arith in
    rw more (rw drop-take (rw drop-drop refl))

-- If bytes are buffered, bytes remain.
pub some_left : (buffered rest : List ℕ) → 0 < length buffered → buffered ++ rest ≡ [] → ⊥
some_left [] rest some none = absurd (omega arith)
some_left (byte ∷ buffered) rest some none = cc

-- A line at the start of the buffered bytes is the first of the remaining lines.
pub line_begins : (buffered rest whole line after : List ℕ) (count : ℕ) → count < length buffered → count ≤ 512 → slice_index buffered count ≡ 10 → HasNoNewline buffered count → buffered ++ rest ≡ whole
    → line ≡ take count buffered → after ≡ drop (count + 1) buffered → BeginsWithLine whole line (after ++ rest)
line_begins buffered rest whole line after count inside short newline none same is goes =
    let long : length line ≡ count = rw is (grind (arith, common_steps, inside)) in
    let split : buffered ≡ take count buffered ++ 10 ∷ drop (count + 1) buffered = grind (arith, common_steps, newline, inside) in
    record {
      whole = sym same ∙ ap (λ xs. xs ++ rest) split ∙ append_assoc (take count buffered) (10 ∷ drop (count + 1) buffered) rest ∙ ap (λ xs. xs ++ 10 ∷ (drop (count + 1) buffered ++ rest)) (sym is) ∙ ap (λ xs. line ++ 10 ∷ (xs ++ rest)) (sym goes);
      short = omega (arith, long, short);
      one = λ k less. rw is (let below : k < count = omega (arith, less, long) in let other = none k below in grind (arith, common_steps, other, below));
    }
