-- Proofs about the numbers of remaining lines and of lines that were read.
use Rattle.std.proofs.Common.{◌≡◌, ℕ, ◌+◌, ◌≤◌, List, [], ◌∷◌, ◌++◌, length, take, drop, refl, ap, ◌∙◌, cond, true, false, ◌==◌, arith}
use Rattle.std.specs.Prelude.{Option, Result, Ok, Err, None, Some, if◌then◌else◌}
use Rattle.std.proofs.lemmas.List.{take-append-drop, take-take}
use Rattle.psi_base.specs.Path.{onto_first, parts_at}
use Rattle.psi_base.proofs.PartLaws.{HasFirst, first_part, parts_at-all, parts_at-line}
use Rattle.psi_lines.specs.Lines.{BeginsWithLine, HasNoNewline, Reader, left, line_count}
use Rattle.psi_lines.specs.Next.{NextOf, number_after}
use Rattle.psi_lines.specs.declared.lines.Line.{Line}
use Rattle.psi_lines.specs.declared.lines.LineFault.{LineFault}
use Rattle.psi_lines.specs.declared.lines.LineFault.TheVariants.{TooLong, Cut, NoFile, ReadFault, NoMemory}

-- One more byte in the first part doesn't change the number of parts.
onto-length : (byte : ℕ) (parts : List (List ℕ)) → HasFirst parts → length (onto_first byte parts) ≡ length parts
onto-length byte parts has = rw has.2 refl

-- One more byte adds a line exactly if it is a newline.
count-cons : (byte : ℕ) (bytes : List ℕ) → line_count (byte ∷ bytes) ≡ cond (byte == 10) 1 0 + line_count bytes
unfolding parts_at
count-cons byte bytes =
    elim (byte == 10) as (λ b. length (if b then [] ∷ parts_at 10 bytes else onto_first byte (parts_at 10 bytes)) ≡ cond b 1 0 + length (parts_at 10 bytes)) [
      | true ↦ omega arith
      | false ↦ let same = onto-length byte (parts_at 10 bytes) (first_part 10 bytes) in omega (arith, same)
    ]

-- Two lists of bytes, joined, have one line less than both together, because the line at the seam
-- is one line.
pub count-append : (xs ys : List ℕ) → line_count (xs ++ ys) + 1 ≡ line_count xs + line_count ys
unfolding parts_at
count-append [] ys = omega arith
count-append (byte ∷ xs) ys =
    let whole = count-cons byte (xs ++ ys) in
    let prefix = count-cons byte xs in
    let rest = count-append xs ys in
    omega (arith, whole, prefix, rest)

-- There is at least one line.
count-some : (bytes : List ℕ) → 1 ≤ line_count bytes
count-some bytes = let has = first_part 10 bytes in rw has.2 (omega arith)

-- A shorter prefix doesn't have more lines.
pub count-prefix : (bytes : List ℕ) (n m : ℕ) → n ≤ m → line_count (take n bytes) ≤ line_count (take m bytes)
count-prefix bytes n m few =
    let same = ap line_count (take-take n m bytes few) in
    let seam = count-append (take n (take m bytes)) (drop n (take m bytes)) in
    let whole = ap line_count (take-append-drop n (take m bytes)) in
    let some = count-some (drop n (take m bytes)) in
    omega (arith, same, seam, whole, some)

-- Bytes without a newline are a single line.
pub count-none : (bytes : List ℕ) → HasNoNewline bytes (length bytes) → line_count bytes ≡ 1
count-none bytes none = ap length (parts_at-all 10 bytes none)

-- After a line is returned, one line less remains.
pub count-line : (bytes line after : List ℕ) → BeginsWithLine bytes line after → line_count bytes ≡ 1 + line_count after
count-line bytes line after begins =
    let same : line_count bytes ≡ length (line ∷ parts_at 10 after) = ap line_count begins.whole ∙ ap length (parts_at-line 10 line after begins.one) in
    omega (arith, same)

-- Reading a line doesn't change the sum of the next line's number and the number of remaining
-- lines.
pub lines_stay : (bytes : List ℕ) (old new : Reader) (result : Result (Option Line) LineFault) → NextOf bytes old new result → new.number ≡ number_after old.number result → new.number + line_count (left new bytes) ≡ old.number + line_count (left old bytes)
lines_stay bytes old new (Ok (Some line)) next number = let one = count-line (left old bytes) line.bytes (left new bytes) next.0 in omega (arith, one, number)
lines_stay bytes old new (Ok None) next number = rw (number, next.0, next.1) refl
lines_stay bytes old new (Err (TooLong n)) next number = rw (number, next.2) refl
lines_stay bytes old new (Err (Cut n)) next number = rw (number, next.2) refl
lines_stay bytes old new (Err NoFile) next number = rw (number, next) refl
lines_stay bytes old new (Err ReadFault) next number = rw (number, next.0) refl
lines_stay bytes old new (Err (NoMemory none)) next number = rw (number, next) refl

-- If no complete line is buffered, the line with the reader's number is the last line in the bytes
-- that were read.
pub lines_read : (bytes : List ℕ) (reader : Reader) → reader.number + line_count (left reader bytes) ≡ 1 + line_count bytes → HasNoNewline reader.buffered (length reader.buffered) → line_count (take reader.at bytes) ≡ reader.number
lines_read bytes reader stay none =
    let seam = count-append reader.buffered (drop reader.at bytes) in
    let one = count-none reader.buffered none in
    let cut = count-append (take reader.at bytes) (drop reader.at bytes) in
    let whole = ap line_count (take-append-drop reader.at bytes) in
    omega (arith, stay, seam, one, cut, whole)
