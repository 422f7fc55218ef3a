-- Proofs about the table of the counts that four bits represent.
use Rattle.std.proofs.Common.{◌≡◌, ℕ, zero, suc, ◌+◌, ◌*◌, ◌<◌, List, [], ◌∷◌, refl, sym, ap, ◌∙◌, arith, Bool, true, false, ◌==◌, ◌⊎◌, ⊎_elim}
use Rattle.std.specs.Prelude.{◌&&◌, slice_index_or}
use Rattle.std.proofs.lemmas.Bool.Decides.{nat_tests}
use Rattle.psi_counts.specs.declared.changes.Counts.{Counts}
use Rattle.slot_clocks.specs.Bits.{counts_by}

-- The four counts of a table from an index on.
abbrev row_at : List ℕ → ℕ → Counts
row_at table place = record { io = slice_index_or table place 0; stalled = slice_index_or table (place + 1) 0; running = slice_index_or table (place + 2) 0; stalled_running = slice_index_or table (place + 3) 0 }

abbrev is_same_row : Counts → Counts → Bool
is_same_row one other = (one.io == other.io) && ((one.stalled == other.stalled) && ((one.running == other.running) && (one.stalled_running == other.stalled_running)))

-- Whether the first rows of a table are the counts that their indexes represent.
unfoldable pub are_rows : List ℕ → ℕ → Bool
are_rows table zero = true
are_rows table (suc bits) = is_same_row (row_at table (4 * bits)) (counts_by bits) && are_rows table bits

-- The table of counts as the code contains it.
abbrev pub counts_table : List ℕ
counts_table =
    0 ∷ 0 ∷ 0 ∷ 0 ∷ 1 ∷ 0 ∷ 0 ∷ 0 ∷ 0 ∷ 1 ∷ 0 ∷ 0 ∷ 1 ∷ 1 ∷ 0 ∷ 0 ∷ 0 ∷ 0 ∷ 1 ∷ 0 ∷ 1 ∷ 0 ∷ 1 ∷ 0 ∷ 0 ∷ 1 ∷ 1 ∷ 0 ∷ 1 ∷ 1 ∷ 1 ∷ 0
    ∷ 0 ∷ 0 ∷ 0 ∷ 1 ∷ 1 ∷ 0 ∷ 0 ∷ 1 ∷ 0 ∷ 1 ∷ 0 ∷ 1 ∷ 1 ∷ 1 ∷ 0 ∷ 1 ∷ 0 ∷ 0 ∷ 1 ∷ 1 ∷ 1 ∷ 0 ∷ 1 ∷ 1 ∷ 0 ∷ 1 ∷ 1 ∷ 1 ∷ 1 ∷ 1 ∷ 1 ∷ 1 ∷ []

first : (one other : Bool) → (one && other) ≡ true → one ≡ true
first true other is = refl
first false other is = is

second : (one other : Bool) → (one && other) ≡ true → other ≡ true
second true other is = is
second false true is = refl
second false false is = is

same_number : (one other : ℕ) → (one == other) ≡ true → one ≡ other
same_number one other is = grind (arith, nat_tests, is)

same_row : (one other : Counts) → is_same_row one other ≡ true → one ≡ other
same_row one other is =
    let more = second (one.io == other.io) _ is in
    let last = second (one.stalled == other.stalled) _ more in
    let io = same_number one.io other.io (first (one.io == other.io) _ is) in
    let stalled = same_number one.stalled other.stalled (first (one.stalled == other.stalled) _ more) in
    let running = same_number one.running other.running (first (one.running == other.running) _ last) in
    let both = same_number one.stalled_running other.stalled_running (second (one.running == other.running) _ last) in
    rw (io, stalled, running, both) refl

either : (bits most : ℕ) → bits < suc most → (bits ≡ most) ⊎ (bits < most)
either bits most below = grind (arith, below)

pub row_is : (table : List ℕ) (most bits : ℕ) → are_rows table most ≡ true → bits < most → row_at table (4 * bits) ≡ counts_by bits
unfolding are_rows
row_is table zero bits are below = absurd (omega (arith, below))
row_is table (suc most) bits are below =
    ⊎_elim
    (λ same. ap (λ n. row_at table (4 * n)) same ∙ same_row (row_at table (4 * most)) (counts_by most) (first (is_same_row (row_at table (4 * most)) (counts_by most)) (are_rows table most) are) ∙ ap counts_by (sym same))
    (λ less. row_is table most bits (second (is_same_row (row_at table (4 * most)) (counts_by most)) (are_rows table most) are) less)
    (either bits most below)
