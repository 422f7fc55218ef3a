-- Proofs about one more tick.
use Rattle.std.proofs.Common.{◌≡◌, ℕ, zero, suc, ◌+◌, [], ◌∷◌, ◌++◌, length, map, refl, ap, ◌∙◌, arith}
use Rattle.std.specs.Prelude.{sum_by}
use Rattle.std.specs.List.{flat_map, range_with_len}
use Rattle.std.proofs.lemmas.List.Sums.{sum_by-append}
use Rattle.std.proofs.lemmas.List.{append-nil, map-append}
use Rattle.std.proofs.lemmas.Grind.{flat_map-append}
use Rattle.pressure_spec.specs.Ticks.{tick_of, ticks_of}
use Rattle.run_spec.specs.Replay.{fired_in, kills_in, tick_text}
use Rattle.run_laws.specs.Ticking.{KillsMore, SignalsMore, TextMore, TicksMore}

-- a range splits into two ranges
pub range_parts : (a m k : ℕ) → range_with_len a (m + k) ≡ range_with_len a m ++ range_with_len (a + m) k
range_parts a zero k =
    let same : a + 0 ≡ a = omega arith in
    let none : 0 + k ≡ k = omega arith in
    rw (same, none) refl
range_parts a (suc m) k =
    let next : a + suc m ≡ a + 1 + m = omega arith in
    let more : suc m + k ≡ suc (m + k) = omega arith in
    rw (next, more) (ap (λ ns. a ∷ ns) (range_parts (a + 1) m k))

-- a range with one more number
pub range_more : (a n : ℕ) → range_with_len a (n + 1) ≡ range_with_len a n ++ (a + n) ∷ []
range_more a n = range_parts a n 1

pub numbered_more : {X : Type 0} → (f : ℕ → X) (n : ℕ) → map f (range_with_len 1 (n + 1)) ≡ map f (range_with_len 1 n) ++ f (n + 1) ∷ []
numbered_more f n =
    let next : 1 + n ≡ n + 1 = omega arith in
    ap (map f) (range_more 1 n) ∙ map-append f (range_with_len 1 n) ((1 + n) ∷ []) ∙ ap (λ k. map f (range_with_len 1 n) ++ f k ∷ []) next

pub ticks_more : TicksMore
unfolding ticks_of
ticks_more cpus events length i = numbered_more (tick_of cpus events length) i

-- a sum over numbers from 1, with one more number
counted_more : (count : ℕ → ℕ) (i : ℕ) → sum_by count (range_with_len 1 (i + 1)) ≡ sum_by count (range_with_len 1 i) + count (i + 1)
counted_more count i =
    let next : 1 + i ≡ i + 1 = omega arith in
    let alone : sum_by count ((i + 1) ∷ []) ≡ count (i + 1) = omega arith in
    let one : sum_by count ((1 + i) ∷ []) ≡ count (i + 1) = ap (λ k. sum_by count (k ∷ [])) next ∙ alone in
    let split = sum_by-append count (range_with_len 1 i) ((1 + i) ∷ []) in
    ap (sum_by count) (range_more 1 i) ∙ omega (arith, split, one)

pub signals_more : SignalsMore
signals_more trace timing i = counted_more (λ k. length (fired_in trace timing k)) i

pub kills_more : KillsMore
kills_more trace timing rules i = counted_more (λ k. length (kills_in trace timing rules k)) i

pub text_more : TextMore
text_more trace timing beside i =
    let next : 1 + i ≡ i + 1 = omega arith in
    ap (flat_map (tick_text trace timing beside)) (range_more 1 i)
    ∙ flat_map-append (tick_text trace timing beside) (range_with_len 1 i) ((1 + i) ∷ [])
    ∙ ap (λ k. flat_map (tick_text trace timing beside) (range_with_len 1 i) ++ (tick_text trace timing beside k ++ [])) next
    ∙ ap (λ text. flat_map (tick_text trace timing beside) (range_with_len 1 i) ++ text) (append-nil (tick_text trace timing beside (i + 1)))
