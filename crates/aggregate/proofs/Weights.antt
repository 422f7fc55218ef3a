-- Proves that times multiplied by their weights fit in 64 bits, and that a processor with weight 0
-- adds nothing.
use Rattle.std.proofs.Common.{◌≡◌, ◌<◌, ◌≤◌, ◌+◌, ◌*◌, ◌/◌, ℕ, List, [], length, get_or, take, arith, subst, sym, ap, ◌∙◌, ◌⊎◌, ⊎_elim}
use Rattle.std.specs.Prelude.{map, max, sum_by}
use Rattle.std.proofs.lemmas.List.{take_all}
use Rattle.std.proofs.lemmas.List.Sums.{sum_by_more}
use Rattle.psi_spec.specs.Within.{longest_tick}
use Rattle.pressure_spec.specs.Share.{irq_place, irq_quantity, pressure_places, shares, total_weight, weight}
use Rattle.pressure_spec.specs.Within.{AreTimesWithin}
use Rattle.psi_spec.specs.World.{longest_irq}
use Rattle.pressure_spec.proofs.ShareLaws.{shares_all, state_place}

-- A time (ns) multiplied by its weight is small enough for the sum over 64 processors to fit in 64
-- bits. The interrupt time may be a second longer than the interval.
pub fits : (time weight : ℕ) → time ≤ 61000000000 → weight ≤ 60000 → time * weight ≤ 3660000000000000
fits time weight short light = grind arith

-- A processor's time for a quantity is within the limit of times.
pub short_at : (times : List ℕ) (k : ℕ) → AreTimesWithin longest_tick (longest_tick + longest_irq) times → k < 7 → get_or times (get_or pressure_places k 0) 0 ≤ 61000000000
short_at times k within below =
    let state : (place : ℕ) → place < irq_place → get_or times place 0 ≤ 61000000000 = λ place inside. let most = within.states place inside in omega (arith, most) in
    let is_state : k < irq_quantity → get_or times (get_or pressure_places k 0) 0 ≤ 61000000000 = λ inside. rw (state_place k inside) (state k (omega arith)) in
    let is_irq : k ≡ irq_quantity → get_or times (get_or pressure_places k 0) 0 ≤ 61000000000 = λ is. rw is (let most = within.irq in omega (arith, most)) in
    let case : (k < irq_quantity) ⊎ (k ≡ irq_quantity) = grind arith in
    ⊎_elim is_state is_irq case

-- A processor's weight is at most 60,000.
pub light : (times : List ℕ) → AreTimesWithin longest_tick (longest_tick + longest_irq) times → weight times ≤ 60000
light times within = let idle = within.states 6 (omega arith) in omega (arith, idle)

-- `sums` and `weights` are the sums over the first `count` rows: each time multiplied by its row's
-- weight, and the weights.
pub record AreSummed (rows : List (List ℕ)) (count : ℕ) (sums : List ℕ) (weights : ℕ) : Type 0 where
  pub sums_are : (k : ℕ) → k < 7 → get_or sums k 0 ≡ sum_by (λ times. get_or times (get_or pressure_places k 0) 0 * weight times) (take count rows)
  pub sums_fit : (k : ℕ) → k < 7 → get_or sums k 0 ≤ count * 3660000000000000
  pub weights_are : weights ≡ sum_by weight (take count rows)
  pub weights_fit : weights ≤ count * 60000

-- Adding the row at index `count` to the sums of the first `count` rows gives the sums of the first
-- `count + 1` rows.
pub summed_more : (rows : List (List ℕ)) (count : ℕ) (sums new : List ℕ) (weights : ℕ) → count < length rows → AreTimesWithin longest_tick (longest_tick + longest_irq) (get_or rows count []) → AreSummed rows count sums weights
    → ((k : ℕ) → k < 7 → get_or new k 0 ≡ get_or sums k 0 + get_or (get_or rows count []) (get_or pressure_places k 0) 0 * weight (get_or rows count [])) → AreSummed rows (count + 1) new (weights + weight (get_or rows count []))
summed_more rows count sums new weights here within so added =
    let row = get_or rows count [] in
    let few = light row within in
    record {
      sums_are = λ k below. added k below ∙ ap (λ n. n + get_or row (get_or pressure_places k 0) 0 * weight row) (so.sums_are k below) ∙ sym (sum_by_more (λ (times : List ℕ). get_or times (get_or pressure_places k 0) 0 * weight times) rows count [] here);
      sums_fit = λ k below.
          let sum = added k below in
          let more = fits (get_or row (get_or pressure_places k 0) 0) (weight row) (short_at row k within below) few in
          omega (arith, sum, more, so.sums_fit k below);
      weights_are = ap (λ n. n + weight row) so.weights_are ∙ sym (sum_by_more weight rows count [] here);
      weights_fit = omega (arith, few, so.weights_fit);
    }

-- A row with weight 0 doesn't change the sums.
pub weightless : (rows : List (List ℕ)) (count : ℕ) (sums : List ℕ) (weights : ℕ) → count < length rows → AreTimesWithin longest_tick (longest_tick + longest_irq) (get_or rows count []) → AreSummed rows count sums weights
    → weight (get_or rows count []) ≡ 0 → AreSummed rows (count + 1) sums weights
weightless rows count sums weights here within so none =
    let none_more : weights + weight (get_or rows count []) ≡ weights = omega (arith, none) in
    let nothing : (time : ℕ) → time * weight (get_or rows count []) ≡ 0 = λ time. rw none (omega arith) in
    subst (λ n. AreSummed rows (count + 1) sums n) none_more (summed_more rows count sums sums weights here within so (λ k below. let zero_more = nothing (get_or (get_or rows count []) (get_or pressure_places k 0) 0) in omega (arith, zero_more)))

-- The sums of all rows, divided by the sum of their weights, are the shares.
pub divided : (rows : List (List ℕ)) (count : ℕ) (sums : List ℕ) (weights divisor : ℕ) (new : List ℕ) → length rows ≤ count → length sums ≡ 7 → AreSummed rows count sums weights → divisor ≡ max weights 1 → new ≡ map (λ sum. sum / divisor) sums → new ≡ shares rows
divided rows count sums weights divisor new past seven so is_divisor is =
    let all = take_all count rows past in
    let by : divisor ≡ max (total_weight rows) 1 = is_divisor ∙ ap (λ n. max n 1) (rw all at so.weights_are) in
    is ∙ shares_all rows sums divisor seven by (λ k below. rw all at so.sums_are k below)
