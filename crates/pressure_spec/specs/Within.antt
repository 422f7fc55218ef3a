-- Upper bounds of times, shares, totals and averages.
use Rattle.std.specs.Prelude.{ℕ, ◌<◌, ◌≤◌, List, sum_by, slice_index, ◌≡◌, ◌+◌, length, All}
use Rattle.pressure_spec.specs.Share.{pressure_places}
use Rattle.pressure_spec.specs.Share.{irq_place, irq_quantity}
use Rattle.pressure_spec.specs.Average.{period, AverageState}

-- The sum of the times at index `place` over all processors.
abbrev pub time_sum : List (List ℕ) → ℕ → ℕ
time_sum rows place = sum_by (λ times. slice_index times place) rows

-- An upper bound of an interrupt total (ns): 64 processors times the latest time of a trace,
-- rounded up.
abbrev pub most_irq_total : ℕ
most_irq_total = 4000000000000000000

-- The times (ns) of a group on a processor are at most `most` for each state, and at most
-- `most_irq` for interrupts.
pub record AreTimesWithin (most most_irq : ℕ) (times : List ℕ) : Type 0 where
  pub states : (place : ℕ) → place < irq_place → slice_index times place ≤ most
  pub irq : slice_index times irq_place ≤ most_irq

-- The shares or totals (ns) of a group are at most `most` for each state, and at most `most_irq`
-- for interrupts.
pub record AreAmountsWithin (most most_irq : ℕ) (amounts : List ℕ) : Type 0 where
  pub states : (quantity : ℕ) → quantity < irq_quantity → slice_index amounts quantity ≤ most
  pub irq : slice_index amounts irq_quantity ≤ most_irq

-- ---- the range of averages

-- The row contains the three averages of one quantity. Each is at most 100 percent, which is
-- 204,800 in fixed point (2,048 is one percent).
pub record IsRow (row : List ℕ) : Type 0 where
  pub three : length row ≡ 3
  pub most : All (λ average. average ≤ 204800) row

-- The invariant of a group's averages: the next update is due after the last update and at most a
-- period after it; each pressure quantity has a sampled part and three averages; and no average is
-- above 100 percent.
pub record IsAverageState (s : AverageState) : Type 0 where
  pub later : s.last < s.next
  pub soon : s.next ≤ s.last + period
  pub sampled : length s.sampled ≡ length pressure_places
  pub rows : length s.averages ≡ length pressure_places
  pub each : All (λ row. IsRow row) s.averages
