-- Relates the record `Grown` to the group whose growth it stores, and compares two growths.
use Rattle.std.specs.Prelude.{◌≡◌, ℕ, ◌*◌, ◌<◌, ◌≤◌, ◌^◌, List, length, sum, nat_lt, ◌==◌, ◌&&◌, ◌||◌}
use Rattle.std.specs.Prelude.{Bool}
use Rattle.kill_spec.specs.declared.reading.GroupReading.{GroupReading}
use Rattle.kill_spec.specs.Victims.{memory_in_use}
use Rattle.detectors.specs.Inner.{group_at}
use Rattle.victim_rank.specs.declared.growth.Grown.{Grown}

-- `grown` stores the growth of the group `seen` over its past sizes, which `sizes_had` returns.
pub record IsGrown (sizes_had : GroupReading → List ℕ) (grown : Grown) (seen : GroupReading)
    : Type 0 where
  pub current_is : grown.current ≡ memory_in_use seen
  pub sizes_is : grown.sizes ≡ memory_in_use seen * length (sizes_had seen)
  pub sum_is : grown.sum ≡ sum (sizes_had seen)
  pub sizes_fit : grown.sizes ≤ 2 ^ 62
  pub sum_fits : grown.sum ≤ 2 ^ 62

-- Whether the growth `next` beats the earlier growth `best`: `next` is greater, or both are equal
-- and the group of `next` uses more memory.
abbrev pub leads_grown : Grown → Grown → Bool
leads_grown next best =
    nat_lt (best.sizes * next.sum) (next.sizes * best.sum)
    || (next.sizes * best.sum == best.sizes * next.sum
    && nat_lt best.current next.current)

-- `grown` stores the growth of the group at index `grown.place`.
pub record IsGrownAt (sizes_had : GroupReading → List ℕ) (groups : List GroupReading)
    (grown : Grown) : Type 0 where
  pub within : grown.place < length groups
  pub grown_is : IsGrown sizes_had grown (group_at groups grown.place)
