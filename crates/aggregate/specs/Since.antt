-- Defines the increase of a group's times on each processor during an interval.
use Rattle.std.specs.Prelude.{ℕ, ◌-◌, ◌≤◌, List}
use Rattle.pressure_spec.specs.Share.{zip_with}
use Rattle.pressure_spec.specs.NextTick.{time_of}

-- The increase of each time (ns) of a group on a processor from `before` to `now`.
abbrev pub growth : List ℕ → List ℕ → List ℕ
growth now before = zip_with (λ time earlier. time - earlier) now before

-- On each processor, each time (ns) of the group stayed the same or increased.
abbrev pub NoneFell : List (List ℕ) → List (List ℕ) → Type 0
NoneFell before now = (cpu place : ℕ) → time_of before cpu place ≤ time_of now cpu place
