-- The invariant of the simulated machine of the tests: an engine of ticks, and the two tables of
-- times that a test sets.
use Rattle.std.specs.Prelude.{◌≡◌, ℕ, ◌+◌, ◌<◌, ◌≤◌, List, length, slice_index}
use Rattle.pressure_spec.specs.Share.{irq_place}
use Rattle.psi_spec.specs.World.{longest_irq}
use Rattle.pressure_spec.specs.NextTick.{time_in, time_of}
use Rattle.aggregate.specs.Table.{HasSizes}
use Rattle.tick_engine.specs.Engine.{EngineView}
use Rattle.tick_engine.specs.Tables.{tick_at}

-- `GrewWithin most at before now`: the times of one group on one processor grew from `before` to
-- `now` between two ticks. `at` (ns) is the time of the second tick. The bounds are: no time
-- decreased, a state's time grew by at most `most` (ns), interrupt time grew by at most a second
-- more than `most`, and interrupt time is at most `at`.
pub record GrewWithin (most at : ℕ) (before now : List ℕ) : Type 0 where
  pub kept : (place : ℕ) → slice_index before place ≤ slice_index now place
  pub grown : (place : ℕ) → place < irq_place → slice_index now place ≤ slice_index before place + most
  pub irq_grown : slice_index now irq_place ≤ slice_index before irq_place + most + longest_irq
  pub irq_early : slice_index now irq_place ≤ at

-- The times of one group on each processor grew within the bounds of `GrewWithin`.
pub record RowGrewWithin (most at : ℕ) (before now : List (List ℕ)) : Type 0 where
  pub kept : (cpu place : ℕ) → time_of before cpu place ≤ time_of now cpu place
  pub grown : (cpu place : ℕ) → place < irq_place → time_of now cpu place ≤ time_of before cpu place + most
  pub irq_grown : (cpu : ℕ) → time_of now cpu irq_place ≤ time_of before cpu irq_place + most + longest_irq
  pub irq_early : (cpu : ℕ) → time_of now cpu irq_place ≤ at

-- The times of each group on each processor grew within the bounds of `GrewWithin`.
pub record TableGrewWithin (most at : ℕ) (before now : List (List (List ℕ))) : Type 0 where
  pub kept : (slot cpu place : ℕ) → time_in before slot cpu place ≤ time_in now slot cpu place
  pub grown : (slot cpu place : ℕ) → place < irq_place → time_in now slot cpu place ≤ time_in before slot cpu place + most
  pub irq_grown : (slot cpu : ℕ) → time_in now slot cpu irq_place ≤ time_in before slot cpu irq_place + most + longest_irq
  pub irq_early : (slot cpu : ℕ) → time_in now slot cpu irq_place ≤ at

-- The last tick of the engine was at `at` (ns), with the table `last`. The table `next` is for the
-- next tick. Both tables have one entry for each group and processor.
pub record IsMachine (cpus slots at : ℕ) (last next : List (List (List ℕ))) (engine : EngineView) : Type 0 where
  pub cpus_are : engine.cpus ≡ cpus
  pub slots_are : length engine.groups ≡ slots
  pub last_is : engine.last ≡ tick_at at last
  pub last_sizes : HasSizes cpus slots last
  pub next_sizes : HasSizes cpus slots next
