-- Defines which tick may follow another: how much the times in the states may grow from one tick to
-- the next.
use Rattle.std.specs.Prelude.{ℕ, ◌+◌, ◌-◌, ◌<◌, ◌≤◌, List, [], ◌∷◌, replicate, slice_index, slice_index_or}
use Rattle.psi_spec.specs.World.{longest_irq}
use Rattle.psi_spec.specs.Within.{last_moment, longest_tick}
use Rattle.pressure_spec.specs.Share.{irq_place}
use Rattle.pressure_spec.specs.Ticks.{Tick, no_row}

-- The state before the first tick, for `slots` groups and `cpus` processors. The time of the tick
-- and all times of the groups are 0.
abbrev pub no_tick : ℕ → ℕ → Tick
no_tick cpus slots = record { at = 0; table = replicate slots (no_row cpus) }

-- The last tick of a list, or `before` if the list is empty.
abbrev pub last_tick : Tick → List Tick → Tick
last_tick before [] = before
last_tick before (tick ∷ ticks) = last_tick tick ticks

-- The time (ns) at index `place` on processor `cpu` in `row`, which contains a group's times on
-- each processor. The time is 0 if the row has no such entry.
abbrev pub time_of : List (List ℕ) → ℕ → ℕ → ℕ
time_of row cpu place = slice_index (slice_index_or row cpu []) place

-- The time (ns) at index `place` on processor `cpu` of the group in slot `slot`, or 0 if the table
-- has no such entry.
abbrev pub time_in : List (List (List ℕ)) → ℕ → ℕ → ℕ → ℕ
time_in table slot cpu place = time_of (slice_index_or table slot []) cpu place

-- `IsNextTick last tick` holds if `tick` may follow `last`. It is later, by at most the longest
-- tick, and not after the latest time of a trace. No time of a group has decreased. A time in a
-- state has grown by at most the time between the ticks. An interrupt time may have grown by a
-- second more, because a trace reports interrupts after they happened, but it is at most the time
-- of the tick.
pub record IsNextTick (last tick : Tick) : Type 0 where
  pub later : last.at < tick.at
  pub soon : tick.at ≤ last.at + longest_tick
  pub early : tick.at ≤ last_moment
  pub kept : (slot cpu place : ℕ) → time_in last.table slot cpu place ≤ time_in tick.table slot cpu place
  pub grown : (slot cpu place : ℕ) → place < irq_place
      → time_in tick.table slot cpu place ≤ time_in last.table slot cpu place + (tick.at - last.at)
  pub irq_grown : (slot cpu : ℕ) → time_in tick.table slot cpu irq_place
      ≤ time_in last.table slot cpu irq_place + (tick.at - last.at) + longest_irq
  pub irq_early : (slot cpu : ℕ) → time_in tick.table slot cpu irq_place ≤ tick.at

-- Each tick may follow the tick before it (`IsNextTick`). The first tick follows `before`.
abbrev pub AreNextTicks : Tick → List Tick → Type 0
AreNextTicks before [] = Unit {0}
AreNextTicks before (tick ∷ ticks) = IsNextTick before tick × AreNextTicks tick ticks
