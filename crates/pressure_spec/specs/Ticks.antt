-- Defines the ticks, which are the times at which pressure is sampled, and the tables of stall
-- times at the ticks of a trace. All groups are sampled at each tick. The kernel, by contrast,
-- samples each group with a timer of its own.
use Rattle.std.specs.Prelude.{ℕ, ◌+◌, ◌++◌, ◌-◌, ◌*◌, ◌/◌, List, [], ◌∷◌, length, map, replicate, nat_lt, ◌==◌, ◌&&◌, ◌||◌, Bool}
use Rattle.std.specs.List.{range_with_len}
use Rattle.psi_base.specs.declared.event.Event.{Event}
use Rattle.psi_base.specs.declared.event.State.{State}
use Rattle.psi_spec.specs.World.{after, up_to}
use Rattle.psi_spec.specs.Stall.{irq_time, stall, states}

-- ---- the times of ticks

-- `tick_moment length i`: the time (ns) of tick number `i` (from 1), for ticks of `length` ns. For
-- i = 0 the time is 0.
abbrev pub tick_moment : ℕ → ℕ → ℕ
tick_moment length i = i * length

-- `ticks_until length end`: the number of ticks up to and including the time `end` (ns), for ticks
-- of `length` ns.
abbrev pub ticks_until : ℕ → ℕ → ℕ
ticks_until length end = end / length

-- `is_due period length i`: whether a multiple of `period` (ns) is due at tick number `i`, for
-- ticks of `length` ns. The multiple is after tick `i - 1`, and at or before tick `i`.
abbrev pub is_due : ℕ → ℕ → ℕ → Bool
is_due period length i = nat_lt (tick_moment length (i - 1) / period) (tick_moment length i / period)

-- `is_evaluation interval length i`: whether the rules are evaluated at tick number `i`, for ticks
-- of `length` ns: a multiple of `interval` (ns) is due at this tick.
abbrev pub is_evaluation : ℕ → ℕ → ℕ → Bool
is_evaluation interval length i = is_due interval length i

-- `is_report period length last i`: whether tick number `i` is reported, for ticks of `length` ns:
-- it is tick number `last`, or a multiple of the report period `period` (ns) is due. With a period
-- of 0, only tick number `last` is reported.
abbrev pub is_report : ℕ → ℕ → ℕ → ℕ → Bool
is_report period length last i = i == last || (nat_lt 0 period && is_due period length i)

-- ---- tables of times

-- A tick: its time (ns), and a table of the times (ns) of all groups up to the tick. The table is
-- indexed by slot, processor and place; the places are the seven states and interrupt time.
pub record Tick : Type 0 where
  pub at : ℕ
  pub table : List (List (List ℕ))

-- `times_with in_state irq`: the list of the times (ns) of a group on a processor. It has the time
-- in each state, in the order of the states' numbers, and then the interrupt time `irq`.
abbrev pub times_with : (State → ℕ) → ℕ → List ℕ
times_with in_state irq = map in_state states ++ irq ∷ []

-- The times (ns) of the group in slot `slot` on processor `cpu` up to time `at` (ns).
abbrev pub times_until : ℕ → ℕ → List Event → ℕ → List ℕ
times_until cpu slot events at =
    times_with (λ state. stall state cpu slot (up_to events at) at) (irq_time cpu slot (up_to events at))

-- The times (ns) of the group in slot `slot` on each of `cpus` processors up to time `at` (ns).
abbrev pub row_until : ℕ → ℕ → List Event → ℕ → List (List ℕ)
row_until cpus slot events at = map (λ cpu. times_until cpu slot events at) (range_with_len 0 cpus)

-- The times (ns) up to time `at` (ns) of all groups of a trace, including groups that are created
-- after `at`.
abbrev pub table_until : ℕ → List Event → ℕ → List (List (List ℕ))
table_until cpus events at = map (λ slot. row_until cpus slot events at) (range_with_len 0 (length (after events).groups))

-- `tick_of cpus events length i`: tick number `i` (from 1) of a trace on `cpus` processors, for
-- ticks of `length` ns.
abbrev pub tick_of : ℕ → List Event → ℕ → ℕ → Tick
tick_of cpus events length i = record { at = tick_moment length i; table = table_until cpus events (tick_moment length i) }

-- `ticks_of cpus events length count`: the first `count` ticks of a trace on `cpus` processors, for
-- ticks of `length` ns.
unfoldable pub ticks_of : ℕ → List Event → ℕ → ℕ → List Tick
ticks_of cpus events length count = map (tick_of cpus events length) (range_with_len 1 count)

-- ---- the times before the first tick

-- The times of a group before the first tick, on each of `cpus` processors: all are 0.
abbrev pub no_row : ℕ → List (List ℕ)
no_row cpus = replicate cpus (times_with (λ state. 0) 0)
