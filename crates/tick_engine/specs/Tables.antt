-- Defines a tick as the engine reads it: a time (ns), and a table with the times of all groups on
-- all processors up to it.
use Rattle.std.specs.Prelude.{ℕ, List}
use Rattle.pressure_spec.specs.Ticks.{Tick}

-- `tick_at at table`: the tick at time `at` (ns) with this table of times (ns).
abbrev pub tick_at : ℕ → List (List (List ℕ)) → Tick
tick_at at table = record { at = at; table = table }
