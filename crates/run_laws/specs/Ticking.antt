-- States laws about the next tick of a replay: what it adds to the list of ticks, to the output,
-- and to the numbers of signals of triggers and of kills.
use Rattle.std.specs.Prelude.{◌≡◌, ℕ, ◌+◌, ◌<◌, ◌≤◌, List, [], ◌∷◌, ◌++◌, length}
use Rattle.psi_base.specs.declared.event.Event.{Event}
use Rattle.psi_spec.specs.Refusal.{AreLegal}
use Rattle.psi_spec.specs.Trace.{Trace}
use Rattle.psi_spec.specs.Within.{last_moment, longest_tick}
use Rattle.psi_spec.specs.World.{Limits, after, first_world, most_cpus}
use Rattle.pressure_spec.specs.Ticks.{Tick, tick_moment, tick_of, ticks_of}
use Rattle.pressure_spec.specs.NextTick.{IsNextTick, last_tick, no_tick}
use Rattle.run_spec.specs.Replay.{Beside, Timing, fired_in, kills_in, kills_until, signals_until, tick_text, ticks_text}
use Rattle.ruleset_json.specs.declared.types.Rule.{Rule}

-- `before_ticks cpus events`: the state before the first tick, for `cpus` processors and all groups
-- that the events create.
abbrev pub before_ticks : ℕ → List Event → Tick
before_ticks cpus events = no_tick cpus (length (after events).groups)

-- For legal events, each tick is a valid successor of the previous tick. The law requires at most
-- `most_cpus` processors, because the scheduler state has the time of the last `irq` line only for
-- that number of processors.
abbrev pub TicksFollow : Type 0
TicksFollow =
    (limits : Limits) (cpus : ℕ) (events : List Event) (length i : ℕ) → AreLegal limits first_world events → limits.cpus ≤ most_cpus →
    0 < length → length ≤ longest_tick → tick_moment length (i + 1) ≤ last_moment →
    IsNextTick (last_tick (before_ticks cpus events) (ticks_of cpus events length i)) (tick_of cpus events length (i + 1))

-- The list of the first i + 1 ticks is the list of the first `i` ticks, followed by tick i + 1.
abbrev pub TicksMore : Type 0
TicksMore = (cpus : ℕ) (events : List Event) (length i : ℕ) →
    ticks_of cpus events length (i + 1) ≡ ticks_of cpus events length i ++ tick_of cpus events length (i + 1) ∷ []

-- The number of trigger signals at the first i + 1 ticks is the number at the first `i` ticks plus
-- the number at tick i + 1.
abbrev pub SignalsMore : Type 0
SignalsMore = (trace : Trace) (timing : Timing) (i : ℕ) →
    signals_until trace timing (i + 1) ≡ signals_until trace timing i + length (fired_in trace timing (i + 1))

-- The number of kills at the first i + 1 ticks is the number at the first `i` ticks plus the number
-- at tick i + 1.
abbrev pub KillsMore : Type 0
KillsMore = (trace : Trace) (timing : Timing) (rules : List Rule) (i : ℕ) →
    kills_until trace timing rules (i + 1) ≡ kills_until trace timing rules i + length (kills_in trace timing rules (i + 1))

-- The output of tick i + 1 is appended to the output of the first `i` ticks.
abbrev pub TextMore : Type 0
TextMore = (trace : Trace) (timing : Timing) (beside : Beside) (i : ℕ) →
    ticks_text trace timing beside (i + 1) ≡ ticks_text trace timing beside i ++ tick_text trace timing beside (i + 1)
