-- The two preconditions that all contracts about a replay share: the plans represent an accepted
-- trace, and the engine has taken some of its ticks.
use Rattle.std.specs.Prelude.{ℕ, ◌<◌, ◌≤◌}
use Rattle.psi_spec.specs.Collected.{triggers_of}
use Rattle.psi_spec.specs.Trace.{IsAccepted, IsCpuCount, Trace, limits_of}
use Rattle.psi_spec.specs.Within.{longest_tick}
use Rattle.pressure_spec.specs.Ticks.{ticks_of}
use Rattle.run_spec.specs.Replay.{Timing, lives_of}
use Rattle.proc_plan.specs.Plans.{PlansView, Represent}
use Rattle.tick_engine.specs.Engine.{EngineView, Represents}

-- `plans` represents an accepted trace, and the trace may be replayed with `timing`.
pub record IsPlanned (plans : PlansView) (trace : Trace) (timing : Timing) : Type 0 where
  pub counted : IsCpuCount trace.cpus
  pub represents : Represent plans trace.cpus trace.events
  pub accepted : IsAccepted (limits_of timing.length trace.cpus) trace.events
  pub some : 0 < timing.length
  pub short : timing.length ≤ longest_tick
  pub due : 0 < timing.interval

-- The engine, which computes pressure, is in the state after the first `i` ticks of the trace.
abbrev pub HasTicked : EngineView → Trace → Timing → ℕ → Type 0
HasTicked engine trace timing i =
    Represents engine trace.cpus (lives_of trace) (triggers_of trace.events)
    (ticks_of trace.cpus trace.events timing.length i)
