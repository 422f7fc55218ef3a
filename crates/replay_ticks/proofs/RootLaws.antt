-- Proves properties of the pressure files of the root.
use Rattle.std.proofs.Common.{ℕ, ◌<◌, ◌^◌, ap, arith}
use Rattle.psi_spec.specs.Trace.{Trace}
use Rattle.pressure_spec.specs.Ticks.{tick_moment}
use Rattle.run_spec.specs.Replay.{Timing}
use Rattle.proc_plan.specs.Plans.{PlansView}
use Rattle.tick_engine.specs.Engine.{EngineView}
use Rattle.replay_ticks.specs.declared.run_timing.RunTiming.{RunTiming}
use Rattle.replay_ticks.specs.Replays.{IsToPutRoot}
use Rattle.replay_ticks.proofs.AheadLaws.{moment_early}

-- The time of the tick fits in 64 bits.
pub root_fits : (plans : PlansView) (engine : EngineView) (run_timing : RunTiming) (trace : Trace) (timing : Timing) (number : ℕ) → IsToPutRoot plans engine run_timing trace timing number → tick_moment run_timing.length number < 2 ^ 64
root_fits plans engine run_timing trace timing number is =
    let early = moment_early plans trace timing number is.planned is.within in
    let same = ap (λ l. tick_moment l number) is.paced.length in
    omega (arith, early, same)
