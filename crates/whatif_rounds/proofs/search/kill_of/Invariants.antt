use Rattle.std.proofs.Common.{List, ◌-◌}
use Rattle.psi_spec.specs.Trace.{Trace}
use Rattle.ruleset_json.specs.declared.types.Rule.{Rule}
use Rattle.run_spec.specs.Replay.{Timing}
use Rattle.replay_ticks.specs.Replays.{IsReplay}
use Rattle.whatif_rounds.proofs.Counting.{HasSearched}
use Rattle.whatif_rounds.proofs.search.kill_of.Given as goal

abbrev pub invariant-ticks : goal.invariant-ticks
invariant-ticks g l = (trace : Trace) (timing : Timing) (rules : List Rule) → IsReplay l.fn.replay trace timing rules 0
    → HasSearched l.replay trace timing rules l.left l.fn.number

abbrev pub decreases-ticks : goal.decreases-ticks
decreases-ticks g l = l.replay.run_timing.last - l.replay.made
