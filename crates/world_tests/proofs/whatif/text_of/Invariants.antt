use Rattle.std.proofs.Common.{length, ◌-◌}
use Rattle.psi_spec.specs.Trace.{AllFit}
use Rattle.world_tests.proofs.whatif.text_of.Given as goal

-- the events fit
abbrev pub invariant-events : goal.invariant-events
invariant-events g l = AllFit l.events

abbrev pub decreases-events : goal.decreases-events
decreases-events g l = length l.events - l.at
