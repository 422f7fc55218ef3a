use Rattle.psi_spec.specs.Trace.{AllFit}
use Rattle.world_tests.proofs.events.events_of.Given as goal

-- the events so far
abbrev pub invariant-lines : goal.invariant-lines
invariant-lines l = AllFit l.events.items
