-- Events that a trace may contain, in order.
use Rattle.std.proofs.Common.{List, [], ◌∷◌, ◌++◌}
use Rattle.psi_base.specs.declared.event.Event.{Event}
use Rattle.psi_spec.specs.Grammar.{Fits}
use Rattle.psi_spec.specs.Trace.{AllFit}

-- one event more
pub one_more : (events : List Event) (event : Event) → AllFit events → Fits event → AllFit (events ++ event ∷ [])
one_more [] event all fit = (fit, tt)
one_more (first ∷ events) event all fit = (all.0, one_more events event all.1 fit)
