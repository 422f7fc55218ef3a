use Rattle.std.proofs.Common.{◌≡◌, ◌<◌, ℕ, false, get_or}
use Rattle.observe_core.specs.Observing.{ObserverView}
use Rattle.observe_core.proofs.ticks.failure.Given as goal

abbrev pub invariant-observers : goal.invariant-observers
invariant-observers g l = (k : ℕ) (d : ObserverView) → k < l.observer-index → (get_or l.fn.observers k d).failed ≡ false
