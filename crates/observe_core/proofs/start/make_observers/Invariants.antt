use Rattle.std.proofs.Common.{◌≡◌, ◌+◌, ◌<◌, ℕ, length, get_or}
use Rattle.observe_core.specs.Observing.{ObserverView}
use Rattle.observe_core.specs.Driving.{IsNew, MayBegin, Setting}
use Rattle.observe_core.proofs.start.make_observers.Given as goal

abbrev pub invariant-observers : goal.invariant-observers
invariant-observers g l = record {
  same : l.replay ≡ l.fn.replay;
  driver : l.driver ≡ l.fn.driver;
  parts : l.all.parts + l.number ≡ l.fn.count;
  amount : l.all.amount ≡ 0;
  many : length l.observers.items ≡ l.number;
  new : (set : Setting) → MayBegin set l.fn.replay → set.board ≡ l.fn.board → (k : ℕ) (d : ObserverView) → k < l.number → IsNew set k (get_or l.observers.items k d);
}
