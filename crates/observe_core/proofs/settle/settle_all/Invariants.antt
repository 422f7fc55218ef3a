use Rattle.std.proofs.Common.{◌≡◌, ◌≤◌, ◌<◌, ℕ, length, get_or}
use Rattle.observe_core.specs.Observing.{ObserverView}
use Rattle.observe_core.specs.Driving.{IsSettled, made_by}
use Rattle.observe_core.proofs.settle.settle_all.Given as goal

abbrev pub invariant-observers : goal.invariant-observers
invariant-observers g l = record {
  same : l.replay ≡ l.fn.replay;
  many : length l.observers ≡ length l.fn.observers;
  settled : (k : ℕ) (d : ObserverView) → k < l.observer-index → IsSettled (made_by l.fn.replay.crew) (get_or l.fn.observers k d) (get_or l.observers k d);
  left : (k : ℕ) (d : ObserverView) → l.observer-index ≤ k → get_or l.observers k d ≡ get_or l.fn.observers k d;
}
