use Rattle.std.proofs.Common.{◌≡◌, length}
use Rattle.observe_core.specs.Driving.{AreShown, IsObserved, Setting}
use Rattle.observe_core.proofs.ticks.all_ticks.Given as goal

abbrev pub invariant-passes : goal.invariant-passes
invariant-passes g l = record {
  board : l.driver.board ≡ l.fn.driver.board;
  many : length l.observers.items ≡ length l.fn.observers.items;
  observed : (set : Setting) → set.board ≡ l.fn.board → IsObserved set l.fn.replay l.fn.observers.items 0 → IsObserved set l.replay l.observers.items l.made;
  shown : (set : Setting) → set.board ≡ l.fn.board → IsObserved set l.fn.replay l.fn.observers.items 0 → AreShown set.trace set.timing l.made l.driver.states;
}
