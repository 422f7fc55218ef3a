use Rattle.std.proofs.Common.{◌≡◌, ◌+◌, ◌++◌, length, map}
use Rattle.std.specs.List.{All}
use Rattle.std.specs.Vec.Iter.{into_iter_items}
use Rattle.observer_log.specs.Board.{IsLast}
use Rattle.observer_log.specs.Journal.{joined}
use Rattle.observe_core.specs.Driving.{AreCounted, AreIn}
use Rattle.observe_core.specs.Observing.{ObserverView}
use Rattle.observe_core.proofs.end.end_all.Given as goal

abbrev pub invariant-observers : goal.invariant-observers
invariant-observers g l = record {
  driver : l.driver ≡ l.fn.driver;
  own : l.own.items ++ map (λ (observer : ObserverView). observer.watcher.own) (into_iter_items l.observer-iterator) ≡ map (λ (observer : ObserverView). observer.watcher.own) l.fn.observers.items;
  many : length l.states.items + length (into_iter_items l.observer-iterator) ≡ length l.fn.observers.items;
  last : All (IsLast l.fn.driver.states) l.states.items;
  board : All (λ (observer : ObserverView). observer.pass.board ≡ l.fn.board) (into_iter_items l.observer-iterator);
  backed : All (λ (observer : ObserverView). observer.parts ≡ 1) (into_iter_items l.observer-iterator);
  counted : AreCounted (into_iter_items l.observer-iterator);
  stood : AreIn l.fn.observers.items → AreIn (into_iter_items l.observer-iterator);
  amount : AreIn l.fn.observers.items → l.all.amount ≡ l.fn.all.amount + length (joined l.own.items);
  parts : l.all.parts + length (into_iter_items l.observer-iterator) ≡ l.fn.all.parts + length l.fn.observers.items;
}
