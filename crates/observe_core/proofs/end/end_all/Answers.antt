use Rattle.std.proofs.Common.{◌≡◌, ◌+◌, ◌++◌, ◌∷◌, [], List, suc, ap, arith, length, map, subst, sym, ◌∙◌}
use Rattle.std.specs.List.{All}
use Rattle.std.specs.Vec.Iter.{into_iter_items}
use Rattle.std.proofs.lemmas.List.{length-append}
use Rattle.observer_log.specs.declared.entry.Entry.{Entry}
use Rattle.observer_log.specs.Board.{DriverEnd, IsLast}
use Rattle.observer_log.specs.Journal.{joined}
use Rattle.observe_core.specs.Observing.{ObserverView}
use Rattle.observe_core.specs.Driving.{IsCounted, IsIn}
use Rattle.observe_core.proofs.EndLaws.{all_first, all_next, all_push, joined_next, own_next, own_of}
use Rattle.observe_core.proofs.end.end_all.Goals as goal

pub observers-preserved : goal.observers-preserved
observers-preserved g c =
    let i = c.observers.invariant in
    let before = into_iter_items c.observers.observer-iterator in
    let after = into_iter_items c.next.new.self in
    let first = c.in-Some.observer in
    let step : before ≡ first ∷ after = c.in-Some.ensures.steps.0 in
    let fewer : length before ≡ suc (length after) = ap length step in
    let states : length c.push-in-observers.new.self.items ≡ length c.observers.states.items + 1 = ap length c.in_ok-push-2.ensures.items ∙ length-append c.observers.states.items (c.in_ok-list.state ∷ []) in
    let part = all_first (λ (observer : ObserverView). observer.parts ≡ 1) first before after step i.backed in
    let last : IsLast c.args.driver.now.states c.in_ok-list.state = subst (λ (driver : DriverEnd). IsLast driver.states c.in_ok-list.state) i.driver c.in_ok-list.ensures.last in
    record {
      driver = c.in_ok-list.ensures.driver ∙ i.driver;
      own = subst (λ (lists : List (List Entry)). lists ++ map own_of after ≡ map own_of c.args.observers.items) (sym c.in_ok-push.ensures.items)
          (own_next c.observers.own.items c.in_ok-list.list first before after (map own_of c.args.observers.items) step c.in_ok-list.ensures.own i.own);
      many = omega (arith, i.many, states, fewer);
      last = subst (All (IsLast c.args.driver.now.states)) (sym c.in_ok-push-2.ensures.items) (all_push (IsLast c.args.driver.now.states) c.observers.states.items c.in_ok-list.state i.last last);
      board = all_next (λ (observer : ObserverView). observer.pass.board ≡ c.args.board.now) first before after step i.board;
      backed = all_next (λ (observer : ObserverView). observer.parts ≡ 1) first before after step i.backed;
      counted = all_next IsCounted first before after step i.counted;
      stood = λ all. all_next IsIn first before after step (i.stood all);
      amount = λ all.
          let here : first.amount ≡ length first.watcher.own = all_first IsCounted first before after step i.counted (all_first IsIn first before after step (i.stood all)) in
          let list : length c.in_ok-list.list ≡ length first.watcher.own = ap length c.in_ok-list.ensures.own in
          let more = ap (λ (lists : List (List Entry)). length (joined lists)) c.in_ok-push.ensures.items ∙ joined_next c.observers.own.items c.in_ok-list.list in
          omega (arith, i.amount all, c.in_ok-list.ensures.amount, here, list, more);
      parts = omega (arith, i.parts, c.in_ok-list.ensures.parts, part, fewer);
    }
