use Rattle.std.proofs.Common.{◌≡◌, ◌+◌, ◌<◌, ℕ, List, arith, rules, subst, sym, ◌∙◌}
use Rattle.std.specs.Prelude.{slice_index_or}
use Rattle.replay_ticks.specs.Replays.{ReplayView}
use Rattle.observe_core.specs.Observing.{ObserverView}
use Rattle.observe_core.specs.Driving.{IsNew, MayBegin}
use Rattle.observe_core.proofs.ReadyLaws.{each_pushed}
use Rattle.observe_core.proofs.start.make_observers.Goals as goal

pub observers-preserved : goal.observers-preserved
observers-preserved g c =
    let i = c.observers.invariant in
    record {
      same = c.in_ok-observer_of.ensures.same ∙ i.same;
      driver = c.in_ok-pass.ensures.same ∙ i.driver;
      parts = omega (arith, c.split_off-share.ensures.parts_left, i.parts);
      amount = omega (arith, c.split_off-share.ensures.amount_left, i.amount);
      many = search rules;
      new = λ set begins board.
          let begins_here = subst (MayBegin set) (sym i.same) begins in
          let last : IsNew set c.observers.number c.in_ok-observer_of.field-0 = c.in_ok-observer_of.ensures.new set begins_here (board ∙ sym c.in_ok-pass.ensures.board) in
          subst (λ (items : List ObserverView). (k : ℕ) (d : ObserverView) → k < c.observers.number + 1 → IsNew set k (slice_index_or items k d)) (sym c.in_ok-push.ensures.items)
          (each_pushed (IsNew set) c.observers.observers.items c.in_ok-observer_of.field-0 c.observers.number i.many (i.new set begins board) last);
    }
