use Rattle.std.proofs.Common.{◌≡◌, ◌<◌, ◌+◌, ◌∙◌, ap, arith, inl, inr, length, subst, sym, true, ⊎_elim}
use Rattle.std.specs.Prelude.{IfSome, Option}
use Rattle.psi_base.specs.declared.event.Slot.{Slot}
use Rattle.plan_laws.specs.Plan.{PlanView}
use Rattle.psi_spec.specs.LegalGroups.{AreOlder, leads_to}
use Rattle.psi_spec.specs.Stall.{number_of_slot}
use Rattle.clock_row.specs.Seats.{writer_on}
use Rattle.clock_row.specs.Turning.{IsDone}
use Rattle.clock_row.specs.declared.view.WriterView.{WriterView}
use Rattle.clock_row.proofs.Turns.{chain_up, done_stays, parent_below, stored_view, turned_twice, weaker}
use Rattle.clock_row.proofs.change.turn_chain.Goals as goal

pub up-preserved : goal.up-preserved
up-preserved c =
    let held = c.up.invariant in let before = c.up.seat in let after = c.turn_slot.new.seat in let turned = c.turn_slot.ensures.turned in
    let low : Slot = c.in-Some.slot in let parents = c.args.plan.now.parents in
    let view = stored_view before after turned.stored in
    let plan : (writer_on before).plan ≡ (writer_on after).plan = ap (λ (w : WriterView). w.plan) (sym view) in
    let count : (writer_on before).count ≡ (writer_on after).count = ap (λ (w : WriterView). w.count) (sym view) in
    let older : AreOlder parents = subst (λ (p : PlanView). AreOlder p.parents) (sym held.plan) held.turning.whole.older in
    let inside : low.0 < length parents = subst (λ (o : Option Slot). IfSome o (λ slot. slot.0 < length parents)) c.in-Some.is held.below in
    let own : c.own.new.self ≡ c.up.clocks = λ i. record { plan = c.own.ensures.plan i; made = c.own.ensures.made i } in
    record {
      turning = c.turn_slot.ensures.turning;
      turned = turned_twice c.args.seat.now before after held.turned turned;
      plan = held.plan ∙ plan;
      clocks = own ∙ (held.clocks ∙ (λ i. record { plan = plan i; made = count i + 1 }));
      kept = own ∙ held.kept;
      below = weaker c.parent-next.result low.0 (length parents) (parent_below parents low.0 c.parent-next.result older c.parent-next.ensures.parent) (omega (arith, inside));
      done = λ slot below leads. ⊎_elim
          (λ (was : IsDone before slot). inl (done_stays before after slot turned (subst (λ (p : PlanView). slot < length p.parents) held.plan below) was))
          (λ (on : leads_to parents (number_of_slot c.up.next) slot ≡ true). ⊎_elim
          (λ (here : low.0 ≡ slot). inl (subst (IsDone after) here c.turn_slot.ensures.done))
          (λ (above : leads_to parents (number_of_slot c.parent-next.result) slot ≡ true). inr above)
          (chain_up parents low c.parent-next.result slot older c.parent-next.ensures.parent (subst (λ (o : Option Slot). leads_to parents (number_of_slot o) slot ≡ true) c.in-Some.is on)))
          (held.done slot below leads);
    }
