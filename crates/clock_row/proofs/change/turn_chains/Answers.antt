use Rattle.std.proofs.Common.{rules, ◌≡◌, ℕ, ◌+◌, ◌∙◌, ap, arith, length, subst, sym}
use Rattle.std.specs.Prelude.{None, slice_index_or}
use mathlib.Core.Logic.{dite}
use native.Mathlib.Decide.{ℕ_discrete}
use Rattle.std.proofs.lemmas.List.Elements.{All-from_get_or}
use Rattle.clock_row.specs.Seats.{writer_on}
use Rattle.clock_row.specs.Turning.{ChainIsDone}
use Rattle.clock_row.specs.declared.view.WriterView.{WriterView}
use Rattle.clock_row.proofs.Turns.{chain_stays, stored_view, turned_twice}
use Rattle.clock_row.proofs.change.turn_chains.Goals as goal

pub chains-preserved : goal.chains-preserved
chains-preserved c =
    let held = c.chains.invariant in let before = c.chains.seat in let after = c.turn_chain.new.seat in let turned = c.turn_chain.ensures.turned in
    let view = stored_view before after turned.stored in
    let plan : (writer_on before).plan ≡ (writer_on after).plan = ap (λ (w : WriterView). w.plan) (sym view) in
    let count : (writer_on before).count ≡ (writer_on after).count = ap (λ (w : WriterView). w.count) (sym view) in
    record {
      turning = c.turn_chain.ensures.turning;
      turned = turned_twice c.args.seat.now before after held.turned turned;
      plan = held.plan ∙ plan;
      clocks = c.turn_chain.ensures.clocks ∙ (held.clocks ∙ (λ i. record { plan = plan i; made = count i + 1 }));
      kept = c.turn_chain.ensures.clocks ∙ held.kept;
      done = λ i below. dite (ℕ_discrete i c.chains.start-index)
          (λ here. subst (λ (z : ℕ). ChainIsDone after (slice_index_or c.args.starts z None)) (sym here) c.turn_chain.ensures.done)
          (λ other. chain_stays before after (slice_index_or c.args.starts i None) turned (held.done i (omega (arith, below, other))));
    }

pub returns-clause-done : goal.returns-clause-done
returns-clause-done c = All-from_get_or (ChainIsDone c.chains.seat) c.args.starts None (λ i inside. let four : length c.args.starts ≡ 4 = search rules in c.chains.invariant.done i (omega (arith, inside, four)))
