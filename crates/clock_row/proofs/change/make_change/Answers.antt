use Rattle.std.proofs.Common.{◌≡◌, ℕ, List, ◌+◌, ◌-◌, ◌∙◌, ap, arith, subst, sym}
use Rattle.plan_laws.specs.Plan.{PlanView}
use Rattle.clock_row.specs.Words.{AreClockWords}
use Rattle.clock_row.specs.Seats.{as_writer, writer_on}
use Rattle.clock_row.specs.declared.view.WriterView.{WriterView}
use Rattle.clock_row.proofs.Turns.{change_done, starts_below, turned_from, turning_begins}
use Rattle.clock_row.proofs.change.make_change.Goals as goal

pub turn_chains-requires-clause-turning : goal.turn_chains-requires-clause-turning
turn_chains-requires-clause-turning c = turning_begins _ c.args.seat.now c.open_change.new.seat c.args.plan.now c.args.clocks.now c.requires.writer c.requires.next c.open_change.ensures.seat c.open_change.ensures.view

pub turn_chains-requires-clause-starts : goal.turn_chains-requires-clause-starts
turn_chains-requires-clause-starts c =
    let place : c.count-count.result + 1 - 1 ≡ c.args.clocks.now.made = omega (arith, c.count-count.ensures) in
    starts_below c.args.plan.now c.args.clocks.now.made c.concerned-starts.result c.requires.writer.whole c.requires.next (rw place at c.concerned-starts.ensures.slots)

pub close_change-requires-clause-clocks : goal.close_change-requires-clause-clocks
close_change-requires-clause-clocks c =
    let after = c.turn_chains.new.seat in let k : ℕ = c.count-count.result in let e = c.turn_chains.ensures in
    let place : k + 1 - 1 ≡ k = omega arith in
    let from = turned_from _ c.args.seat.now c.open_change.new.seat after c.args.plan.now c.args.clocks.now k c.requires.writer c.count-count.ensures c.open_change.ensures.view e.turned in
    subst (λ (p : PlanView). AreClockWords p (k + 1) (writer_on after).body) from.0
    (change_done _ c.args.seat.now c.open_change.new.seat after c.args.plan.now c.args.clocks.now k c.concerned-starts.result c.requires.writer c.count-count.ensures c.open_change.ensures.view e.turned e.turning (rw place at c.concerned-starts.ensures.aside) e.done)

pub returns-clause-words : goal.returns-clause-words
returns-clause-words c =
    let after = c.turn_chains.new.seat in let k : ℕ = c.count-count.result in let e = c.turn_chains.ensures in
    let place : k + 1 - 1 ≡ k = omega arith in
    let body : (writer_on after).body ≡ (writer_on c.close_change.new.seat).body = sym (ap (λ (w : WriterView). w.body) (ap as_writer c.close_change.ensures.view)) in
    let count : k ≡ (writer_on c.args.seat.now).count = c.count-count.ensures ∙ c.requires.writer.clocks_made in
    subst (λ (z : ℕ × List ℕ). AreClockWords c.args.plan.now (z.0 + 1) z.1) (λ i. (count i, body i))
    (change_done _ c.args.seat.now c.open_change.new.seat after c.args.plan.now c.args.clocks.now k c.concerned-starts.result c.requires.writer c.count-count.ensures c.open_change.ensures.view e.turned e.turning (rw place at c.concerned-starts.ensures.aside) e.done)
