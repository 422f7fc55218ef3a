use Rattle.std.proofs.Common.{◌≡◌, ◌+◌, ◌<◌, ap, arith, rules, subst, sym, ◌∙◌}
use Rattle.run_spec.specs.Replay.{signals_until, tick_count}
use Rattle.observe_core.specs.Observing.{ObserverView}
use Rattle.observe_core.specs.Driving.{AreShown, AreWhole, HaveObserved}
use Rattle.observe_core.proofs.TickLaws.{shown_first, shown_next}
use Rattle.observe_core.proofs.ticks.all_ticks.Goals as goal

pub passes-init : goal.passes-init
passes-init g c = record {
  board = search rules;
  many = search rules;
  observed = λ set board is. is;
  shown = λ set board is. shown_first set.trace set.timing c.args.driver.now.states c.requires.first;
}

pub tick-next-requires-after_bounds : goal.tick-next-requires-after_bounds
tick-next-requires-after_bounds g c κs within =
    let begin = c.requires.begin in
    let set = begin.0 in
    let last = c.ticks-last.ensures set.trace set.timing _ 0 begin.2.reached.replayed in
    (set, c.passes.made, begin.1, c.passes.invariant.observed set begin.1 begin.2, omega (arith, c.passes-test.true, last))

pub passes-preserved : goal.passes-preserved
passes-preserved g c =
    let i = c.passes.invariant in
    let whole : AreWhole c.tick-next.result.1.items = subst AreWhole c.deref.ensures.value (c.failure.ensures c.in_default.is) in
    record {
      board = c.publish.ensures.board ∙ i.board;
      many = c.tick-next.ensures.many ∙ i.many;
      observed = λ set board is.
          let last = c.ticks-last.ensures set.trace set.timing _ 0 is.reached.replayed in
          c.tick-next.ensures.observed set c.passes.made board (i.observed set board is) (omega (arith, c.passes-test.true, last)) whole;
      shown = λ set board is.
          let last = c.ticks-last.ensures set.trace set.timing _ 0 is.reached.replayed in
          let now = c.tick-next.ensures.observed set c.passes.made board (i.observed set board is) (omega (arith, c.passes-test.true, last)) whole in
          shown_next set.trace set.timing c.passes.made (c.passes.made + 1) c.signals.result c.passes.driver.states c.publish.new.pass.states (i.shown set board is) (search rules)
          (c.signals.ensures ∙ now.reached.replayed.signals) c.publish.ensures.shown;
    }

pub returns-clause-observed : goal.returns-clause-observed
returns-clause-observed g c = λ set board is.
    let last = c.ticks-last.ensures set.trace set.timing _ 0 is.reached.replayed in
    let end : c.passes.made ≡ tick_count set.trace set.timing = omega (arith, c.passes-test.false, c.passes.auto.made-end, last) in
    subst (λ n. HaveObserved set n c.passes.observers.items) end (c.passes.invariant.observed set board is).observed

pub returns-clause-shown : goal.returns-clause-shown
returns-clause-shown g c = λ set board is.
    let last = c.ticks-last.ensures set.trace set.timing _ 0 is.reached.replayed in
    let end : c.passes.made ≡ tick_count set.trace set.timing = omega (arith, c.passes-test.false, c.passes.auto.made-end, last) in
    subst (λ n. AreShown set.trace set.timing n c.passes.driver.states) end (c.passes.invariant.shown set board is)
