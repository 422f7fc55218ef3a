use Rattle.std.proofs.Common.{ap, sym, subst, ◌∙◌}
use Rattle.pressure_spec.specs.Ticks.{tick_moment}
use Rattle.outside.specs.Calls.{PutsAll}
use Rattle.replay_ticks.proofs.PutLaws.{order_made, reports_put, text_due}
use Rattle.replay_ticks.proofs.replay.put_due.Goals as goal

pub is_report-requires-clause-moment : goal.is_report-requires-clause-moment
is_report-requires-clause-moment g c = c.requires.2.at_is ∙ ap (λ length. tick_moment length c.args.tick) (sym c.requires.2.paced.length)

pub put_reports-requires-clause-made : goal.put_reports-requires-clause-made
put_reports-requires-clause-made g c = rw c.lives.ensures.lives (order_made c.args.plans.now.lives c.args.order.now c.requires.2.by_path)

pub returns-then-is_report-clause-bytes : goal.returns-then-is_report-clause-bytes
returns-then-is_report-clause-bytes g c = λ trace timing is.
    let reported = reports_put c.args.plans.now c.args.engine.now c.args.order.now c.args.run_timing trace timing c.args.tick c.args.at is c.lives.result.now c.lives.ensures.lives in
    let due = text_due c.args.run_timing trace timing c.args.tick is.paced (sym c.is_report.ensures ∙ c.if-is_report.true) in
    subst (PutsAll (g.K.Sink.has c.args.out.now) (g.K.Sink.has c.put_reports.new.out) c.put_reports.result) (reported ∙ sym due) c.put_reports.ensures.bytes
