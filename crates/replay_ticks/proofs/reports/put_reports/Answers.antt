use Rattle.std.proofs.Common.{ℕ, List, arith, subst, sym, ◌∙◌}
use Rattle.std.specs.Io.KnownBytes.{Appends}
use Rattle.outside.proofs.Grows.{Appends-then, AppendsPrefix-then, PutsAll-failed}
use Rattle.psi_spec.specs.Header.{version_of}
use Rattle.run_laws.specs.Reports.{slot_report, slot_reports}
use Rattle.tick_engine.specs.Engine.{averages_in, totals_in}
use Rattle.group_tree.specs.Tree.{numbers_of}
use Rattle.replay_ticks.proofs.ReportLaws.{numbers_at, numbers_more}
use Rattle.replay_ticks.proofs.reports.put_reports.Goals as goal

pub returns-in_err-put_report-clause-bytes : goal.returns-in_err-put_report-clause-bytes
returns-in_err-put_report-clause-bytes g c =
    let report : ℕ → List ℕ = slot_report (version_of c.args.version) c.args.at c.args.lives.now (totals_in c.args.engine.now) (averages_in c.args.engine.now) in
    PutsAll-failed (g.K.Sink.has c.args.out.now) (g.K.Sink.has c.put_report.new.out) c.from_residual.result (slot_reports (version_of c.args.version) c.args.at c.args.lives.now (totals_in c.args.engine.now) (averages_in c.args.engine.now) (numbers_of c.args.order.now)) c.from_residual.ensures.0
    (rw (numbers_at report c.args.order.now c.slots.slot-index (record { 0 = 0 }) (omega arith))
    (AppendsPrefix-then _ _ _ _ _ _ c.slots.invariant.sent c.in_err-put_report.ensures.bytes))

pub slots-preserved : goal.slots-preserved
slots-preserved g c =
    let report : ℕ → List ℕ = slot_report (version_of c.args.version) c.args.at c.args.lives.now (totals_in c.args.engine.now) (averages_in c.args.engine.now) in
    record {
      sent = subst (Appends (g.K.Sink.has c.args.out.now) (g.K.Sink.has c.put_report.new.out)) (sym (numbers_more report c.args.order.now c.slots.slot-index (record { 0 = 0 }) (omega arith)))
          (Appends-then _ _ _ _ _ c.slots.invariant.sent c.in_ok-put_report.ensures.bytes);
      cause = record {
        later = omega (arith, c.slots.invariant.cause.later, c.in_ok-put_report.ensures.cause.later);
        failed = tt;
        same = c.in_ok-put_report.ensures.cause.same ∙ c.slots.invariant.cause.same;
      };
      below = record {
        same = c.in_ok-put_report.ensures.below.same ∙ c.slots.invariant.below.same;
        more = omega (arith, c.slots.invariant.below.more, c.in_ok-put_report.ensures.below.more);
      };
    }
