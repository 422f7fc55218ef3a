use Rattle.std.proofs.Common.{List, ℕ, ◌++◌, ◌==◌, subst, sym}
use Rattle.outside.specs.Outside.{AppendsPrefix}
use Rattle.outside.specs.Calls.{PutsAll}
use Rattle.outside.proofs.Grows.{PutsAll-failed}
use Rattle.psi_base.specs.declared.event.Res.{Res}
use Rattle.psi_base.specs.declared.event.Res.TheVariants.{Io, Memory, Cpu}
use Rattle.run_spec.specs.Lines.{report_text}
use Rattle.run_spec.specs.Replay.{resource_files}
use Rattle.replay_ticks.proofs.Pieces.{prefix_of_both, prefix_then, puts_then}
use Rattle.replay_ticks.proofs.ReportLaws.{by_resource}
use Rattle.replay_ticks.proofs.reports.put_resources.Goals as goal

pub returns-in_err-write_report-clause-bytes : goal.returns-in_err-write_report-clause-bytes
returns-in_err-write_report-clause-bytes g c =
    let file : Res → List ℕ = λ res. report_text c.args.at c.args.path.now res (c.args.slot.0 == 0) c.args.totals c.args.averages.now.averages in
    let prefix = prefix_of_both (g.K.Sink.has c.args.out.now) (g.K.Sink.has c.write_report.new.out) (file Io) (file Memory ++ file Cpu) c.in_err-write_report.ensures.bytes in
    PutsAll-failed (g.K.Sink.has c.args.out.now) (g.K.Sink.has c.write_report.new.out) c.from_residual.result (resource_files c.args.at c.args.path.now c.args.slot.0 c.args.totals c.args.averages.now.averages) c.from_residual.ensures.0
    (subst (AppendsPrefix (g.K.Sink.has c.args.out.now) (g.K.Sink.has c.write_report.new.out)) (sym (by_resource file)) prefix)

pub returns-in_err-write_report-2-clause-bytes : goal.returns-in_err-write_report-2-clause-bytes
returns-in_err-write_report-2-clause-bytes g c =
    let file : Res → List ℕ = λ res. report_text c.args.at c.args.path.now res (c.args.slot.0 == 0) c.args.totals c.args.averages.now.averages in
    let second = prefix_of_both (g.K.Sink.has c.write_report.new.out) (g.K.Sink.has c.write_report-2.new.out) (file Memory) (file Cpu) c.in_err-write_report-2.ensures.bytes in
    let prefix = prefix_then (g.K.Sink.has c.args.out.now) (g.K.Sink.has c.write_report.new.out) (g.K.Sink.has c.write_report-2.new.out) (file Io) (file Memory ++ file Cpu) c.in_ok-write_report.ensures.bytes second in
    PutsAll-failed (g.K.Sink.has c.args.out.now) (g.K.Sink.has c.write_report-2.new.out) c.from_residual-in_err-write_report-2.result (resource_files c.args.at c.args.path.now c.args.slot.0 c.args.totals c.args.averages.now.averages) c.from_residual-in_err-write_report-2.ensures.0
    (subst (AppendsPrefix (g.K.Sink.has c.args.out.now) (g.K.Sink.has c.write_report-2.new.out)) (sym (by_resource file)) prefix)

pub returns-clause-bytes : goal.returns-clause-bytes
returns-clause-bytes g c =
    let file : Res → List ℕ = λ res. report_text c.args.at c.args.path.now res (c.args.slot.0 == 0) c.args.totals c.args.averages.now.averages in
    let last = puts_then (g.K.Sink.has c.write_report.new.out) (g.K.Sink.has c.write_report-2.new.out) (g.K.Sink.has c.write_report-3.new.out) c.write_report-3.result (file Memory) (file Cpu) c.in_ok-write_report-2.ensures.bytes c.write_report-3.ensures.bytes in
    let all = puts_then (g.K.Sink.has c.args.out.now) (g.K.Sink.has c.write_report.new.out) (g.K.Sink.has c.write_report-3.new.out) c.write_report-3.result (file Io) (file Memory ++ file Cpu) c.in_ok-write_report.ensures.bytes last in
    subst (PutsAll (g.K.Sink.has c.args.out.now) (g.K.Sink.has c.write_report-3.new.out) c.write_report-3.result) (sym (by_resource file)) all
