use Rattle.std.proofs.Common.{take}
use Rattle.std.specs.Prelude.{Ok}
use Rattle.std.specs.Io.KnownBytes.{Appends}
use Rattle.outside.specs.Outside.{HasCause, SameInner}
use Rattle.psi_spec.specs.Header.{version_of}
use Rattle.run_laws.specs.Reports.{slot_reports}
use Rattle.tick_engine.specs.Engine.{averages_in, totals_in}
use Rattle.group_tree.specs.Tree.{numbers_of}
use Rattle.replay_ticks.proofs.reports.put_reports.Given as goal

abbrev pub invariant-slots : goal.invariant-slots
invariant-slots g l = record {
  sent : Appends (g.K.Sink.has l.fn.out) (g.K.Sink.has l.out) (slot_reports (version_of l.version) l.at l.lives (totals_in l.engine) (averages_in l.engine) (numbers_of (take l.slot-index l.order)));
  cause : HasCause {T = Unit {0}} {E = Unit {0}} (g.K.Sink.faults l.fn.out) (g.K.Sink.faults l.out) (Ok tt);
  below : SameInner (g.K.Sink.below l.fn.out) (g.K.Sink.below l.out);
}
