use Rattle.std.proofs.Common.{◌≡◌, take}
use Rattle.std.specs.Prelude.{Ok}
use Rattle.std.specs.List.{flat_map}
use Rattle.std.specs.Io.KnownBytes.{Appends}
use Rattle.psi_spec.specs.Header.{version_of}
use Rattle.outside.specs.Outside.{HasCause, SameInner}
use Rattle.commands.specs.Lines.{plan_line}
use Rattle.commands.proofs.lines.put_processor.Given as goal

abbrev pub invariant-groups : goal.invariant-groups
invariant-groups g l = record {
  plan : g.C.ProcClocks.plan l.clocks ≡ g.C.ProcClocks.plan l.fn.clocks;
  made : g.C.ProcClocks.made l.clocks ≡ g.C.ProcClocks.made l.fn.clocks;
  sent : Appends (g.K.Sink.has l.fn.out) (g.K.Sink.has l.out) (flat_map (plan_line (version_of l.version) l.cpu.0 l.fn.groups (g.C.ProcClocks.plan l.fn.clocks) l.last) (take l.slot-index l.order));
  cause : HasCause {T = Unit {0}} {E = Unit {0}} (g.K.Sink.faults l.fn.out) (g.K.Sink.faults l.out) (Ok tt);
  below : SameInner (g.K.Sink.below l.fn.out) (g.K.Sink.below l.out);
}
