use Rattle.std.proofs.Common.{take}
use Rattle.std.specs.Prelude.{Ok}
use Rattle.std.specs.List.{flat_map}
use Rattle.std.specs.Io.KnownBytes.{Appends}
use Rattle.outside.specs.Outside.{HasCause, SameInner}
use Rattle.observe_core.specs.Printed.{entry_line}
use Rattle.observe_core.proofs.lines.put_entries.Given as goal

abbrev pub invariant-entries : goal.invariant-entries
invariant-entries g l = record {
  sent : Appends (g.K.Sink.has l.fn.out) (g.K.Sink.has l.out) (flat_map entry_line (take l.entry-index l.entries));
  cause : HasCause {T = Unit {0}} {E = Unit {0}} (g.K.Sink.faults l.fn.out) (g.K.Sink.faults l.out) (Ok tt);
  below : SameInner (g.K.Sink.below l.fn.out) (g.K.Sink.below l.out);
}
