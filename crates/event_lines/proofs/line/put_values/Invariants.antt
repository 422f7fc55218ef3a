use Rattle.std.proofs.Common.{◌≡◌, take}
use Rattle.std.specs.Io.KnownBytes.{Appends}
use Rattle.outside.specs.Outside.{SameInner}
use Rattle.event_lines.proofs.Fields.{fields_text}
use Rattle.event_lines.proofs.line.put_values.Given as goal

abbrev pub invariant-fields : goal.invariant-fields
invariant-fields g l = record {
  sent : Appends (g.K.Sink.has l.fn.out) (g.K.Sink.has l.out) (fields_text l.letters l.fn.bytes (take l.field-index l.fields));
  same : g.K.Sink.faults l.out ≡ g.K.Sink.faults l.fn.out;
  below : SameInner (g.K.Sink.below l.fn.out) (g.K.Sink.below l.out);
}
