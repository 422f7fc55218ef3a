use Rattle.std.proofs.Common.{◌≡◌, take}
use Rattle.std.specs.Io.KnownBytes.{Appends}
use Rattle.outside.specs.Outside.{SameInner}
use Rattle.page_spec.specs.Lines.{bytes_text}
use Rattle.event_lines.proofs.line.put_bytes.Given as goal

abbrev pub invariant-bytes : goal.invariant-bytes
invariant-bytes g l = record {
  sent : Appends (g.K.Sink.has l.fn.out) (g.K.Sink.has l.out) (bytes_text (take l.byte-index l.bytes));
  same : g.K.Sink.faults l.out ≡ g.K.Sink.faults l.fn.out;
  below : SameInner (g.K.Sink.below l.fn.out) (g.K.Sink.below l.out);
}
