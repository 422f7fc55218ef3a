use Rattle.std.proofs.Common.{◌≡◌, ◌-◌, ◌≤◌, length, take}
use Rattle.std.specs.Io.KnownBytes.{Appends}
use Rattle.outside.specs.Outside.{SameInner}
use Rattle.outside.proofs.put.send.Given as goal

abbrev pub invariant-loop-sent : goal.invariant-loop-sent
invariant-loop-sent g l = record {
  inside : l.sent ≤ length l.bytes;
  sent : Appends (g.K.Sink.has l.fn.out) (g.K.Sink.has l.out) (take l.sent l.bytes);
  same : g.K.Sink.faults l.out ≡ g.K.Sink.faults l.fn.out;
  below : SameInner (g.K.Sink.below l.fn.out) (g.K.Sink.below l.out);
}

abbrev pub decreases-loop-sent : goal.decreases-loop-sent
decreases-loop-sent g l = length l.bytes - l.sent
