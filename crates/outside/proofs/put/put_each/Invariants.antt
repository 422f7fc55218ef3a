use Rattle.std.proofs.Common.{◌≡◌, take}
use Rattle.std.specs.List.{flat_map}
use Rattle.std.specs.Io.KnownBytes.{Appends}
use Rattle.outside.specs.Outside.{SameInner}
use Rattle.outside.proofs.put.put_each.Given as goal

abbrev pub invariant-loop-piece : goal.invariant-loop-piece
invariant-loop-piece g l = record {
  sent : Appends (g.K.Sink.has l.fn.out) (g.K.Sink.has l.out) (flat_map (λ piece. piece.now) (take l.piece-index l.pieces));
  same : g.K.Sink.faults l.out ≡ g.K.Sink.faults l.fn.out;
  below : SameInner (g.K.Sink.below l.fn.out) (g.K.Sink.below l.out);
}
