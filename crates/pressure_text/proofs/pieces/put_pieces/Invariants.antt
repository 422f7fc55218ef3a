use Rattle.std.proofs.Common.{take}
use Rattle.std.specs.Prelude.{Ok}
use Rattle.std.specs.List.{flat_map}
use Rattle.std.specs.Io.KnownBytes.{Appends}
use Rattle.outside.specs.Outside.{HasCause, SameInner}
use Rattle.pressure_text.specs.Pieces.{piece_bytes}
use Rattle.pressure_text.proofs.pieces.put_pieces.Given as goal

abbrev pub invariant-loop-piece : goal.invariant-loop-piece
invariant-loop-piece g l = record {
  sent : Appends (g.K.Sink.has l.fn.out) (g.K.Sink.has l.out) (flat_map piece_bytes (take l.piece-index l.pieces));
  cause : HasCause {T = Unit {0}} {E = Unit {0}} (g.K.Sink.faults l.fn.out) (g.K.Sink.faults l.out) (Ok tt);
  below : SameInner (g.K.Sink.below l.fn.out) (g.K.Sink.below l.out);
}
