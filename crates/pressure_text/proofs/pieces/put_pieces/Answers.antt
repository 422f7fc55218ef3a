use Rattle.std.proofs.Common.{arith}
use Rattle.outside.proofs.Grows.{AppendsPrefix-then, PutsAll-failed, flat_map-at}
use Rattle.pressure_text.specs.Pieces.{piece_bytes}
use Rattle.pressure_text.specs.declared.pieces.Piece.TheVariants.{Number}
use Rattle.pressure_text.proofs.pieces.put_pieces.Goals as goal

-- The pieces before the failed piece, followed by a prefix of the failed piece, are a prefix of all
-- pieces.
pub returns-in_err-put_piece-clause-bytes : goal.returns-in_err-put_piece-clause-bytes
returns-in_err-put_piece-clause-bytes g c =
    let parts = flat_map-at piece_bytes c.args.pieces.now c.loop-piece.piece-index (Number 0) (omega arith) in
    let prefix = AppendsPrefix-then _ _ _ _ _ _ c.loop-piece.invariant.sent c.in_err-put_piece.ensures.bytes in
    PutsAll-failed _ _ _ _ c.from_residual.ensures.0 (rw parts prefix)
