use Rattle.std.proofs.Common.{arith, []}
use Rattle.outside.proofs.Grows.{AppendsPrefix-then, PutsAll-failed, flat_map-at}
use Rattle.outside.proofs.put.put_each.Goals as goal

pub returns-in_err-put_all-clause-bytes : goal.returns-in_err-put_all-clause-bytes
returns-in_err-put_all-clause-bytes g c =
    PutsAll-failed _ _ _ _ c.from_residual.ensures.0 (rw (flat_map-at _ c.args.pieces.now c.loop-piece.piece-index (record { ref_ptr = (0, 0); now = [] }) (omega arith)) (AppendsPrefix-then _ _ _ _ _ _ c.loop-piece.invariant.sent c.in_err-put_all.ensures.bytes))
