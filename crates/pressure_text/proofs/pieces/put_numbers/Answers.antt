use Rattle.std.proofs.Common.{arith}
use Rattle.outside.proofs.Grows.{AppendsPrefix-then, PutsAll-failed, flat_map-at}
use Rattle.pressure_text.specs.Pieces.{spaced_number}
use Rattle.pressure_text.proofs.pieces.put_numbers.Goals as goal

-- The numbers before the failed number, followed by a prefix of the failed number, are a prefix of
-- all numbers.
pub returns-in_err-put_spaced-clause-bytes : goal.returns-in_err-put_spaced-clause-bytes
returns-in_err-put_spaced-clause-bytes g c =
    let parts = flat_map-at spaced_number c.args.numbers.now c.loop-number.number-index 0 (omega arith) in
    let prefix = AppendsPrefix-then _ _ _ _ _ _ c.loop-number.invariant.sent c.in_err-put_spaced.ensures.bytes in
    PutsAll-failed _ _ _ _ c.from_residual.ensures.0 (rw parts prefix)
