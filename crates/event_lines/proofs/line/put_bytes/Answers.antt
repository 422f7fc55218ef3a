use Rattle.std.proofs.Common.{arith}
use Rattle.outside.proofs.Grows.{AppendsPrefix-then, PutsAll-failed, flat_map-at}
use Rattle.page_spec.specs.Lines.{byte_text}
use Rattle.event_lines.proofs.line.put_bytes.Goals as goal

pub returns-in_err-put_byte-clause-bytes : goal.returns-in_err-put_byte-clause-bytes
returns-in_err-put_byte-clause-bytes g c =
    PutsAll-failed _ _ _ _ c.from_residual.ensures.0 (rw (flat_map-at byte_text c.args.bytes.now c.bytes.byte-index 0 (omega arith)) (AppendsPrefix-then _ _ _ _ _ _ c.bytes.invariant.sent c.in_err-put_byte.ensures.bytes))
