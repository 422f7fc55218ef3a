use Rattle.outside.proofs.Grows.{PutsAll-failed}
use Rattle.pressure_text.proofs.Puts.{prefix_of_both, puts_then}
use Rattle.pressure_text.proofs.file.write_irq.Goals as goal

pub returns-in_err-put_head-clause-bytes : goal.returns-in_err-put_head-clause-bytes
returns-in_err-put_head-clause-bytes g c =
    PutsAll-failed _ _ _ _ c.from_residual.ensures.0 (prefix_of_both _ _ _ _ c.in_err-put_head.ensures.bytes)

pub returns-clause-bytes : goal.returns-clause-bytes
returns-clause-bytes g c =
    let line = rw c.irq.ensures.value at c.put_line.ensures.bytes in
    puts_then _ _ _ _ _ _ c.in_ok-put_head.ensures.bytes line
