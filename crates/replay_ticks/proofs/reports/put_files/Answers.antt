use Rattle.outside.proofs.Grows.{PutsAll-failed}
use Rattle.replay_ticks.proofs.Pieces.{prefix_of_both, puts_then}
use Rattle.replay_ticks.proofs.reports.put_files.Goals as goal

pub returns-in_err-put_resources-clause-bytes : goal.returns-in_err-put_resources-clause-bytes
returns-in_err-put_resources-clause-bytes g c =
    PutsAll-failed _ _ _ _ c.from_residual.ensures.0 (prefix_of_both _ _ _ _ c.in_err-put_resources.ensures.bytes)

pub returns-clause-bytes : goal.returns-clause-bytes
returns-clause-bytes g c = puts_then _ _ _ _ _ _ c.in_ok-put_resources.ensures.bytes c.put_irq.ensures.bytes
