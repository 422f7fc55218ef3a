use Rattle.psi_spec.proofs.StallLaws as laws
use Rattle.psi_spec.proofs.laws.law_irq_time.Goals as goal

pub returns : goal.returns
returns c = laws.irq_by_event
