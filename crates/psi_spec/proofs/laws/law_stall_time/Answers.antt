use Rattle.psi_spec.proofs.StallLaws as laws
use Rattle.psi_spec.proofs.laws.law_stall_time.Goals as goal

pub returns-clause-by_event : goal.returns-clause-by_event
returns-clause-by_event c = laws.by_event

pub returns-clause-with_time : goal.returns-clause-with_time
returns-clause-with_time c = laws.with_time
