use Rattle.psi_counts.proofs.ClockLaws as laws
use Rattle.psi_counts.proofs.clocks.law_same_clocks.Goals as goal

pub returns-clause-no_change : goal.returns-clause-no_change
returns-clause-no_change c = laws.same_mask_is_no_change

pub returns-clause-same_after : goal.returns-clause-same_after
returns-clause-same_after c = laws.same_after_change
