use Rattle.psi_counts.proofs.TouchLaws as laws
use Rattle.psi_counts.proofs.TouchWithin as within
use Rattle.psi_counts.proofs.touches.law_touched.Goals as goal

pub returns-clause-others : goal.returns-clause-others
returns-clause-others c = laws.stays_untouched

pub returns-clause-own : goal.returns-clause-own
returns-clause-own c = within.touches_its_own
