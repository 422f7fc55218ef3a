use Rattle.psi_counts.proofs.TouchWithin as laws
use Rattle.psi_counts.proofs.touches.law_within.Goals as goal

pub returns-clause-first : goal.returns-clause-first
returns-clause-first c = laws.within_first

pub returns-clause-unchanged : goal.returns-clause-unchanged
returns-clause-unchanged c = laws.within_kept
