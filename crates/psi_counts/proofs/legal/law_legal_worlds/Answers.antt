use Rattle.psi_counts.proofs.LegalLaws as laws
use Rattle.psi_counts.proofs.legal.law_legal_worlds.Goals as goal

pub returns-clause-first : goal.returns-clause-first
returns-clause-first c = laws.legal_first

pub returns-clause-unchanged : goal.returns-clause-unchanged
returns-clause-unchanged c = laws.legal_kept
