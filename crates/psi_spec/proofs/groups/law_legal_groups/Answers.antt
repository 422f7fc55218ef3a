use Rattle.psi_spec.proofs.GroupChanges as laws
use Rattle.psi_spec.proofs.groups.law_legal_groups.Goals as goal

pub returns-clause-first : goal.returns-clause-first
returns-clause-first c = laws.groups_first

pub returns-clause-unchanged : goal.returns-clause-unchanged
returns-clause-unchanged c = laws.groups_kept
