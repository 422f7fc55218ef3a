use Rattle.psi_counts.proofs.TouchWithin as laws
use Rattle.psi_counts.proofs.touches.law_changes_are_within.Goals as goal

pub returns : goal.returns
returns c = laws.changes_are_within
