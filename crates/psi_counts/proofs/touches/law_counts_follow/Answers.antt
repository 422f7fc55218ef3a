use Rattle.psi_counts.proofs.TouchLaws as laws
use Rattle.psi_counts.proofs.touches.law_counts_follow.Goals as goal

pub returns : goal.returns
returns c = laws.counts_follow
