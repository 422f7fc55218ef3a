use Rattle.psi_counts.proofs.MaskLaws as laws
use Rattle.psi_counts.proofs.clocks.law_states_by_counts.Goals as goal

pub returns : goal.returns
returns c = laws.counts_show
