use Rattle.psi_counts.proofs.MaskLaws as laws
use Rattle.psi_counts.proofs.clocks.law_masks.Goals as goal

pub returns : goal.returns
returns c = laws.masks_are_their_states
