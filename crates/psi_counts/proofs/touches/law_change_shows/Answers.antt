use Rattle.psi_counts.proofs.TouchWithin as laws
use Rattle.psi_counts.proofs.touches.law_change_shows.Goals as goal

pub returns : goal.returns
returns c = laws.change_shows
