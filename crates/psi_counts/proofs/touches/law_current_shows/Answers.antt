use Rattle.psi_counts.proofs.RunnerLaws as laws
use Rattle.psi_counts.proofs.touches.law_current_shows.Goals as goal

pub returns : goal.returns
returns c = laws.current_shows
