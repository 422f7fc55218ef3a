use Rattle.psi_counts.proofs.RunnerLaws as laws
use Rattle.psi_counts.proofs.touches.law_runs_once.Goals as goal

pub returns-clause-first : goal.returns-clause-first
returns-clause-first c = laws.runs_once_first

pub returns-clause-unchanged : goal.returns-clause-unchanged
returns-clause-unchanged c = laws.runs_once_kept
