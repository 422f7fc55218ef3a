use Rattle.psi_counts.proofs.LegalLaws as laws
use Rattle.psi_counts.proofs.legal.law_legal_counts.Goals as goal

pub returns-clause-later : goal.returns-clause-later
returns-clause-later c = laws.same_tasks_later

pub returns-clause-few : goal.returns-clause-few
returns-clause-few c = laws.counts_are_few

pub returns-clause-sums : goal.returns-clause-sums
returns-clause-sums c = laws.counts_are_sums
