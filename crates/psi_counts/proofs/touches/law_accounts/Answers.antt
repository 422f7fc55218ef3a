use Rattle.psi_counts.proofs.AccountLaws as laws
use Rattle.psi_counts.proofs.touches.law_accounts.Goals as goal

pub returns : goal.returns
returns c = laws.on_by_account
