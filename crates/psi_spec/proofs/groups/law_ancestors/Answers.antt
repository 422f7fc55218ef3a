use Rattle.psi_spec.proofs.GroupLaws as laws
use Rattle.psi_spec.proofs.GroupChanges.{root_above}
use Rattle.psi_spec.proofs.groups.law_ancestors.Goals as goal

pub returns-clause-step : goal.returns-clause-step
returns-clause-step c = laws.by_step

pub returns-clause-older : goal.returns-clause-older
returns-clause-older c = laws.ancestors_older

pub returns-clause-root : goal.returns-clause-root
returns-clause-root c = root_above
