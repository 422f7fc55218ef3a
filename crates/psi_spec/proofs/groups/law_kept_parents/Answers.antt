use Rattle.psi_spec.proofs.GroupLaws as laws
use Rattle.psi_spec.proofs.GroupChanges.{parents_kept}
use Rattle.psi_spec.proofs.groups.law_kept_parents.Goals as goal

pub returns-clause-parents : goal.returns-clause-parents
returns-clause-parents c = parents_kept

pub returns-clause-climbs : goal.returns-clause-climbs
returns-clause-climbs c = laws.climbs_kept
