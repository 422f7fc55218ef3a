use Rattle.plan_laws.proofs.PlanLaws as laws
use Rattle.plan_laws.proofs.plans.law_numbered_changes.Goals as goal

pub returns-clause-numbered : goal.returns-clause-numbered
returns-clause-numbered c = laws.changes_are_numbered

pub returns-clause-until : goal.returns-clause-until
returns-clause-until c = laws.changes_until
