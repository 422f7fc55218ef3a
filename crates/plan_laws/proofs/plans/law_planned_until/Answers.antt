use Rattle.plan_laws.proofs.PlanPlanned as laws
use Rattle.plan_laws.proofs.plans.law_planned_until.Goals as goal

pub returns : goal.returns
returns c = laws.planned_until
