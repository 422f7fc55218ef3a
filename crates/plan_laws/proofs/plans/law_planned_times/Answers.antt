use Rattle.plan_laws.proofs.PlanTimes as times
use Rattle.plan_laws.proofs.PlanStalls as stalls
use Rattle.plan_laws.proofs.plans.law_planned_times.Goals as goal

pub returns-clause-by_change : goal.returns-clause-by_change
returns-clause-by_change c = times.planned_by_change

pub returns-clause-stall : goal.returns-clause-stall
returns-clause-stall c = stalls.planned_is_stall
