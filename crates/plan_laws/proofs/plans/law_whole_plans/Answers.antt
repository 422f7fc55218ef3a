use Rattle.plan_laws.proofs.PlanWhole as laws
use Rattle.plan_laws.proofs.plans.law_whole_plans.Goals as goal

pub returns-clause-whole : goal.returns-clause-whole
returns-clause-whole c = laws.plan_is_whole

pub returns-clause-empty : goal.returns-clause-empty
returns-clause-empty c = laws.empty_is_plan
