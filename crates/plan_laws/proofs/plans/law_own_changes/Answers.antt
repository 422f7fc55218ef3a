use Rattle.plan_laws.proofs.PlanStalls as stalls
use Rattle.plan_laws.proofs.PlanUpTo as laws
use Rattle.plan_laws.proofs.plans.law_own_changes.Goals as goal

pub returns-clause-stall : goal.returns-clause-stall
returns-clause-stall c = stalls.stall_by_own_changes

pub returns-clause-up_to : goal.returns-clause-up_to
returns-clause-up_to c = laws.stall_up_to

pub returns-clause-count : goal.returns-clause-count
returns-clause-count c = laws.counts_by_plan
