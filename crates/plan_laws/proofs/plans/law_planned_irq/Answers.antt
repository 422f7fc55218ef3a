use Rattle.plan_laws.proofs.PlanIrqs as laws
use Rattle.plan_laws.proofs.plans.law_planned_irq.Goals as goal

pub returns-clause-none : goal.returns-clause-none
returns-clause-none c = laws.no_planned_irq

pub returns-clause-by_change : goal.returns-clause-by_change
returns-clause-by_change c = laws.planned_irq_by_change

pub returns-clause-fits : goal.returns-clause-fits
returns-clause-fits c = laws.planned_irq_fits
