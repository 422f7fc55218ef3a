use Rattle.plan_laws.proofs.PlanIrqs as laws
use Rattle.plan_laws.proofs.plans.law_irq_times.Goals as goal

pub returns-clause-irq : goal.returns-clause-irq
returns-clause-irq c = laws.planned_irq_is_irq

pub returns-clause-until : goal.returns-clause-until
returns-clause-until c = laws.planned_irq_until
