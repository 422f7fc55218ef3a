use Rattle.plan_laws.proofs.MomentsIrq as laws
use Rattle.plan_laws.proofs.moments.law_irq_growth.Goals as goal

pub returns-clause-grows : goal.returns-clause-grows
returns-clause-grows c = laws.irq_grows

pub returns-clause-within : goal.returns-clause-within
returns-clause-within c = laws.irq_is_within

pub returns-clause-none : goal.returns-clause-none
returns-clause-none c = laws.no_irq_at_first
