use Rattle.plan_laws.proofs.MomentsTriggers as laws
use Rattle.plan_laws.proofs.moments.law_triggers.Goals as goal

pub returns-clause-within : goal.returns-clause-within
returns-clause-within c = laws.triggers_are_within

pub returns-clause-order : goal.returns-clause-order
returns-clause-order c = laws.triggers_are_in_order

pub returns-clause-up_to : goal.returns-clause-up_to
returns-clause-up_to c = laws.triggers_up_to

pub returns-clause-groups : goal.returns-clause-groups
returns-clause-groups c = laws.triggers_are_on_groups
