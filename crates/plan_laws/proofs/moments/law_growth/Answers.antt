use Rattle.plan_laws.proofs.MomentsStall as laws
use Rattle.plan_laws.proofs.moments.law_growth.Goals as goal

pub returns-clause-grows : goal.returns-clause-grows
returns-clause-grows c = laws.stall_grows

pub returns-clause-within : goal.returns-clause-within
returns-clause-within c = laws.stall_is_within

pub returns-clause-none : goal.returns-clause-none
returns-clause-none c = laws.no_stall_at_first
