use Rattle.plan_laws.proofs.PlanStates as laws
use Rattle.plan_laws.proofs.PlanUpTo as own
use Rattle.plan_laws.proofs.plans.law_plan_states.Goals as goal

pub returns-clause-states : goal.returns-clause-states
returns-clause-states c = laws.plan_shows_states

pub returns-clause-stay : goal.returns-clause-stay
returns-clause-stay c = own.states_stay
