use Rattle.plan_laws.proofs.PlanClocks as laws
use Rattle.plan_laws.proofs.plans.law_plan_clocks.Goals as goal

pub returns-clause-zero : goal.returns-clause-zero
returns-clause-zero c = laws.zero_is_clock

pub returns-clause-followed : goal.returns-clause-followed
returns-clause-followed c = laws.followed_is_clock

pub returns-clause-unchanged : goal.returns-clause-unchanged
returns-clause-unchanged c = laws.kept_is_clock

pub returns-clause-in_time : goal.returns-clause-in_time
returns-clause-in_time c = laws.clock_is_in_time

pub returns-clause-shows : goal.returns-clause-shows
returns-clause-shows c = laws.clock_shows_planned
