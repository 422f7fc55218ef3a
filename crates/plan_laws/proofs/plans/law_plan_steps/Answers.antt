use Rattle.plan_laws.proofs.PlanSteps as laws
use Rattle.plan_laws.proofs.plans.law_plan_steps.Goals as goal

pub returns-clause-counts : goal.returns-clause-counts
returns-clause-counts c = laws.counts_by_change

pub returns-clause-few : goal.returns-clause-few
returns-clause-few c = laws.plan_counts_are_few

pub returns-clause-current : goal.returns-clause-current
returns-clause-current c = laws.current_by_change

pub returns-clause-on : goal.returns-clause-on
returns-clause-on c = laws.on_by_change

pub returns-clause-first : goal.returns-clause-first
returns-clause-first c = laws.on_at_first

pub returns-clause-aside : goal.returns-clause-aside
returns-clause-aside c = laws.aside_stays

pub returns-clause-place : goal.returns-clause-place
returns-clause-place c = laws.place_of_moment
