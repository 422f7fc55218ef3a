use Rattle.proc_plan.proofs.Finishing as laws
use Rattle.proc_plan.proofs.laws.law_standing_plans.Goals as goal

pub returns : goal.returns
returns c = laws.standing_plans
