use Rattle.proc_plan.proofs.Finishing as laws
use Rattle.proc_plan.proofs.laws.law_ended_traces.Goals as goal

pub returns : goal.returns
returns c = laws.ended_is_accepted
