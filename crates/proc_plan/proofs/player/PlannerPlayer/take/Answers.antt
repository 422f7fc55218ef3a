use Rattle.proc_plan.proofs.Taking.{planner_takes}
use Rattle.proc_plan.proofs.player.PlannerPlayer.take.Goals as goal

pub returns : goal.returns
returns c = planner_takes c.args.self.now c.take_other.new.self c.args.event.now c.take_other.result c.take_other.ensures.takes
