use Rattle.trace_player.specs.TaskActs.{as_event}
use Rattle.proc_plan.proofs.Taking.{planner_takes}
use Rattle.proc_plan.proofs.player.PlannerPlayer.take_task.Goals as goal

pub returns : goal.returns
returns c = planner_takes c.args.self.now c.take_task.new.self (as_event c.args.at c.args.act) c.take_task.result c.take_task.ensures.takes
