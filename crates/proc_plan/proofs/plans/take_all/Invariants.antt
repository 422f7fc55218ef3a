use Rattle.std.proofs.Common.{[], take}
use Rattle.psi_spec.specs.World.{Limits}
use Rattle.proc_plan.specs.Plans.{HasTaken}
use Rattle.proc_plan.proofs.plans.take_all.Given as goal

abbrev pub invariant-events : goal.invariant-events
invariant-events l = (limits : Limits) → HasTaken l.fn.planner limits [] → HasTaken l.planner limits (take l.event-index l.events)
