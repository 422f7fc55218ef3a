use Rattle.std.proofs.Common.{length}
use Rattle.commands.proofs.GeneratedLaws.{HasPlayed}
use Rattle.commands.proofs.generated.plan_generated.Given as goal

abbrev pub invariant-events : goal.invariant-events
invariant-events l = HasPlayed l.fn.shape l.planner l.generator

abbrev pub decreases-events : goal.decreases-events
decreases-events l = length l.generator
