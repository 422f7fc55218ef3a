use Rattle.std.proofs.Common.{rules, Some}
use Rattle.whatif_trace.proofs.Cutting.{before_known}
use Rattle.whatif_trace.proofs.removal.is_before_end.Goals as goal

pub returns-in-Some : goal.returns-in-Some
returns-in-Some c = before_known c.args.events.now c.args.at (Some c.in-Some.event.now) (search rules)
