use Rattle.std.proofs.Common.{rules}
use Rattle.world_tests.proofs.Fitting.{one_more}
use Rattle.world_tests.proofs.events.events_of.Goals as goal

pub lines-preserved : goal.lines-preserved
lines-preserved c =
    let fit = one_more c.lines.events.items c.in_ok-event.event c.lines.invariant c.in_ok-event.ensures.found.0 in
    search (rules, fit)
