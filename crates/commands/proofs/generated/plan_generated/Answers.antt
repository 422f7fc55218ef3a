use Rattle.commands.proofs.GeneratedLaws.{next_can, next_may, next_taken}
use Rattle.commands.proofs.generated.plan_generated.Goals as goal

pub take_legal-requires-clause-fits : goal.take_legal-requires-clause-fits
take_legal-requires-clause-fits c =
    next_can c.args.shape c.events.planner c.events.generator c.next.new.self c.in-Some.event c.requires c.events.invariant c.in-Some.ensures

pub take_legal-requires-clause-legal : goal.take_legal-requires-clause-legal
take_legal-requires-clause-legal c =
    next_may c.args.shape c.events.planner c.events.generator c.next.new.self c.in-Some.event c.requires c.events.invariant c.in-Some.ensures

pub events-preserved : goal.events-preserved
events-preserved c =
    next_taken c.args.shape c.events.planner c.take_legal.new.planner c.events.generator c.next.new.self c.in-Some.event c.events.invariant c.in-Some.ensures c.in_ok-take_legal.ensures
