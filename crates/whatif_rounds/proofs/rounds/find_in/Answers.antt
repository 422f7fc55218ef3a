use Rattle.std.proofs.Common.{refl, sym}
use Rattle.whatif_rounds.specs.Rounds.{trace_from}
use Rattle.whatif_rounds.proofs.Taking.{are_plans}
use Rattle.whatif_rounds.proofs.rounds.find_in.Goals as goal

pub find_kill-requires-clause-planned : goal.find_kill-requires-clause-planned
find_kill-requires-clause-planned g c κs within =
    let trace = trace_from c.args.version c.args.cpus c.args.events.now in
    (trace, are_plans c.in_ok-plans.plans c.args.options.now trace c.requires.options c.requires.trace c.in_ok-plans.ensures, refl)

pub returns-in-Some : goal.returns-in-Some
returns-in-Some g c =
    let trace = trace_from c.args.version c.args.cpus c.args.events.now in
    let planned = are_plans c.in_ok-plans.plans c.args.options.now trace c.requires.options c.requires.trace c.in_ok-plans.ensures in
    let found = rw (c.in-Some.is, c.in_ok-copy.ensures) at (c.in_ok-kill.ensures trace planned refl) in
    sym found

pub returns-in-None : goal.returns-in-None
returns-in-None g c =
    let trace = trace_from c.args.version c.args.cpus c.args.events.now in
    let planned = are_plans c.in_ok-plans.plans c.args.options.now trace c.requires.options c.requires.trace c.in_ok-plans.ensures in
    let found = rw (c.in-None.is, c.in_ok-copy.ensures) at (c.in_ok-kill.ensures trace planned refl) in
    (sym found, planned)
