use Rattle.std.proofs.Common.{◌≡◌, ◌<◌, ◌≤◌, rules}
use Rattle.whatif_rounds.specs.Rounds.{trace_from}
use Rattle.whatif_rounds.proofs.Taking.{last_at_end, last_here, none_taken, one_taken, outgrown_at}
use Rattle.whatif_rounds.proofs.rounds.last_plans.Goals as goal

pub rounds-init : goal.rounds-init
rounds-init g c = none_taken c.args.options.now c.args.rules.now.rules (trace_from c.args.version c.args.cpus c.args.events.items) c.requires.trace

pub returns-in-Err : goal.returns-in-Err
returns-in-Err g c =
    let trace = trace_from c.args.version c.args.cpus c.args.events.items in
    let found = rw (c.in-Kill.is, c.deref.ensures.value) at c.in_ok-round.ensures in
    let low : c.rounds.number < 64 = search rules in
    outgrown_at c.args.options.now c.args.rules.now.rules trace c.rounds.number c.rounds.events.items c.in-Kill.kill c.in-Err.fault low c.rounds.invariant found c.in-Err.ensures.content

pub rounds-preserved : goal.rounds-preserved
rounds-preserved g c =
    let trace = trace_from c.args.version c.args.cpus c.args.events.items in
    let found = rw (c.in-Kill.is, c.deref.ensures.value) at c.in_ok-round.ensures in
    one_taken c.args.options.now c.args.rules.now.rules trace c.rounds.number c.rounds.events.items c.in-Ok.left.items c.in-Kill.kill c.rounds.invariant found c.in-Ok.ensures.content c.in-Ok.ensures.accepted

pub returns-in-Last : goal.returns-in-Last
returns-in-Last g c =
    let trace = trace_from c.args.version c.args.cpus c.args.events.items in
    let found = rw (c.in-Last.is, c.deref.ensures.value) at c.in_ok-round.ensures in
    let low : c.rounds.number ≤ 64 = search rules in
    last_here c.args.options.now c.args.rules.now.rules trace c.rounds.number c.rounds.events.items c.in-Last.plans low c.rounds.invariant found.0 found.1

pub returns-in-Ok-plans_of : goal.returns-in-Ok-plans_of
returns-in-Ok-plans_of g c =
    let trace = trace_from c.args.version c.args.cpus c.args.events.items in
    let all : c.rounds.number ≡ 64 = search rules in
    last_at_end c.args.options.now c.args.rules.now.rules trace c.rounds.number c.rounds.events.items c.in-Ok-plans_of.plans c.requires.options c.requires.trace all c.rounds.invariant (rw c.deref-2.ensures.value at c.in-Ok-plans_of.ensures)
