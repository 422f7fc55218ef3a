use Rattle.proc_plan.proofs.plans.Plans.build.Goals as goal

pub returns-in_ok-finish-in-Ok-clause-represents : goal.returns-in_ok-finish-in-Ok-clause-represents
returns-in_ok-finish-in-Ok-clause-represents c =
    let taken = c.in-Ok.ensures.taken (record { cpus = c.args.cpus; latest = c.args.latest }) c.in_ok-planner.ensures in
    c.in_ok-finish-in-Ok.ensures (record { cpus = c.args.cpus; latest = c.args.latest }) c.args.events.now taken.0

pub returns-in_ok-finish-in-Ok-clause-accepted : goal.returns-in_ok-finish-in-Ok-clause-accepted
returns-in_ok-finish-in-Ok-clause-accepted c = (c.in-Ok.ensures.taken (record { cpus = c.args.cpus; latest = c.args.latest }) c.in_ok-planner.ensures).1
