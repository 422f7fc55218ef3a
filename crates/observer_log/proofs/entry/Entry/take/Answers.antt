use Rattle.std.proofs.Common.{◌≤◌, arith, rules, sym, subst}
use Rattle.psi_spec.specs.Within.{last_moment}
use Rattle.plan_laws.specs.Plan.{last_change}
use Rattle.plan_laws.proofs.PlanClocks.{clock_is_in_time}
use Rattle.observer_log.proofs.entry.Entry.take.Goals as goal

pub opened-requires : goal.opened-requires
opened-requires c =
    let plan = c.args.plan.now in
    let sample = c.args.sample.now in
    let at = c.moment_of-at.result in
    let past : last_change plan sample.count ≤ at = omega (arith, c.moment_of-at.ensures) in
    let last : last_change plan sample.count ≤ last_moment = c.len.ensures.whole.early sample.count c.requires.within in
    let early : at ≤ last_moment = omega (arith, last, c.moment_of-at.ensures) in
    clock_is_in_time sample.clock plan c.args.slot.0 sample.count at c.len.ensures.whole c.requires past early
