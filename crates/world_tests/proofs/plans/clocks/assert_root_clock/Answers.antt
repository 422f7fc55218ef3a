use Rattle.std.proofs.Common.{◌≡◌, ◌≤◌, arith, rules}
use Rattle.plan_laws.specs.Plan.{last_change}
use Rattle.plan_laws.proofs.PlanClocks.{clock_is_in_time}
use Rattle.world_tests.proofs.plans.clocks.assert_root_clock.Goals as goal

pub opened-requires : goal.opened-requires
opened-requires g c =
    let clocks = c.apply-4.new.self in
    let plan = c.args.plan.now in
    let same : clocks.plan ≡ plan = search rules in
    let made : clocks.made ≡ 4 = search rules in
    let clock = rw (same, made) at c.own-clock.ensures.clock in
    let moment : last_change plan 4 ≤ 2000000000 = search (rules, arith) in
    clock_is_in_time c.own-clock.result plan 0 4 2000000000 c.len.ensures.whole clock moment (omega arith)
