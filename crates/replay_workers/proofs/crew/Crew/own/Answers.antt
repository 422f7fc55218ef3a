use Rattle.std.proofs.Common.{◌≡◌, ◌<◌, ◌/◌, ◌%◌, ap, arith, length, rules, subst, sym, ◌∙◌}
use Rattle.plan_laws.specs.Plan.{IsClock, PlanView}
use Rattle.proc_plan.specs.Clocks.{OnPlan}
use Rattle.proc_plan.specs.Plans.{plan_at}
use Rattle.replay_workers.specs.Crew.{CrewView, clocks_at}
use Rattle.replay_workers.specs.Lanes.{LaneView, lane_of}
use Rattle.replay_workers.proofs.Dealt.{batch_found, clocks_are, lane_found, lane_is, lane_there}
use Rattle.replay_workers.proofs.crew.Crew.own.Goals as goal

pub index_mut-requires : goal.index_mut-requires
index_mut-requires c =
    let crew = c.self.inside in
    let below = subst (λ (view : CrewView). c.args.cpu.0 < length view.plans.plans) (sym c.self.view_is) c.requires.cpu in
    let there = lane_there crew.plans.now crew.batches.items crew.ticks crew.out crew.room c.args.cpu.0 c.self.invariant.lanes below in
    let many : c.len.result ≡ length crew.batches.items = search rules in
    let worker = c.of-at.ensures.worker ∙ ap (λ n. c.args.cpu.0 % n) many in
    let place = c.of-at.ensures.place ∙ ap (λ n. c.args.cpu.0 / n) many in
    let batch = batch_found crew.batches.items c.of-at.result.worker c.args.cpu.0 c.index_mut-batch.result.now worker c.self.invariant.lanes.some c.index_mut-batch.ensures.value in
    let size : length c.batch.inside.lanes.items ≡ c.batch.inside.lanes.len = search rules in
    let same = ap length (c.batch.view_is ∙ batch) in
    omega (arith, there, place, same, size)

pub own-requires : goal.own-requires
own-requires c =
    let crew = c.self.inside in
    let below = subst (λ (view : CrewView). c.args.cpu.0 < length view.plans.plans) (sym c.self.view_is) c.requires.cpu in
    let slot = subst (λ (view : CrewView). c.args.slot.0 < length view.plans.lives) (sym c.self.view_is) c.requires.slot in
    let there = lane_there crew.plans.now crew.batches.items crew.ticks crew.out crew.room c.args.cpu.0 c.self.invariant.lanes below in
    let own = lane_is crew.plans.now crew.batches.items crew.ticks crew.out crew.room c.args.cpu.0 c.self.invariant.lanes below in
    let many : c.len.result ≡ length crew.batches.items = search rules in
    let worker = c.of-at.ensures.worker ∙ ap (λ n. c.args.cpu.0 % n) many in
    let place = c.of-at.ensures.place ∙ ap (λ n. c.args.cpu.0 / n) many in
    let batch = batch_found crew.batches.items c.of-at.result.worker c.args.cpu.0 c.index_mut-batch.result.now worker c.self.invariant.lanes.some c.index_mut-batch.ensures.value in
    let lane = lane_found crew.batches.items c.of-at.result.place c.args.cpu.0 c.batch.inside.lanes.items c.index_mut.result.now place (c.batch.view_is ∙ batch) there c.index_mut.ensures.value in
    let slots = ap (λ (l : LaneView). length l.on.plan.parents) lane ∙ ap (λ (plan : PlanView). length plan.parents) own.plan ∙ own.slots in
    omega (arith, slot, slots)

pub returns-clause-clock : goal.returns-clause-clock
returns-clause-clock c =
    let crew = c.self.inside in
    let below = subst (λ (view : CrewView). c.args.cpu.0 < length view.plans.plans) (sym c.self.view_is) c.requires.cpu in
    let there = lane_there crew.plans.now crew.batches.items crew.ticks crew.out crew.room c.args.cpu.0 c.self.invariant.lanes below in
    let own = lane_is crew.plans.now crew.batches.items crew.ticks crew.out crew.room c.args.cpu.0 c.self.invariant.lanes below in
    let many : c.len.result ≡ length crew.batches.items = search rules in
    let worker = c.of-at.ensures.worker ∙ ap (λ n. c.args.cpu.0 % n) many in
    let place = c.of-at.ensures.place ∙ ap (λ n. c.args.cpu.0 / n) many in
    let batch = batch_found crew.batches.items c.of-at.result.worker c.args.cpu.0 c.index_mut-batch.result.now worker c.self.invariant.lanes.some c.index_mut-batch.ensures.value in
    let lane = lane_found crew.batches.items c.of-at.result.place c.args.cpu.0 c.batch.inside.lanes.items c.index_mut.result.now place (c.batch.view_is ∙ batch) there c.index_mut.ensures.value in
    let at_lane = subst (λ (l : LaneView). IsClock c.own.result l.on.plan c.args.slot.0 l.on.made) lane c.own.ensures.clock in
    let on_plan = subst (λ (plan : PlanView). IsClock c.own.result plan c.args.slot.0 (lane_of crew.batches.items c.args.cpu.0).on.made) own.plan at_lane in
    let made = ap (λ (on : OnPlan). on.made) (sym (clocks_are crew.batches.items (length crew.plans.now.plans) c.args.cpu.0 below)) in
    subst (λ (view : CrewView). IsClock c.own.result (plan_at view.plans c.args.cpu.0) c.args.slot.0 (clocks_at view.clocks c.args.cpu.0).made) c.self.view_is
    (subst (λ k. IsClock c.own.result (plan_at crew.plans.now c.args.cpu.0) c.args.slot.0 k) made on_plan)
