use Rattle.std.proofs.Common.{◌≡◌, ◌/◌, ◌%◌, ◌<◌, ◌≤◌, ap, arith, length, rules, subst, sym, ◌∙◌}
use Rattle.proc_plan.specs.Clocks.{OnPlan}
use Rattle.replay_workers.specs.Crew.{CrewView, clocks_at, row_at}
use Rattle.replay_workers.specs.Lanes.{LaneView}
use Rattle.replay_workers.proofs.Dealt.{clocks_are, lane_at_places, place_inside, rows_are}
use Rattle.replay_workers.proofs.crew.Crew.settle.Goals as goal

pub index_mut-requires : goal.index_mut-requires
index_mut-requires c =
    let crew = c.self.inside in
    let below = subst (λ (view : CrewView). c.args.cpu.0 < length view.plans.plans) (sym c.self.view_is) c.requires.cpu in
    let many : c.len.result ≡ length crew.batches.items = search rules in
    let worker = c.of-at.ensures.worker ∙ ap (λ n. c.args.cpu.0 % n) many in
    let place = c.of-at.ensures.place ∙ ap (λ n. c.args.cpu.0 / n) many in
    let size : length c.batch.inside.lanes.items ≡ c.batch.inside.lanes.len = search rules in
    let inside = place_inside crew.plans.now crew.batches.items crew.ticks crew.out crew.room c.args.cpu.0 c.of-at.result.worker c.of-at.result.place c.index_mut-batch.result.now c.batch.inside.lanes.items c.self.invariant.lanes below worker place c.index_mut-batch.ensures.value c.batch.view_is in
    omega (arith, inside, size)

pub settle-requires : goal.settle-requires
settle-requires c =
    let crew = c.self.inside in
    let below = subst (λ (view : CrewView). c.args.cpu.0 < length view.plans.plans) (sym c.self.view_is) c.requires.cpu in
    let many : c.len.result ≡ length crew.batches.items = search rules in
    let worker = c.of-at.ensures.worker ∙ ap (λ n. c.args.cpu.0 % n) many in
    let place = c.of-at.ensures.place ∙ ap (λ n. c.args.cpu.0 / n) many in
    let lane = lane_at_places crew.plans.now crew.batches.items crew.ticks crew.out crew.room c.args.cpu.0 c.of-at.result.worker c.of-at.result.place c.index_mut-batch.result.now c.batch.inside.lanes.items c.index_mut.result.now c.self.invariant.lanes below worker place c.index_mut-batch.ensures.value c.batch.view_is c.index_mut.ensures.value in
    let row = ap (λ (l : LaneView). l.row) lane ∙ sym (rows_are crew.batches.items (length crew.plans.now.plans) c.args.cpu.0 below) ∙ ap (λ (view : CrewView). row_at view.rows c.args.cpu.0) c.self.view_is in
    c.requires.own ∙ sym row

pub returns-clause-seen : goal.returns-clause-seen
returns-clause-seen c =
    let crew = c.self.inside in
    let below = subst (λ (view : CrewView). c.args.cpu.0 < length view.plans.plans) (sym c.self.view_is) c.requires.cpu in
    let many : c.len.result ≡ length crew.batches.items = search rules in
    let worker = c.of-at.ensures.worker ∙ ap (λ n. c.args.cpu.0 % n) many in
    let place = c.of-at.ensures.place ∙ ap (λ n. c.args.cpu.0 / n) many in
    let lane = lane_at_places crew.plans.now crew.batches.items crew.ticks crew.out crew.room c.args.cpu.0 c.of-at.result.worker c.of-at.result.place c.index_mut-batch.result.now c.batch.inside.lanes.items c.index_mut.result.now c.self.invariant.lanes below worker place c.index_mut-batch.ensures.value c.batch.view_is c.index_mut.ensures.value in
    let made = ap (λ (l : LaneView). l.on.made) lane ∙ ap (λ (on : OnPlan). on.made) (sym (clocks_are crew.batches.items (length crew.plans.now.plans) c.args.cpu.0 below)) ∙ ap (λ (view : CrewView). (clocks_at view.clocks c.args.cpu.0).made) c.self.view_is in
    subst (λ n. c.args.reader.now.knows.seen ≤ n) made c.settle.ensures.seen
