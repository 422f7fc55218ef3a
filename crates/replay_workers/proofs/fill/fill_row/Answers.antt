use Rattle.std.proofs.Common.{◌≡◌, ◌+◌, ◌*◌, ◌<◌, ap, arith, length, subst, sym, ◌∙◌}
use Rattle.aggregate.specs.Table.{HasSizes}
use Rattle.aggregate.proofs.TableLaws.{keeps_sizes}
use Rattle.proc_plan.specs.Plans.{plan_at}
use Rattle.replay_workers.specs.Crew.{times_by}
use Rattle.replay_workers.specs.Lanes.{LaneView, kept_at, lane_of}
use Rattle.replay_workers.proofs.Dealt.{lane_of_place, place_few, place_there}
use Rattle.replay_workers.proofs.Steps.{place_fits, row_more}
use Rattle.replay_workers.proofs.fill.fill_row.Goals as goal

pub overflow_add-place : goal.overflow_add-place
overflow_add-place c =
    let slots : c.len-slots.result ≡ length c.args.plans.now.lives = c.len-slots.ensures.len ∙ ap length c.groups.ensures.lives in
    let fits = place_fits c.args.tick c.len-slots.result c.args.slot.0 c.ranges.tick.fits (omega (arith, c.len-slots.ensures.few)) (omega (arith, slots, c.requires.slot)) in
    omega (arith, fits)

pub lane-requires-clause-place : goal.lane-requires-clause-place
lane-requires-clause-place c =
    let i = c.cpus.invariant in
    let below : c.cpus.cpu < length c.args.plans.now.plans = omega (arith, c.cpus-test.true, c.cpus-cpus.ensures.cpus) in
    place_there c.args.plans.now c.args.batches.now c.args.tick c.requires.unchanged.0 c.cpus.at.worker c.cpus.at.place c.cpus.cpu c.requires.unchanged.1 below i.worker i.next

pub bounds-kept-place : goal.bounds-kept-place
bounds-kept-place c =
    let i = c.cpus.invariant in
    let plans = c.args.plans.now in
    let batches = c.args.batches.now in
    let slots : c.len-slots.result ≡ length plans.lives = c.len-slots.ensures.len ∙ ap length c.groups.ensures.lives in
    let below : c.cpus.cpu < length plans.plans = omega (arith, c.cpus-test.true, c.cpus-cpus.ensures.cpus) in
    let lane = c.requires.unchanged.1 c.cpus.cpu below in
    let own = c.lane.ensures ∙ sym (lane_of_place batches c.cpus.at.worker c.cpus.at.place i.worker) ∙ ap (lane_of batches) i.next in
    let same = ap (λ (l : LaneView). length l.kept) own in
    let kept = ap length c.kept.ensures in
    let place : c.args.tick * c.len-slots.result ≡ c.args.tick * length plans.lives = ap (λ n. c.args.tick * n) slots in
    omega (arith, lane.room, c.requires.slot, same, kept, place)

pub next-at-requires-clause-few : goal.next-at-requires-clause-few
next-at-requires-clause-few c =
    let i = c.cpus.invariant in
    place_few (length c.args.batches.now) c.cpus.at.place c.cpus.at.worker c.cpus.cpu i.worker i.next (omega (arith, c.cpus-test.true, c.cpus-cpus.ensures.counted))

pub cpus-preserved : goal.cpus-preserved
cpus-preserved c =
    let i = c.cpus.invariant in
    let plans = c.args.plans.now in
    let batches = c.args.batches.now in
    let slots : c.len-slots.result ≡ length plans.lives = c.len-slots.ensures.len ∙ ap length c.groups.ensures.lives in
    let below : c.cpus.cpu < length plans.plans = omega (arith, c.cpus-test.true, c.cpus-cpus.ensures.cpus) in
    let own = c.lane.ensures ∙ sym (lane_of_place batches c.cpus.at.worker c.cpus.at.place i.worker) ∙ ap (lane_of batches) i.next in
    let same : c.kept.result.now ≡ (lane_of batches c.cpus.cpu).kept = c.kept.ensures ∙ ap (λ (l : LaneView). l.kept) own in
    record {
      worker = c.next-at.ensures.worker;
      next = c.next-at.ensures.next ∙ ap (λ n. n + 1) i.next;
      sizes = subst (HasSizes (length plans.plans) (length plans.lives)) (sym c.set.ensures) (keeps_sizes.set (length plans.plans) (length plans.lives) c.cpus.rows c.args.slot.0 c.cpus.cpu _ i.sizes);
      filled = λ at kept.
          let lane = kept c.cpus.cpu below in
          let times : kept_at c.kept.result.now c.len-slots.result c.args.tick c.args.slot.0 ≡ times_by (plan_at plans c.cpus.cpu) c.args.slot.0 at =
          ap (λ xs. kept_at xs c.len-slots.result c.args.tick c.args.slot.0) same ∙ ap (λ n. kept_at (lane_of batches c.cpus.cpu).kept n c.args.tick c.args.slot.0) slots ∙ lane.times c.args.slot.0 c.requires.slot in
          row_more plans c.args.rows.now c.cpus.rows c.set.new.self c.args.slot.0 c.cpus.cpu at _ i.sizes (i.filled at kept) c.requires.slot below c.set.ensures times;
    }

pub returns-clause-filled : goal.returns-clause-filled
returns-clause-filled c = λ at kept.
    let filled = c.cpus.invariant.filled at kept in
    record {
      here = λ cpu below. filled.here cpu (omega (arith, below, c.cpus-cpus.ensures.cpus));
      others = filled.others;
    }
