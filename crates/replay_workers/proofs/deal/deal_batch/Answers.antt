use Rattle.std.proofs.Common.{◌≡◌, ◌+◌, ◌*◌, ◌<◌, [], ◌∷◌, ap, arith, length, subst, sym, ◌∙◌}
use Rattle.std.specs.Prelude.{is_some}
use Rattle.std.proofs.lemmas.List.{length-append}
use Rattle.proc_plan.specs.Clocks.{OnPlan}
use Rattle.replay_workers.specs.Lanes.{IsLaneOf, LaneView, lane_at, no_lane, no_ticks}
use Rattle.replay_workers.proofs.Dealt.{new_lane}
use Rattle.replay_workers.proofs.Steps.{each_more}
use Rattle.replay_workers.proofs.deal.deal_batch.Goals as goal

pub cpus-preserved : goal.cpus-preserved
cpus-preserved c =
    let i = c.cpus.invariant in
    let plans = c.args.plans.now in
    let workers = c.args.workers in
    let lanes = c.cpus.lanes.items in
    let made = c.in_ok-make.ensures in
    let lane = c.in_ok-make.field-0 in
    let items = c.in_ok-push.ensures.items in
    let place = length lanes * workers + c.args.worker in
    let below : c.cpus.cpu < length plans.plans = omega (arith, c.cpus-test.true, c.cpus-cpus.ensures.cpus) in
    let here : IsLaneOf plans no_ticks c.args.room place lane = new_lane plans c.args.room place c.cpus.cpu lane i.next below made.cpu made.on made.size made.whole made.slots in
    let many = ap length items ∙ length-append lanes (lane ∷ []) in
    let one : (length lanes + 1) * workers ≡ length lanes * workers + workers = grind arith in
    record {
      next = omega (arith, i.next, one) ∙ ap (λ n. n * workers + c.args.worker) (sym many);
      few = omega (arith, c.cpus-test.true, c.cpus-cpus.ensures.counted, c.requires.few);
      each = λ k inside. subst (λ xs. IsLaneOf plans no_ticks c.args.room (k * workers + c.args.worker) (lane_at xs k)) (sym items) (each_more (λ n l. IsLaneOf plans no_ticks c.args.room (n * workers + c.args.worker) l) lanes lane no_lane i.each here k (subst (λ xs. k < length xs) items inside));
      fresh = λ k inside. ap (λ xs. (lane_at xs k).on.made) items ∙ each_more (λ n (l : LaneView). l.on.made ≡ 0) lanes lane no_lane i.fresh (ap (λ (on : OnPlan). on.made) made.on) k (subst (λ xs. k < length xs) items inside);
      rows = λ k inside. ap (λ xs. is_some (lane_at xs k).row) items ∙ each_more (λ n (l : LaneView). is_some l.row ≡ c.args.in_rows) lanes lane no_lane i.rows made.row k (subst (λ xs. k < length xs) items inside);
    }
