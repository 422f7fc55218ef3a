use Rattle.std.proofs.Common.{◌<◌, ap, length, subst, sym, ◌∙◌}
use Rattle.proc_plan.specs.Clocks.{OnPlan}
use Rattle.replay_workers.specs.Crew.{CrewView, clocks_at}
use Rattle.replay_workers.specs.Lanes.{LaneView, lane_of}
use Rattle.replay_workers.proofs.Dealt.{clocks_are, lane_there}
use Rattle.replay_workers.proofs.crew.Crew.count.Goals as goal

pub lane_in-requires-clause-place : goal.lane_in-requires-clause-place
lane_in-requires-clause-place c =
    let crew = c.self.inside in
    let below = subst (λ (view : CrewView). c.args.cpu.0 < length view.plans.plans) (sym c.self.view_is) c.requires in
    rw c.deref.ensures.value (lane_there crew.plans.now crew.batches.items crew.ticks crew.out crew.room c.args.cpu.0 c.self.invariant.lanes below)

pub returns : goal.returns
returns c =
    let crew = c.self.inside in
    let below = subst (λ (view : CrewView). c.args.cpu.0 < length view.plans.plans) (sym c.self.view_is) c.requires in
    c.count.ensures ∙ ap (λ (lane : LaneView). lane.on.made) (c.lane_in.ensures ∙ ap (λ batches. lane_of batches c.args.cpu.0) c.deref.ensures.value)
    ∙ ap (λ (on : OnPlan). on.made) (sym (clocks_are crew.batches.items (length crew.plans.now.plans) c.args.cpu.0 below))
    ∙ ap (λ (view : CrewView). (clocks_at view.clocks c.args.cpu.0).made) c.self.view_is
