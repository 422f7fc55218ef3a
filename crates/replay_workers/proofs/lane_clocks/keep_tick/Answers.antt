use Rattle.std.proofs.Common.{◌≡◌, ◌≤◌, ◌+◌, ◌*◌, ap, arith, refl, subst, sym, ◌∙◌}
use Rattle.plan_laws.specs.Plan.{IsPlan, last_change}
use Rattle.replay_workers.specs.Crew.{planned_with_irq, times_by}
use Rattle.replay_workers.proofs.Steps.{kept_more}
use Rattle.replay_workers.proofs.lane_clocks.keep_tick.Goals as goal

pub own_times-requires-clause-whole : goal.own_times-requires-clause-whole
own_times-requires-clause-whole g c = subst IsPlan (sym c.slots.invariant.plan) c.requires.whole

pub own_times-requires-clause-past : goal.own_times-requires-clause-past
own_times-requires-clause-past g c =
    let i = c.slots.invariant in
    let past : last_change (g.C.ProcClocks.plan c.slots.clocks) (g.C.ProcClocks.made c.slots.clocks) ≤ c.args.at = rw (i.plan, i.made) c.requires.past in
    past

pub slots-preserved : goal.slots-preserved
slots-preserved g c =
    let i = c.slots.invariant in
    let plan = g.C.ProcClocks.plan c.args.clocks.now in
    let made = g.C.ProcClocks.made c.args.clocks.now in
    let here : c.own_times.result ≡ planned_with_irq plan c.slots.slot made c.args.at = rw (← i.plan, ← i.made) c.own_times.ensures.times in
    let times : c.own_times.result ≡ times_by plan c.slots.slot c.args.at = here ∙ ap (λ n. planned_with_irq plan c.slots.slot n c.args.at) c.requires.all in
    record {
      plan = c.own_times.ensures.plan ∙ i.plan;
      made = c.own_times.ensures.made ∙ i.made;
      home = c.own_times.ensures.home ∙ i.home;
      kept = kept_more c.args.kept.now c.slots.kept c.args.slots c.args.tick c.slots.slot plan c.args.at (c.args.tick * c.args.slots + c.slots.slot) c.own_times.result i.kept (omega (arith, c.slots-test.true)) c.requires.room refl times;
    }
