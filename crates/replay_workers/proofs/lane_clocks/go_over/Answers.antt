use Rattle.std.proofs.Common.{◌≡◌, ◌≤◌, ◌+◌, ◌-◌, ap, arith, subst, ◌∙◌}
use Rattle.plan_laws.specs.Plan.{changes_up_to, last_change}
use Rattle.replay_workers.specs.Crew.{moment_in}
use Rattle.replay_workers.specs.Lanes.{KeepsTick}
use Rattle.plan_laws.proofs.PlanTimes.{changes_more}
use Rattle.replay_workers.proofs.Steps.{keeps_more, moments_rise}
use Rattle.replay_workers.proofs.lane_clocks.go_over.Goals as goal

pub ticks-preserved : goal.ticks-preserved
ticks-preserved g c =
    let i = c.ticks.invariant in
    let plan = c.args.plan.now in
    let ticks = c.args.ticks in
    let j = c.ticks.tick in
    let moment : c.moment-at.result ≡ moment_in ticks j = c.moment-at.ensures in
    let same : g.C.ProcClocks.plan c.make_until.new.clocks ≡ plan = c.make_until.ensures.plan ∙ i.plan in
    let count : c.until.result ≡ changes_up_to plan (moment_in ticks j) = c.until.ensures.until ∙ ap (changes_up_to plan) moment in
    let made : g.C.ProcClocks.made c.keep_tick.new.clocks ≡ changes_up_to plan (moment_in ticks j) = c.keep_tick.ensures.made ∙ c.make_until.ensures.made ∙ count in
    let later = changes_more plan (moment_in ticks j) (moment_in ticks (j + 1)) (moments_rise ticks j (j + 1) (omega arith)) in
    let back : j ≡ j + 1 - 1 = omega arith in
    let past : last_change plan (changes_up_to plan (moment_in ticks j)) ≤ moment_in ticks j = subst (λ n. last_change plan n ≤ moment_in ticks j) count (subst (λ at. last_change plan c.until.result ≤ at) moment c.until.ensures.past) in
    record {
      plan = c.keep_tick.ensures.plan ∙ same;
      home = c.keep_tick.ensures.home ∙ c.make_until.ensures.home ∙ i.home;
      not_past = omega (arith, made, later);
      there = λ _. made ∙ ap (λ n. changes_up_to plan (moment_in ticks n)) back;
      past = λ _. subst (λ n. last_change plan (changes_up_to plan (moment_in ticks n)) ≤ moment_in ticks n) back past;
      size = c.keep_tick.ensures.keeps.size ∙ i.size;
      keeps = keeps_more c.ticks.kept c.keep_tick.new.kept plan ticks j c.moment-at.result i.keeps (subst (λ p. KeepsTick c.ticks.kept c.keep_tick.new.kept j p c.moment-at.result) same c.keep_tick.ensures.keeps) moment;
    }
