use Rattle.std.proofs.Common.{◌≡◌, ◌<◌, length, arith, sym, ap, ◌∙◌, subst, [], ◌∷◌}
use Rattle.std.proofs.lemmas.List.{length-append, length-map}
use Rattle.psi_spec.specs.declared.machine.GroupLife.{GroupLife}
use Rattle.psi_spec.specs.Stall.{number_of_slot}
use Rattle.plan_laws.specs.Plan.{IsPlan, no_plan}
use Rattle.proc_plan.specs.Clocks.{OnPlan}
use Rattle.proc_plan.specs.Plans.{plan_at}
use Rattle.replay_workers.specs.Crew.{clocks_at}
use Rattle.replay_workers.proofs.Steps.{each_more}
use Rattle.replay_workers.proofs.clocks.first_clocks.Goals as goal

pub cpus-preserved : goal.cpus-preserved
cpus-preserved c =
    let i = c.cpus.invariant in
    let plans = c.args.plans.now in
    let nobody : OnPlan = record { plan = no_plan; made = 0 } in
    let items = c.in_ok-push.ensures.items in
    let here : c.in_ok-make.field-0 ≡ record { plan = plan_at plans (length c.cpus.clocks.items); made = 0 } =
    c.in_ok-make.ensures ∙ ap (λ plan. let on : OnPlan = record { plan = plan; made = 0 } in on) (c.plan.ensures.plan ∙ ap (plan_at plans) (sym i.each)) in
    let whole : IsPlan (plan_at plans (length c.cpus.clocks.items)) = subst IsPlan (c.plan.ensures.plan ∙ ap (plan_at plans) (sym i.each)) c.plan.ensures.whole in
    let slots : length (plan_at plans (length c.cpus.clocks.items)).parents ≡ length plans.lives =
    ap (λ n. length (plan_at plans n).parents) i.each ∙ sym (ap (λ plan. length plan.parents) c.plan.ensures.plan) ∙ ap length c.plan.ensures.parents ∙ length-map plans.lives (λ (group : GroupLife). number_of_slot group.parent) in
    record {
      each = ap length items ∙ length-append c.cpus.clocks.items (c.in_ok-make.field-0 ∷ []) ∙ omega (arith, i.each);
      fresh = λ cpu below. ap (λ xs. clocks_at xs cpu) items ∙ each_more (λ k on. on ≡ record { plan = plan_at plans k; made = 0 }) c.cpus.clocks.items c.in_ok-make.field-0 nobody i.fresh here cpu (subst (λ xs. cpu < length xs) items below);
      whole = λ cpu below. each_more (λ k on. IsPlan (plan_at plans k)) c.cpus.clocks.items c.in_ok-make.field-0 nobody i.whole whole cpu (subst (λ xs. cpu < length xs) items below);
      slots = λ cpu below. each_more (λ k on. length (plan_at plans k).parents ≡ length plans.lives) c.cpus.clocks.items c.in_ok-make.field-0 nobody i.slots slots cpu (subst (λ xs. cpu < length xs) items below);
    }
