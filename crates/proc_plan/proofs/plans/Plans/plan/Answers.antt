use Rattle.std.proofs.Common.{length, subst, sym, ◌<◌, ◌∙◌}
use Rattle.std.proofs.lemmas.List.{get_or_default}
use Rattle.plan_laws.specs.Plan.{IsPlan, no_plan}
use Rattle.proc_plan.specs.Plans.{PlansView}
use Rattle.proc_plan.proofs.plans.Plans.plan.Goals as goal

pub returns-clause-whole : goal.returns-clause-whole
returns-clause-whole c =
    let below = subst (λ (p : PlansView). c.args.cpu.0 < length p.plans) (sym c.self.view_is) c.requires in
    subst IsPlan (get_or_default c.self.inside.plans.items c.args.cpu.0 no_plan c.index.result.now below ∙ sym c.index.ensures) (c.self.invariant.whole c.args.cpu.0 below)
