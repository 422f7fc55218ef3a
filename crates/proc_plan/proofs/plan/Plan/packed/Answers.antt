use Rattle.std.proofs.Common.{◌≡◌, ◌-◌, ◌<◌, ◌≤◌, ◌∙◌, arith, ap, sym, subst, length, Some}
use Rattle.std.specs.Prelude.{slice_index_or}
use Rattle.std.proofs.lemmas.Option.{slice_get-get_or}
use Rattle.plan_laws.specs.Plan.{PlanView}
use Rattle.proc_plan.proofs.plan.Plan.packed.Goals as goal

pub returns-clause-one : goal.returns-clause-one
returns-clause-one c =
    let list = c.self.inside.changes.list in
    let within : c.args.k ≤ length list = subst (λ (p : PlanView). c.args.k ≤ length p.changes) (sym c.self.view_is) c.requires.to in
    let room : c.args.k - 1 < length list = omega (arith, within, c.requires.from) in
    let read : c.index-all-k.result ≡ slice_index_or list (c.args.k - 1) c.index-all-k.result = c.index-all-k.is ∙ ap (λ all. slice_index_or all (c.args.k - 1) c.index-all-k.result) c.all.ensures in
    c.self.invariant.ones (c.args.k - 1) c.index-all-k.result (slice_get-get_or list (c.args.k - 1) c.index-all-k.result room ∙ ap Some (sym read))
