use Rattle.std.proofs.Common.{length, subst, sym, ap, ◌<◌, ◌≡◌, ◌∙◌, arith}
use Rattle.std.specs.Prelude.{None, slice_index_or}
use Rattle.std.proofs.lemmas.List.{get_or-map, length-map}
use Rattle.plan_laws.specs.Plan.{PlanView}
use Rattle.psi_spec.specs.Stall.{number_of_slot}
use Rattle.slot_clocks.specs.Clocks.{parent_numbers}
use Rattle.proc_plan.proofs.PlanReads.{root_alone}
use Rattle.proc_plan.proofs.plan.Plan.parent.Goals as goal

pub returns-clause-root : goal.returns-clause-root
returns-clause-root c =
    let room = subst (λ (p : PlanView). c.args.slot.0 < length p.parents) (sym c.self.view_is) c.requires.made in
    let inside : c.args.slot.0 < length c.self.inside.parents.items = omega (arith, room, length-map c.self.inside.parents.items number_of_slot) in
    let known : number_of_slot c.index.result.now ≡ slice_index_or (parent_numbers c.self.inside.parents.items) c.args.slot.0 None = ap number_of_slot c.index.ensures ∙ sym (get_or-map number_of_slot c.self.inside.parents.items c.args.slot.0 c.index.result.now None inside) in
    root_alone (parent_numbers c.self.inside.parents.items) c.args.slot.0 c.index.result.now c.self.invariant.older c.self.invariant.parented room known
