use Rattle.std.proofs.Common.{None, ap, sym, ◌∙◌, subst}
use Rattle.std.specs.Prelude.{slice_index_or}
use Rattle.psi_spec.specs.Stall.{number_of_slot, parents_of}
use Rattle.psi_spec.specs.LegalGroups.{AreGroups, leads_to}
use Rattle.group_tree.proofs.Chains.{climb_on, climb_end}
use Rattle.group_tree.proofs.tree.Tree.is_under.Goals as goal

pub returns-in_default : goal.returns-in_default
returns-in_default c =
    let legal = subst AreGroups c.self.view_is c.self.invariant.legal in
    let parent = c.parent_of.ensures ∙ ap (λ groups. slice_index_or (parents_of groups) c.climb.at.0 None) (c.deref.ensures.value ∙ c.self.view_is) in
    let up = climb_on c.args.self.now c.climb.at.0 c.args.high.0 c.parent_of.result legal.older c.climb-test.true parent in
    sym (ap (λ next. leads_to (parents_of c.args.self.now) (number_of_slot next) c.args.high.0) c.in_default.is) ∙ sym up ∙ c.climb.invariant

pub climb-preserved : goal.climb-preserved
climb-preserved c =
    let legal = subst AreGroups c.self.view_is c.self.invariant.legal in
    let parent = c.parent_of.ensures ∙ ap (λ groups. slice_index_or (parents_of groups) c.climb.at.0 None) (c.deref.ensures.value ∙ c.self.view_is) in
    let up = climb_on c.args.self.now c.climb.at.0 c.args.high.0 c.parent_of.result legal.older c.climb-test.true parent in
    sym (ap (λ next. leads_to (parents_of c.args.self.now) (number_of_slot next) c.args.high.0) c.in-Some.is) ∙ sym up ∙ c.climb.invariant

pub returns : goal.returns
returns c =
    let legal = subst AreGroups c.self.view_is c.self.invariant.legal in
    climb_end c.args.self.now c.climb.at.0 c.args.high.0 legal.older c.climb-test.false ∙ c.climb.invariant
