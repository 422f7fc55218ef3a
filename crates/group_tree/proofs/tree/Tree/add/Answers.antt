use Rattle.std.proofs.Common.{◌++◌, ◌∷◌, [], subst, sym, ◌∙◌}
use Rattle.psi_spec.specs.World.{new_group}
use Rattle.psi_spec.specs.LegalGroups.{AreGroups}
use Rattle.group_tree.proofs.Changes.{may_add}
use Rattle.group_tree.proofs.tree.Tree.add.Goals as goal

pub push_group-requires-clause-legal : goal.push_group-requires-clause-legal
push_group-requires-clause-legal c =
    let legal = subst AreGroups c.self.view_is c.self.invariant.legal in
    let more = may_add c.args.self.now c.args.path.now c.args.at (sym c.add_cause.ensures ∙ c.in_default.is) legal in
    rw c.in_ok-life.ensures (subst (λ groups. AreGroups (groups ++ new_group c.args.self.now c.args.path.now c.args.at ∷ [])) (sym c.self.view_is) more)
