use Rattle.std.proofs.Common.{◌≡◌, ◌∷◌, ap, sym, ◌∙◌, arith}
use Rattle.group_tree.specs.Tree.{chain_from}
use Rattle.group_tree.proofs.Chains.{chain_step}
use Rattle.group_tree.proofs.chain.ChainIterator.next.Goals as goal

pub returns-clause-steps : goal.returns-clause-steps
returns-clause-steps c =
    sym c.self.view_is ∙ ap (chain_from c.self.inside.lives.now) c.in-Some.is ∙ chain_step c.self.inside.lives.now c.in-Some.slot _ c.self.invariant.0 c.parent_of-self-inside.ensures

pub returns-clause-goes : goal.returns-clause-goes
returns-clause-goes c =
    let steps : c.args.self.now ≡ c.in-Some.slot ∷ chain_from c.self.inside.lives.now c.parent_of-self-inside.result =
    sym c.self.view_is ∙ ap (chain_from c.self.inside.lives.now) c.in-Some.is ∙ chain_step c.self.inside.lives.now c.in-Some.slot _ c.self.invariant.0 c.parent_of-self-inside.ensures in
    rw steps (omega arith)
