use Rattle.std.proofs.Common.{ap, sym, ◌∙◌, arith, nat_lt, Some}
use Rattle.std.specs.Prelude.{slice_index_or}
use Rattle.std.specs.Option.{unwrap_or}
use Rattle.psi_spec.specs.Refusal.{has_child}
use Rattle.group_tree.proofs.Counting.{some_child}
use Rattle.group_tree.proofs.tree.Tree.has_child.Goals as goal

pub returns : goal.returns
returns c =
    let count = c.unwrap_or.ensures ∙ ap (λ o. unwrap_or o 0) c.copied.ensures ∙ c.get.ensures.lookup.4 (omega arith) 0 ∙ ap (λ xs. slice_index_or xs c.args.slot.0 0) c.deref.ensures.value ∙ c.self.invariant.counted c.args.slot.0 in
    ap (nat_lt 0) count ∙ sym (some_child c.self.inside.lives.items c.args.slot.0) ∙ ap (λ groups. has_child groups (Some c.args.slot.0)) c.self.view_is
