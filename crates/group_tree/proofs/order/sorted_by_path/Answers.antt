use Rattle.std.proofs.Common.{rules, is_lt}
use Rattle.std.specs.Ordering.{nat_cmp}
use Rattle.std.specs.Cmp.Lexicographic.{slice_cmp, nat_list_cmp_total}
use Rattle.std.proofs.lemmas.List.Sorted.{ranks_by}
use Rattle.std.proofs.lemmas.Fn.{always_returns_same}
use Rattle.psi_base.specs.declared.event.Slot.{Slot}
use Rattle.psi_spec.specs.Groups.{path_at}
use Rattle.group_tree.proofs.order.sorted_by_path.Goals as goal

pub returns-clause-sorted : goal.returns-clause-sorted
returns-clause-sorted c =
    c.sort_unstable_by.ensures.sorted (λ (x y : Slot). is_lt (slice_cmp nat_cmp (path_at c.args.lives.now x.0) (path_at c.args.lives.now y.0)))
    (ranks_by nat_list_cmp_total (λ (slot : Slot). path_at c.args.lives.now slot.0)) (always_returns_same _ _ _ (λ a r g h. search rules))
