use Rattle.std.proofs.Common.{◌≡◌, ◌≤◌, length}
use Rattle.group_tree.specs.Tree.{paths_and_slots}
use Rattle.group_tree.proofs.Ordered.{live_rest}
use Rattle.group_tree.proofs.order.live_by_path.Given as goal

abbrev pub invariant-groups : goal.invariant-groups
invariant-groups l = record { inside : l.left ≤ length l.lives; done : paths_and_slots l.groups.entries ≡ live_rest l.lives l.left }

abbrev pub decreases-groups : goal.decreases-groups
decreases-groups l = l.left
