use Rattle.std.proofs.Common.{◌≡◌}
use Rattle.psi_spec.specs.Stall.{parents_of, is_under}
use Rattle.group_tree.proofs.tree.Tree.is_under.Given as goal

abbrev pub invariant-climb : goal.invariant-climb
invariant-climb l = is_under (parents_of l.self) l.at.0 l.high.0 ≡ is_under (parents_of l.self) l.fn.low.0 l.high.0

abbrev pub decreases-climb : goal.decreases-climb
decreases-climb l = l.at.0
