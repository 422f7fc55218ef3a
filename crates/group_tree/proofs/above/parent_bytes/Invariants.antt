use Rattle.std.proofs.Common.{◌≤◌, length}
use Rattle.group_tree.proofs.Slashes.{HasNoSlash}
use Rattle.group_tree.proofs.above.parent_bytes.Given as goal

abbrev pub invariant-back : goal.invariant-back
invariant-back l = record { inside : l.end ≤ length l.path; none : HasNoSlash l.path l.end }

abbrev pub decreases-back : goal.decreases-back
decreases-back l = l.end
