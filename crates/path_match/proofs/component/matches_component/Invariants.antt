use Rattle.std.proofs.Common.{length, ◌-◌, ◌+◌, ◌*◌, ◌≤◌}
use Rattle.path_match.proofs.Walk.{Walked, run_end}
use Rattle.path_match.proofs.component.matches_component.Given as goal

abbrev pub invariant-walk : goal.invariant-walk
invariant-walk l = record {
  at_inside : l.at ≤ length l.pattern;
  next_inside : l.next ≤ length l.bytes;
  walked : Walked l.pattern l.bytes l.at l.next l.star;
}

abbrev pub decreases-walk : goal.decreases-walk
decreases-walk l = (length l.bytes - run_end l.star) * (length l.pattern + 1) + (length l.pattern - l.at)
