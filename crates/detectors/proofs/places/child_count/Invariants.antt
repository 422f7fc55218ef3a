use Rattle.std.proofs.Common.{◌≡◌, ◌≤◌, ◌+◌, drop}
use Rattle.detectors.specs.Inner.{child_count}
use Rattle.detectors.proofs.places.child_count.Given as goal

abbrev pub invariant-lives : goal.invariant-lives
invariant-lives l = record {
  count : l.count + child_count (drop l.life-index l.lives) l.slot.0 ≡ child_count l.lives l.slot.0;
  few : l.count ≤ l.life-index;
}
