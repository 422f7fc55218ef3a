use Rattle.std.proofs.Common.{◌≡◌}
use Rattle.rule_tests.proofs.rig.put_groups.Given as goal

-- the groups leave the rest of the reading
abbrev pub invariant-groups : goal.invariant-groups
invariant-groups g l = record {
  lives : l.reading.lives ≡ l.fn.reading.lives;
  at : l.reading.seen.at ≡ l.fn.reading.seen.at;
}
