use Rattle.std.proofs.Common.{◌≡◌}
use Rattle.kill_engine.specs.Killers.{IsStanding}
use Rattle.rule_tests.proofs.kills.assert_kills.Given as goal

-- the killer had the last reading, and represents readings of its groups
abbrev pub invariant-rows : goal.invariant-rows
invariant-rows g l = record {
  last : l.killer.last ≡ l.rig.last;
  stands : IsStanding l.killer l.rig.reading.lives;
}
