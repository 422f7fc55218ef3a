use Rattle.std.proofs.Common.{◌≡◌, length}
use Rattle.rule_tests.proofs.victims.assert_kills.Given as goal

-- the past is of the groups of the reading
abbrev pub invariant-rows : goal.invariant-rows
invariant-rows g l = length l.past.sizes ≡ length l.rig.reading.lives
