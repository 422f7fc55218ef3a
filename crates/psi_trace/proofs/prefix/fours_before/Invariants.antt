use Rattle.std.proofs.Common.{◌-◌, ◌^◌, ◌<◌, ◌≤◌}
use Rattle.psi_trace.specs.Prefix.{AreDigits}
use Rattle.psi_trace.proofs.prefix.fours_before.Given as goal

abbrev pub invariant-fours : goal.invariant-fours
invariant-fours l = record {
  are : AreDigits l.bytes l.number l.count;
  below : l.number < 10 ^ l.count;
  few : l.count ≤ 19;
}

abbrev pub decreases-fours : goal.decreases-fours
decreases-fours l = 19 - l.count
