use Rattle.std.proofs.Common.{◌-◌, ◌^◌, ◌<◌, ◌≤◌}
use Rattle.psi_trace.specs.Prefix.{AreDigits}
use Rattle.psi_trace.proofs.prefix.continue_digits.Given as goal

abbrev pub invariant-digits : goal.invariant-digits
invariant-digits l = record {
  are : AreDigits l.bytes l.number l.count;
  below : l.number < 10 ^ l.count;
  few : l.count ≤ 19;
}

abbrev pub decreases-digits : goal.decreases-digits
decreases-digits l = 19 - l.count
