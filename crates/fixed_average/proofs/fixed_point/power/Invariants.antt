use Rattle.std.proofs.Common.{◌≡◌, ◌≤◌}
use Rattle.pressure_spec.specs.Average.{power_from}
use Rattle.fixed_average.proofs.fixed_point.power.Given as goal

-- The loop invariant: the current result, multiplied by the remaining power, is the power of `x`.
abbrev pub invariant-digits : goal.invariant-digits
invariant-digits l = record {
  power : power_from l.result l.base l.rest ≡ power_from 2048 l.fn.x l.fn.n;
  result : l.result ≤ 2048;
  base : l.base ≤ 2048;
}

abbrev pub decreases-digits : goal.decreases-digits
decreases-digits l = l.rest
