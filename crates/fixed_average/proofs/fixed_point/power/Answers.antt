use Rattle.std.proofs.Common.{◌≡◌, arith, sym, ◌∙◌, ap}
use Rattle.pressure_spec.specs.Average.{power_from}
use Rattle.pressure_spec.proofs.AverageLaws.{power_from_step, power_from_zero}
use Rattle.fixed_average.proofs.fixed_point.power.Goals as goal
use Rattle.fixed_average.proofs.fixed_point.power.Goals.{then-rest-eq1, else-rest-eq1}

pub digits-preserved : goal.digits-preserved
digits-preserved c =
    let step = power_from_step c.digits.result c.digits.base c.digits.rest (omega arith) in
    record {
      power = elim c.if-rest-eq1.branch [ then-rest-eq1 w ↦ grind (arith, step) | else-rest-eq1 w ↦ grind (arith, step) ];
      result = elim c.if-rest-eq1.branch [ then-rest-eq1 w ↦ omega arith | else-rest-eq1 w ↦ omega arith ];
      base = c.product-base.ensures.most;
    }

pub returns-clause-value : goal.returns-clause-value
returns-clause-value c =
    let none : c.digits.rest ≡ 0 = omega arith in
    sym (power_from_zero c.digits.result c.digits.base) ∙ ap (power_from c.digits.result c.digits.base) (sym none) ∙ c.digits.invariant.power
