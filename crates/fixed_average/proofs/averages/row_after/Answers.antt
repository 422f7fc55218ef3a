use Rattle.std.proofs.Common.{arith, refl}
use Rattle.pressure_spec.specs.Average.{average_after, factors}
use Rattle.pressure_spec.proofs.ShareLaws.{zip_with_all}
use Rattle.fixed_average.proofs.averages.row_after.Goals as goal

pub returns-clause-value : goal.returns-clause-value
returns-clause-value c = zip_with_all (average_after c.args.missed c.args.percent) c.args.row.now factors c.each.after 3 0 0 0 (omega arith) refl (omega arith) (λ k below. c.each.invariant.each k (omega arith))
