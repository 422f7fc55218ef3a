use Rattle.std.proofs.Common.{arith}
use Rattle.pressure_spec.specs.Average.{sample_of}
use Rattle.pressure_spec.proofs.ShareLaws.{zip_with_all}
use Rattle.fixed_average.proofs.averages.samples_of.Goals as goal

pub returns-clause-value : goal.returns-clause-value
returns-clause-value c = zip_with_all (sample_of c.args.time) c.args.sampled.now c.args.totals.now c.each.samples 7 0 0 0 (omega arith) (omega arith) (omega arith) (λ k below. c.each.invariant.each k (omega arith))
