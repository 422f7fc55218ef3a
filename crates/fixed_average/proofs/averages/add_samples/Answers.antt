use Rattle.std.proofs.Common.{◌+◌, arith}
use Rattle.pressure_spec.proofs.ShareLaws.{zip_with_all}
use Rattle.fixed_average.proofs.averages.add_samples.Goals as goal

pub returns : goal.returns
returns c = zip_with_all (λ sampled sample. sampled + sample) c.args.sampled.now c.args.samples.now c.each.sampled 7 0 0 0 (omega arith) (omega arith) (omega arith) (λ k below. c.each.invariant.done k (omega arith))
