use Rattle.std.proofs.Common.{◌-◌, arith}
use Rattle.pressure_spec.proofs.ShareLaws.{zip_with_all}
use Rattle.aggregate.proofs.weighted.growth.Goals as goal

pub returns : goal.returns
returns c = zip_with_all (λ time earlier. time - earlier) c.args.now.now c.args.before.now c.each.growth 8 0 0 0 (omega arith) (omega arith) (omega arith) (λ k below. c.each.invariant.done k (omega arith))
