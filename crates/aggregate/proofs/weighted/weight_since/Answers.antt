use Rattle.std.proofs.Common.{◌-◌, ◌/◌, arith, ap, sym}
use Rattle.pressure_spec.proofs.ShareLaws.{get_or-zip_with}
use Rattle.aggregate.proofs.weighted.weight_since.Goals as goal

pub returns : goal.returns
returns c = ap (λ n. n / 1000000) (sym (get_or-zip_with (λ time earlier. time - earlier) c.args.now.now c.args.before.now 6 0 0 0 (omega arith) (omega arith)))
