use Rattle.std.proofs.Common.{◌+◌, ◌≤◌, get_or, arith}
use Rattle.psi_spec.specs.Within.{last_moment}
use Rattle.pressure_spec.specs.Share.{plus}
use Rattle.pressure_spec.specs.Within.{most_irq_total}
use Rattle.pressure_spec.proofs.ShareLaws.{zip_with_all, get_or-zip_with}
use Rattle.pressure_spec.proofs.WithinLaws.{amount_most}
use Rattle.aggregate.proofs.totals.add_each.Goals as goal

pub overflow_add-sums : goal.overflow_add-sums
overflow_add-sums c =
    let sum = get_or-zip_with (λ x y. x + y) c.args.sums.now c.args.shares.now c.each.i 0 0 0 (omega arith) (omega arith) in
    let left = c.each.invariant.left c.each.i (omega arith) in
    let fits : get_or (plus c.args.sums.now c.args.shares.now) c.each.i 0 ≤ most_irq_total = amount_most (plus c.args.sums.now c.args.shares.now) last_moment most_irq_total c.each.i c.requires (omega arith) (omega arith) in
    omega (arith, sum, fits, left)

pub returns : goal.returns
returns c = zip_with_all (λ x y. x + y) c.args.sums.now c.args.shares.now c.each.sums 7 0 0 0 (omega arith) (omega arith) (omega arith) (λ k below. c.each.invariant.done k (omega arith))
