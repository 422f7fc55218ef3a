use Rattle.std.proofs.Common.{◌<◌, [], length, arith}
use Rattle.std.proofs.lemmas.List.{get_or_default}
use Rattle.aggregate.proofs.Weights.{divided, summed_more}
use Rattle.aggregate.proofs.weighted.share.Goals as goal

pub add_weighted-requires-clause-sums : goal.add_weighted-requires-clause-sums
add_weighted-requires-clause-sums c = λ k d below.
    let most = c.rows.invariant.summed.sums_fit k (omega (arith, c.rows.invariant.seven, below)) in
    rw (get_or_default c.rows.sums k d 0 below) (omega (arith, most))

pub rows-preserved : goal.rows-preserved
rows-preserved c =
    let rows = c.args.deltas.now in
    let i = c.rows.times-index in
    let here : i < length rows = c.rows-test.true in
    record {
      seven = c.add_weighted.array_long;
      summed = summed_more rows i c.rows.sums c.add_weighted.new.sums c.rows.weights here (c.requires.short i [] here) c.rows.invariant.summed c.add_weighted.ensures;
    }

pub returns : goal.returns
returns c = divided c.args.deltas.now c.rows.times-index c.rows.sums c.rows.weights c.max-divisor.result c.divide.new.sums c.rows-test.false c.rows.invariant.seven c.rows.invariant.summed c.max-divisor.ensures c.divide.ensures
