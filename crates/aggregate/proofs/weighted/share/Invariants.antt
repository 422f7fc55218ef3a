use Rattle.std.proofs.Common.{◌≡◌, length}
use Rattle.aggregate.proofs.Weights.{AreSummed}
use Rattle.aggregate.proofs.weighted.share.Given as goal

abbrev pub invariant-rows : goal.invariant-rows
invariant-rows l = record {
  seven : length l.sums ≡ 7;
  summed : AreSummed l.deltas l.times-index l.sums l.weights;
}
