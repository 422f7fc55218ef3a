use Rattle.std.proofs.Common.{◌≡◌, length}
use Rattle.pressure_spec.specs.Samples.{growths}
use Rattle.aggregate.proofs.Weights.{AreSummed}
use Rattle.aggregate.proofs.weighted.share_since.Given as goal

abbrev pub invariant-rows : goal.invariant-rows
invariant-rows l = record {
  seven : length l.sums ≡ 7;
  summed : AreSummed (growths l.before l.now) l.cpu l.sums l.total;
}
