use Rattle.std.proofs.Common.{◌≡◌, ◌≤◌, ◌*◌, ◌^◌, sum, take}
use Rattle.victim_rank.proofs.growth.sum.Given as goal

abbrev pub invariant-sizes : goal.invariant-sizes
invariant-sizes l = record {
  sum : l.total ≡ sum (take l.size-index l.sizes);
  fits : l.total ≤ l.size-index * 2 ^ 60;
}
