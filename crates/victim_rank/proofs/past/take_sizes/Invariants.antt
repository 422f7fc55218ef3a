use Rattle.std.proofs.Common.{◌≡◌, [], drop}
use Rattle.std.specs.Prelude.{All, map}
use Rattle.victim_rank.specs.Pasts.{AreSizes, sizes_of}
use Rattle.victim_rank.proofs.Tables.{taken, with_size}
use Rattle.victim_rank.proofs.past.take_sizes.Given as goal

abbrev pub invariant-groups : goal.invariant-groups
invariant-groups l = record {
  within : All AreSizes l.sizes;
  rest : taken with_size [] (map sizes_of l.sizes) (drop l.group-index l.group-items) ≡ taken
      with_size [] (map sizes_of l.fn.sizes) l.group-items;
}
