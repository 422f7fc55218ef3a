use Rattle.std.proofs.Common.{◌∙◌, ap}
use Rattle.std.specs.Prelude.{map}
use Rattle.victim_rank.specs.Pasts.{sizes_of}
use Rattle.victim_rank.proofs.Places.{map-replicate}
use Rattle.victim_rank.proofs.past.no_sizes.Goals as goal

pub returns-clause-sizes : goal.returns-clause-sizes
returns-clause-sizes c =
    ap (map sizes_of) (c.in_ok-vec.ensures.items_if_clones_equal (λ sizes same. same)) ∙
    map-replicate sizes_of c.args.slots _
