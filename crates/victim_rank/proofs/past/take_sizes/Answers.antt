use Rattle.std.proofs.lemmas.Grind.{common_steps}
use Rattle.std.proofs.Common.{◌∙◌, arith}
use Rattle.std.specs.Prelude.{map}
use Rattle.std.proofs.lemmas.List.{drop_all, drop_more, length-map}
use Rattle.std.proofs.lemmas.List.Elements.{All-set}
use Rattle.victim_rank.specs.Pasts.{AreSizes, sizes_of}
use Rattle.victim_rank.proofs.Places.{sizes_end, size_step}
use Rattle.victim_rank.proofs.past.take_sizes.Goals as goal

pub groups-preserved : goal.groups-preserved
groups-preserved c =
    let groups = c.groups-group-items.result.now in
    record {
      within = All-set AreSizes c.groups.sizes _ c.suffix.result c.suffix.ensures.within
          c.groups.invariant.within;
      rest = size_step c.groups.sizes groups c.groups.group-index _ c.suffix.result _
          (drop_more groups c.groups.group-index _ c.groups-test.true) (grind (arith, common_steps))
          c.suffix.ensures.sizes ∙ c.groups.invariant.rest;
    }

pub returns-clause-sizes : goal.returns-clause-sizes
returns-clause-sizes c =
    let groups = c.groups-group-items in
    let whole = rw (drop_all c.groups.group-index groups.result.now c.groups-test.false) at
    c.groups.invariant.rest in
    sizes_end c.args.reading.now.lives c.args.reading.now.seen groups.ensures.within
    (map sizes_of c.args.sizes.now) (map sizes_of c.groups.sizes)
    (length-map c.args.sizes.now sizes_of ∙ c.requires.slots) (rw groups.ensures.groups at whole)
