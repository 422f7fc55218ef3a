use Rattle.victim_rank.proofs.Places.{one_more}
use Rattle.victim_rank.proofs.past.suffix.Goals as goal

pub returns-then-sizes-lt4-clause-sizes : goal.returns-then-sizes-lt4-clause-sizes
returns-then-sizes-lt4-clause-sizes c = one_more c.args.newest c.args.sizes.count c.args.sizes.bytes
    c.if-sizes-lt4.true c.requires.within.places
