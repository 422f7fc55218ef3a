use Rattle.std.proofs.Common.{ap, length, arith}
use Rattle.std.proofs.lemmas.List.{drop_all}
use Rattle.detectors.specs.Inner.{groups_at}
use Rattle.victim_rank.proofs.Scoped.{same_in_rank}
use Rattle.victim_rank.proofs.size.count_in_rank.Goals as goal

pub returns : goal.returns
returns c =
    let groups = c.args.reading.now.seen.groups in
    let places = c.places-place-items in
    let whole = rw (drop_all c.groups.place-index places.result.now c.groups-test.false) at
    c.groups.invariant.count in
    let same = same_in_rank c.args.scope.now c.args.best_rank (groups_at groups places.result.now)
    groups places.ensures.groups in
    omega (arith, whole, ap length same)
