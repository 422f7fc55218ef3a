use Rattle.std.proofs.Common.{length}
use Rattle.std.proofs.lemmas.List.{drop_all}
use Rattle.victim_rank.proofs.Places.{scans_end}
use Rattle.victim_rank.proofs.past.take_scans.Goals as goal

pub returns : goal.returns
returns c =
    let groups = c.groups-group-items in
    let whole = rw (drop_all c.groups.group-index groups.result.now c.groups-test.false) at
    c.groups.invariant in
    scans_end c.args.reading.now.lives c.args.reading.now.seen groups.ensures.within
    (length c.args.scans.now) c.groups.scans c.requires (rw groups.ensures.groups at whole)
