use Rattle.std.proofs.Common.{◌≡◌, ◌+◌, ◌*◌, arith}
use Rattle.replay_workers.proofs.place.LanePlace.next.Goals as goal

pub returns-clause-next : goal.returns-clause-next
returns-clause-next c =
    let workers = c.args.workers in
    let place = c.args.self.place in
    let more : (place + 1) * workers ≡ place * workers + workers = grind arith in
    omega (arith, more, c.requires.worker)
