use Rattle.std.proofs.Math.Seq.{map-set_same}
use Rattle.proc_plan.specs.Room.{ChangesView}
use Rattle.proc_plan.proofs.room.reserve_place.Goals as goal

pub returns-clause-same : goal.returns-clause-same
returns-clause-same c = map-set_same (λ (changes : ChangesView). changes.list) c.args.changes.now c.args.place c.reserve.new.self c.index-changes-place.result c.reserve.ensures.same
