use Rattle.replay_workers.proofs.Dealt.{room_is}
use Rattle.replay_workers.proofs.laws.law_room.Goals as goal

pub returns : goal.returns
returns c = room_is
