use Rattle.trace_player.specs.TaskActs.{as_event}
use Rattle.trace_file.proofs.PlayLaws.{keeper_takes}
use Rattle.trace_file.proofs.keeper.KeeperPlayer.take_task.Goals as goal

pub returns : goal.returns
returns c =
    let more = rw c.to_event.ensures at c.in_ok-push.ensures.items in
    keeper_takes c.args.self.now.cpus c.args.self.now.events.items c.push.new.self.items c.args.self.now.table c.play_task.new.self (as_event c.args.at c.args.act) c.in-Ok.field-0 c.in-Ok.ensures more
