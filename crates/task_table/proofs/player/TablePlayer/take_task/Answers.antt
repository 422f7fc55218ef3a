use Rattle.trace_player.specs.TaskActs.{as_event}
use Rattle.task_table.proofs.Playing.{table_takes}
use Rattle.task_table.proofs.player.TablePlayer.take_task.Goals as goal

pub returns : goal.returns
returns c = table_takes c.args.self.now c.play_task.new.self (as_event c.args.at c.args.act) c.play_task.result c.play_task.ensures
