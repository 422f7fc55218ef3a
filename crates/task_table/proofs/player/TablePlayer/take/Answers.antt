use Rattle.task_table.proofs.Playing.{table_takes}
use Rattle.task_table.proofs.player.TablePlayer.take.Goals as goal

pub returns : goal.returns
returns c = table_takes c.args.self.now c.play.new.self c.args.event.now c.play.result c.play.ensures
