use Rattle.task_table.proofs.TaskActLaws.{task_beside, task_known}
use Rattle.task_table.proofs.table.task_act.touch_of.Goals as goal

pub returns-clause-known : goal.returns-clause-known
returns-clause-known c = λ cpu. rw (c.touched_change.ensures, c.touched_change-2.ensures, c.cpus_touched-first.ensures) (task_known c.args.at c.args.act c.args.changed c.args.running.now cpu)

pub returns-clause-beside : goal.returns-clause-beside
returns-clause-beside c = rw (c.touched_change.ensures, c.touched_change-2.ensures, c.cpus_touched-first.ensures) (task_beside c.args.at c.args.act c.args.changed c.args.running.now)
