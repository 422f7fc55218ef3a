use Rattle.std.proofs.Common.{arith, Some}
use Rattle.task_table.proofs.Index as index
use Rattle.task_table.proofs.MemberLaws as members
use Rattle.task_table.proofs.effects.add_task.Goals as goal

pub join-requires-clause-fits : goal.join-requires-clause-fits
join-requires-clause-fits c = omega (arith, members.members_few c.args.members.now c.args.tasks.now c.args.task.slot.0 c.requires.members c.requires.few)

pub returns-in-Ok-clause-index : goal.returns-in-Ok-clause-index
returns-in-Ok-clause-index c = λ running is.
    rw c.in-Ok.ensures.ok (index.index_kept running c.args.tasks.now is c.args.pid (Some c.args.task) (index.off_none _ c.requires.new) (index.off_task c.args.task c.requires.off))

pub returns-in-Ok-clause-members : goal.returns-in-Ok-clause-members
returns-in-Ok-clause-members c =
    rw (c.in-Ok.ensures.ok, c.join.ensures) (members.members_more c.args.members.now c.args.tasks.now c.args.pid c.args.task c.requires.members c.requires.new c.requires.room)
