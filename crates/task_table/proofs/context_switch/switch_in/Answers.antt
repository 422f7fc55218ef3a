use Rattle.std.proofs.Common.{sym, ◌∙◌, refl}
use Rattle.task_table.proofs.Index as index
use Rattle.task_table.proofs.MemberLaws as members
use Rattle.task_table.proofs.context_switch.switch_in.Goals as goal

pub returns-clause-index : goal.returns-clause-index
returns-clause-index c =
    let is = sym (rw c.in-Some.is at c.requires.task) ∙ c.in-Some-task.is in
    let ready = rw c.in-Some-task.is at c.requires.ready in
    rw c.set.ensures (index.index_on c.args.running.now c.args.tasks.now c.requires.index c.args.cpu c.in-Some.pid.0 _ c.requires.room c.requires.free
    (index.off_found _ c.in-Some-task.task is (index.ready_still c.in-Some-task.task.mode ready.1)) (index.starts c.in-Some-task.task c.args.cpu ready.0))

pub returns-clause-members : goal.returns-clause-members
returns-clause-members c = λ list are.
    let is = sym (rw c.in-Some.is at c.requires.task) ∙ c.in-Some-task.is in
    rw c.set.ensures (members.members_kept list c.args.tasks.now c.in-Some.pid.0 c.in-Some-task.task _ are is refl)
