use Rattle.std.proofs.Common.{length, sym, ◌∙◌}
use Rattle.psi_spec.specs.World.{running_on}
use Rattle.task_table.proofs.Index as index
use Rattle.task_table.proofs.CauseLaws as causes
use Rattle.task_table.proofs.context_switch.switch.Goals as goal

pub switch_in-requires-clause-task : goal.switch_in-requires-clause-task
switch_in-requires-clause-task c =
    let next = (causes.may_switch (length c.args.running.now) c.args.cpu c.args.next c.args.task c.args.how (running_on c.args.tasks.now c.args.cpu) c.requires.legal).ready in
    rw c.switch_out-changed.ensures.tasks (c.requires.task ∙ sym (index.next_stays c.args.cpu c.args.next c.args.tasks.now c.args.how (rw c.requires.task at next)))

pub switch_in-requires-clause-ready : goal.switch_in-requires-clause-ready
switch_in-requires-clause-ready c =
    let next = (causes.may_switch (length c.args.running.now) c.args.cpu c.args.next c.args.task c.args.how (running_on c.args.tasks.now c.args.cpu) c.requires.legal).ready in
    rw c.requires.task (index.next_ready c.args.cpu c.args.next c.args.tasks.now (rw c.requires.task at next))
