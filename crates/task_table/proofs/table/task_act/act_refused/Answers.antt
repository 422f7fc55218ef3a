use Rattle.task_table.proofs.Index.{running_known}
use Rattle.task_table.proofs.table.task_act.act_refused.Goals as goal

pub returns-in-Switch : goal.returns-in-Switch
returns-in-Switch c = λ groups tasks irqs triggers pressures at index named.
    let next = rw c.in-Switch.is at named in
    rw (c.in-Switch.is, running_known c.args.running.now tasks index c.in-Switch.cpu.0, ← next) c.switch_refused.ensures
