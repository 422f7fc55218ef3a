use Rattle.std.proofs.Common.{sym}
use Rattle.trace_player.specs.TaskActs.{as_event}
use Rattle.task_table.proofs.CauseLaws as causes
use Rattle.task_table.proofs.table.Table.refused_task.Goals as goal

pub returns-in-Some-clause-cause : goal.returns-in-Some-clause-cause
returns-in-Some-clause-cause c = sym (causes.first_of_line c.args.self.now.limits c.args.self.now.world (as_event c.args.at c.args.act) c.in-Some.cause (sym c.in-Some.ensures.cause))

pub returns-clause-cause : goal.returns-clause-cause
returns-clause-cause c =
    let first = causes.first_of_verb c.args.self.now.limits c.args.self.now.world (as_event c.args.at c.args.act) (sym c.in_default.ensures.cause) in
    let index = c.self.invariant.index in
    rw (first, ← c.self.view_is) (rw c.deref.ensures.value at c.act_refused.ensures c.self.inside.tree c.self.inside.tasks c.self.inside.irqs c.self.inside.triggers c.self.inside.pressures c.args.at index (rw (← c.self.view_is) at c.requires))
