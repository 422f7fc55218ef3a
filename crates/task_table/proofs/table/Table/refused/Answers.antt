use Rattle.std.proofs.Common.{sym}
use Rattle.task_table.proofs.CauseLaws as causes
use Rattle.task_table.proofs.table.Table.refused.Goals as goal

pub returns-in-Some-clause-cause : goal.returns-in-Some-clause-cause
returns-in-Some-clause-cause c = sym (causes.first_of_line c.args.self.now.limits c.args.self.now.world c.args.event.now c.in-Some.cause (sym c.in-Some.ensures.cause))

pub returns-clause-cause : goal.returns-clause-cause
returns-clause-cause c =
    let first = causes.first_of_verb c.args.self.now.limits c.args.self.now.world c.args.event.now (sym c.in_default.ensures.cause) in
    rw (first, ← c.self.view_is) (rw c.deref.ensures.value at c.act_refused.ensures)
