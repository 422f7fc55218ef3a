use Rattle.std.proofs.Common.{sym, ◌∙◌, None}
use Rattle.task_table.proofs.Tabled as tabled
use Rattle.task_table.proofs.task_map.take.Goals as goal

pub returns-then-place-listed-clause-old : goal.returns-then-place-listed-clause-old
returns-then-place-listed-clause-old c = sym (tabled.get_listed _ c.args.others.now.entries c.args.pid c.if-place-listed.true)

pub returns-then-place-listed-clause-tasks : goal.returns-then-place-listed-clause-tasks
returns-then-place-listed-clause-tasks c = tabled.placed_listed c.args.listed.now c.args.others.now.entries c.args.pid None c.if-place-listed.true

pub returns-clause-old : goal.returns-clause-old
returns-clause-old c = c.remove.ensures.value ∙ sym (tabled.get_other _ c.args.others.now.entries c.args.pid c.if-place-listed.false)

pub returns-clause-tasks : goal.returns-clause-tasks
returns-clause-tasks c = tabled.placed_other _ _ _ _ None c.if-place-listed.false c.remove.ensures.updates.0
