use Rattle.std.proofs.Common.{sym, ◌∙◌, Some}
use Rattle.task_table.proofs.Tabled as tabled
use Rattle.task_table.proofs.task_map.put.Goals as goal

pub returns-then-place-listed-clause-old : goal.returns-then-place-listed-clause-old
returns-then-place-listed-clause-old c = sym (tabled.get_listed _ c.args.others.now.entries c.args.pid c.if-place-listed.true)

pub returns-then-place-listed-clause-ok : goal.returns-then-place-listed-clause-ok
returns-then-place-listed-clause-ok c = tabled.placed_listed c.args.listed.now c.args.others.now.entries c.args.pid (Some c.args.task) c.if-place-listed.true

pub returns-clause-old : goal.returns-clause-old
returns-clause-old c = c.in_ok-insert.ensures.old ∙ sym (tabled.get_other _ c.args.others.now.entries c.args.pid c.if-place-listed.false)

pub returns-clause-ok : goal.returns-clause-ok
returns-clause-ok c = tabled.placed_other _ _ _ _ (Some c.args.task) c.if-place-listed.false c.in_ok-insert.ensures.updates.0
