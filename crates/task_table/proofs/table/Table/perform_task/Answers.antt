use Rattle.std.proofs.Common.{subst}
use Rattle.trace_player.specs.TaskActs.{as_event}
use Rattle.task_table.specs.Stands.{IsIndex, TableView}
use Rattle.task_table.proofs.TaskActLaws.{leaves_rest}
use Rattle.task_table.proofs.Touching.{HasContent, known_played}
use Rattle.task_table.proofs.table.Table.perform_task.Goals as goal

-- The promised properties of the touch of a task act.
known : (c : goal.After-touch_of) → HasContent c.args.self.now.limits c.args.self.now.world (as_event c.args.at c.args.act) c.touch_of.result
known c =
    let running = c.self.inside.running.items in
    let index = subst (λ (table : TableView). IsIndex running table.world.tasks) c.self.view_is c.self.invariant.index in
    let plain = (leaves_rest c.args.at c.args.self.now.world.groups c.args.self.now.world.irqs c.args.act).plain in
    known_played c.args.self.now _ (as_event c.args.at c.args.act) c.advance_task-changed.result running c.touch_of.result c.advance_task-changed.ensures.plays c.advance_task-changed.ensures.changed
    index plain c.touch_of.ensures.account (rw c.deref.ensures.value at c.touch_of.ensures.known) c.touch_of.ensures.beside

pub returns-clause-touch : goal.returns-clause-touch
returns-clause-touch c = (known c).is

pub returns-clause-cpus : goal.returns-clause-cpus
returns-clause-cpus c = (known c).cpus

pub returns-clause-slots : goal.returns-clause-slots
returns-clause-slots c = (known c).slots

pub returns-clause-ones : goal.returns-clause-ones
returns-clause-ones c = (known c).ones

pub returns-clause-moment : goal.returns-clause-moment
returns-clause-moment c = (known c).moment
