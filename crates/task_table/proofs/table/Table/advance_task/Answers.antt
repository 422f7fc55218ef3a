use Rattle.std.proofs.Common.{rules, ◌≡◌, ap, ◌∙◌, ◌++◌, length, take, drop}
use Rattle.std.proofs.Math.Seq.{take-append_seam}
use Rattle.trace_player.specs.TaskActs.{as_event}
use Rattle.task_table.proofs.CauseLaws as causes
use Rattle.task_table.proofs.TaskActLaws.{task_played}
use Rattle.task_table.proofs.table.Table.advance_task.Goals as goal

pub change_tasks-changed-requires-clause-legal : goal.change_tasks-changed-requires-clause-legal
change_tasks-changed-requires-clause-legal c =
    let legal = causes.let_through c.args.self.now.limits c.args.self.now.world (as_event c.args.at c.args.act) c.requires.legal in
    (c.self.inside.tree, c.self.inside.irqs, c.self.inside.triggers, c.self.inside.pressures, c.args.at, rw c.deref_mut.ensures.value (rw (← c.self.view_is) at legal))

pub returns-clause-plays : goal.returns-clause-plays
returns-clause-plays c =
    let kept : take c.self.inside.running.len (c.change_tasks-changed.new.running ++ drop (length c.change_tasks-changed.new.running) c.self.inside.running.items) ≡ c.change_tasks-changed.new.running = rw (let size : c.self.inside.running.len ≡ length c.change_tasks-changed.new.running = search rules in size) (take-append_seam _ _) in
    let size : length c.change_tasks-changed.new.running ≡ length c.self.inside.running.items = search rules in
    rw (← c.self.view_is) (task_played _ _ c.self.inside.latest _ _ c.self.inside.tree c.self.inside.irqs c.self.inside.triggers c.self.inside.pressures c.self.inside.lines c.self.inside.last c.self.inside.ended c.args.at c.args.act (ap length kept ∙ size) (c.change_tasks-changed.ensures.tasks c.self.inside.tree) (rw (← c.self.view_is) at c.requires.forward)
    (rw (← c.self.view_is) at c.requires.legal) c.self.invariant.legal)

pub invariant_of-self : goal.invariant_of-self
invariant_of-self c =
    let kept : take c.self.inside.running.len (c.change_tasks-changed.new.running ++ drop (length c.change_tasks-changed.new.running) c.self.inside.running.items) ≡ c.change_tasks-changed.new.running = rw (let size : c.self.inside.running.len ≡ length c.change_tasks-changed.new.running = search rules in size) (take-append_seam _ _) in
    let count : length (take c.self.inside.running.len (c.change_tasks-changed.new.running ++ drop (length c.change_tasks-changed.new.running) c.self.inside.running.items)) ≡ length c.self.inside.running.items = search rules in
    let played = task_played _ _ c.self.inside.latest _ _ c.self.inside.tree c.self.inside.irqs c.self.inside.triggers c.self.inside.pressures c.self.inside.lines c.self.inside.last c.self.inside.ended c.args.at c.args.act count (c.change_tasks-changed.ensures.tasks c.self.inside.tree) (rw (← c.self.view_is) at c.requires.forward)
    (rw (← c.self.view_is) at c.requires.legal) c.self.invariant.legal in
    record {
      legal = played.legal_after;
      index = rw kept c.change_tasks-changed.ensures.index;
      members_are = c.change_tasks-changed.ensures.members;
      cover = rw c.change_tasks-changed.ensures.cover c.self.invariant.cover;
      cpus = rw count c.self.invariant.cpus;
    }

pub returns-clause-changed : goal.returns-clause-changed
returns-clause-changed c = rw (← c.self.view_is) (c.change_tasks-changed.ensures.changed c.self.inside.tree)
