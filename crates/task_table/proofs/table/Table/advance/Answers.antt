use Rattle.std.proofs.Common.{rules, refl, ℕ, ◌≡◌, ap, ◌∙◌, ◌++◌, length, take, drop}
use Rattle.std.proofs.Math.Seq.{take-append_seam}
use Rattle.psi_spec.specs.World.{Limits, groups_after, tasks_after}
use Rattle.task_table.proofs.CauseLaws as causes
use Rattle.task_table.proofs.MemberLaws as members
use Rattle.task_table.proofs.Touching as touching
use Rattle.task_table.proofs.table.Table.advance.Goals as goal

pub change_tasks-requires-clause-legal : goal.change_tasks-requires-clause-legal
change_tasks-requires-clause-legal c =
    let legal = causes.let_through c.args.self.now.limits c.args.self.now.world c.args.event.now c.requires.finding.legal in
    (c.self.inside.irqs, c.self.inside.triggers, c.self.inside.pressures, c.args.event.now.at, rw c.deref_mut.ensures.value (rw (← c.self.view_is) at legal))

pub change_groups-requires-clause-legal : goal.change_groups-requires-clause-legal
change_groups-requires-clause-legal c =
    let legal = causes.let_through c.args.self.now.limits c.args.self.now.world c.args.event.now c.requires.finding.legal in
    causes.groups_through _ c.self.inside.tree _ _ _ _ _ c.args.event.now.act (rw (← c.self.view_is) at legal)

pub returns-clause-plays : goal.returns-clause-plays
returns-clause-plays c =
    let kept : take c.self.inside.running.len (c.change_tasks.new.running ++ drop (length c.change_tasks.new.running) c.self.inside.running.items) ≡ c.change_tasks.new.running = rw (let size : c.self.inside.running.len ≡ length c.change_tasks.new.running = search rules in size) (take-append_seam _ _) in
    let size : length c.change_tasks.new.running ≡ length c.self.inside.running.items = search rules in
    let tasks : c.change_tasks.new.tasks ≡ tasks_after c.self.inside.tree c.self.inside.tasks c.args.event.now.act = search rules in
    let groups : c.change_groups.new.tree ≡ groups_after c.args.event.now.at c.self.inside.tree c.args.event.now.act = search rules in
    let count = ap length kept ∙ size in
    let limits : ℕ → Limits = λ n. record { cpus = n; latest = c.self.inside.latest } in
    let after = touching.legal_next _ _ c.self.inside.latest _ _ _ _ c.self.inside.irqs _ c.self.inside.triggers _ c.self.inside.pressures _ c.self.inside.lines c.self.inside.last c.self.inside.ended _ c.args.event.now count tasks groups c.note_irq.ensures c.triggers_with-self-inside.ensures c.pressures_with-self-inside.ensures c.has_ended-self-inside.ensures
    (rw (← c.self.view_is) at c.requires.finding.legal) c.self.invariant.legal in
    record {
      limits = rw (← c.self.view_is) (ap limits count);
      legal = c.requires.finding.legal;
      world = rw (← c.self.view_is, tasks, groups, c.note_irq.ensures, c.triggers_with-self-inside.ensures, c.pressures_with-self-inside.ensures, c.has_ended-self-inside.ensures) refl;
      legal_before = rw (← c.self.view_is) c.self.invariant.legal;
      legal_after = after;
      lines = after.few_lines;
      early = after.early;
      forward = c.requires.finding.forward;
    }

pub invariant_of-self-2 : goal.invariant_of-self-2
invariant_of-self-2 c =
    let kept : take c.self.inside.running.len (c.change_tasks.new.running ++ drop (length c.change_tasks.new.running) c.self.inside.running.items) ≡ c.change_tasks.new.running = rw (let size : c.self.inside.running.len ≡ length c.change_tasks.new.running = search rules in size) (take-append_seam _ _) in
    let count : length (take c.self.inside.running.len (c.change_tasks.new.running ++ drop (length c.change_tasks.new.running) c.self.inside.running.items)) ≡ length c.self.inside.running.items = search rules in
    let tasks : c.change_tasks.new.tasks ≡ tasks_after c.self.inside.tree c.self.inside.tasks c.args.event.now.act = search rules in
    let groups : c.change_groups.new.tree ≡ groups_after c.args.event.now.at c.self.inside.tree c.args.event.now.act = search rules in
    record {
      legal = touching.legal_next _ _ c.self.inside.latest _ _ _ _ c.self.inside.irqs _ c.self.inside.triggers _ c.self.inside.pressures _ c.self.inside.lines c.self.inside.last c.self.inside.ended _ c.args.event.now count tasks groups c.note_irq.ensures c.triggers_with-self-inside.ensures c.pressures_with-self-inside.ensures c.has_ended-self-inside.ensures
          (rw (← c.self.view_is) at c.requires.finding.legal) c.self.invariant.legal;
      index = rw kept c.change_tasks.ensures.index;
      members_are = members.members_same c.change_tasks.new.members c.change_groups.new.members c.change_tasks.new.tasks c.change_groups.ensures.same c.change_tasks.ensures.members;
      cover = c.change_groups.ensures.cover;
      cpus = rw count c.self.invariant.cpus;
    }
