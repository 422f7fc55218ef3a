use Rattle.std.proofs.Common.{◌≡◌, ◌∙◌, arith, length, ap, Some, ◌<◌}
use Rattle.std.specs.FinMap as tasks_by
use Rattle.psi_spec.specs.declared.machine.Task.{Task}
use Rattle.psi_base.specs.declared.event.Slot.{Slot}
use Rattle.psi_spec.specs.Refusal.{lacks_group}
use Rattle.psi_spec.specs.Collected.{slot_named}
use Rattle.psi_spec.specs.World.{slot_of, task_of}
use Rattle.psi_counts.proofs.TouchWithin.{slot_room}
use Rattle.task_table.proofs.CauseLaws as causes
use Rattle.task_table.proofs.Replacing as replacing
use Rattle.task_table.proofs.effects.change_tasks.Goals as goal

pub add_task-requires-clause-room : goal.add_task-requires-clause-room
add_task-requires-clause-room c =
    let legal = rw c.in-Fork.is at c.requires.legal.4 in
    let tree = c.args.tree.now in
    let path = c.in-Fork.path in
    let room = slot_room tree path (causes.fork_group (length c.args.running.now) (lacks_group tree (Some path)) (tasks_by.len c.args.tasks.now) (task_of c.args.tasks.now c.in-Fork.pid.0) c.in-Fork.cpu.0 legal) in
    let slot : c.args.slot ≡ slot_named tree path = rw c.in-Fork.is at c.requires.slot ∙ causes.slot_is (slot_of tree path) in
    omega (arith, room, ap (λ (t : Task). t.slot.0) (c.forked.ensures tree path slot), c.requires.cover)

pub replace-requires-clause-new : goal.replace-requires-clause-new
replace-requires-clause-new c =
    let legal = rw c.in-Move.is at c.requires.legal.4 in
    let tree = c.args.tree.now in
    let path = c.in-Move.path in
    let room = slot_room tree path (causes.move_group (lacks_group tree (Some path)) (task_of c.args.tasks.now c.in-Move.pid.0) legal) in
    let slot : c.args.slot ≡ slot_named tree path = rw c.in-Move.is at c.requires.slot ∙ causes.slot_is (slot_of tree path) in
    let fits : c.args.slot.0 < length c.args.members.now = omega (arith, room, ap (λ (s : Slot). s.0) slot, c.requires.cover) in
    rw c.moved-new.ensures (replacing.may_move (length c.args.members.now) c.args.slot c.args.named fits)
