use Rattle.std.proofs.Common.{◌≡◌, length, false, true, ⊎_elim}
use Rattle.std.specs.Prelude.{IfSome}
use Rattle.psi_spec.specs.World.{is_running, task_of}
use Rattle.task_table.proofs.CauseLaws as causes
use Rattle.task_table.proofs.Replacing as replacing
use Rattle.task_table.proofs.table.task_act.change_tasks.Goals as goal
use Rattle.task_table.proofs.table.task_act.change_tasks.Goals.{in-Stall, in-Unstall, in-Wake2}

pub replace-requires-clause-new : goal.replace-requires-clause-new
replace-requires-clause-new c =
    let members = c.args.members.now in
    let tasks = c.args.tasks.now in
    elim c.match-act.branch [
      | in-Stall w ↦
          let named = rw w.in-Stall.is at c.requires.named in
          rw (w.new-is, w.with_stall.ensures) (replacing.may_stall (length members) true c.args.named (replacing.live_room members tasks w.in-Stall.pid.0 c.args.named c.requires.members named))
      | in-Unstall w ↦
          let named = rw w.in-Unstall.is at c.requires.named in
          rw (w.new-is, w.with_stall-in-Unstall.ensures) (replacing.may_stall (length members) false c.args.named (replacing.live_room members tasks w.in-Unstall.pid.0 c.args.named c.requires.members named))
      | in-Wake2 w ↦
          let named : c.args.named ≡ task_of tasks w.in-Wake.pid.0 = ⊎_elim (λ is. rw is at c.requires.named) (λ is. rw is at c.requires.named) w.in-Wake.is in
          let off : IfSome c.args.named (λ t. is_running t.mode ≡ false) = rw named (⊎_elim
          (λ is. replacing.blocked_off _ (causes.wake_off (length c.args.running.now) (task_of tasks w.in-Wake.pid.0) w.in-Wake.cpu.0 (rw is at c.requires.legal.5)))
          (λ is. replacing.not_running _ (causes.migrate_off (length c.args.running.now) (task_of tasks w.in-Wake.pid.0) w.in-Wake.cpu.0 (rw is at c.requires.legal.5)))
          w.in-Wake.is) in
          rw (w.new-is, w.prepared_changes.ensures) (replacing.may_ready (length members) w.in-Wake.cpu.0 c.args.named off (replacing.live_room members tasks w.in-Wake.pid.0 c.args.named c.requires.members named))
    ]
