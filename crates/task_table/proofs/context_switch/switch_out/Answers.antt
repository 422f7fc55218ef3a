use Rattle.std.proofs.Common.{ap, sym, refl, ◌∙◌, None, Some}
use Rattle.psi_spec.specs.Refusal.{is_wrong}
use Rattle.task_table.proofs.Index as index
use Rattle.task_table.proofs.MemberLaws as members
use Rattle.task_table.proofs.context_switch.switch_out.Goals as goal

pub returns-in_default-clause-tasks : goal.returns-in_default-clause-tasks
returns-in_default-clause-tasks c = rw (index.running_known c.args.running.now c.args.tasks.now c.requires.index c.args.cpu ∙ sym c.running_at.ensures ∙ c.in_default.is) refl

pub returns-in_default-clause-before : goal.returns-in_default-clause-before
returns-in_default-clause-before c = rw (index.running_known c.args.running.now c.args.tasks.now c.requires.index c.args.cpu ∙ sym c.running_at.ensures ∙ c.in_default.is) refl

pub returns-in_default-clause-after : goal.returns-in_default-clause-after
returns-in_default-clause-after c = rw (index.running_known c.args.running.now c.args.tasks.now c.requires.index c.args.cpu ∙ sym c.running_at.ensures ∙ c.in_default.is) refl

pub set-requires : goal.set-requires
set-requires c = rw ((index.in_place c.args.running.now c.args.tasks.now c.requires.index c.args.cpu (c.in-Some.pid, c.in-Some.task) (sym c.running_at.ensures ∙ c.in-Some.is)).0) refl

pub leave-requires-clause-room : goal.leave-requires-clause-room
leave-requires-clause-room c =
    let is = index.in_place c.args.running.now c.args.tasks.now c.requires.index c.args.cpu (c.in-Some.pid, c.in-Some.task) (sym c.running_at.ensures ∙ c.in-Some.is) in
    members.member_room c.args.members.now c.args.tasks.now c.in-Some.pid c.in-Some.task c.requires.members is.0

pub leave-requires-clause-some : goal.leave-requires-clause-some
leave-requires-clause-some c =
    let is = index.in_place c.args.running.now c.args.tasks.now c.requires.index c.args.cpu (c.in-Some.pid, c.in-Some.task) (sym c.running_at.ensures ∙ c.in-Some.is) in
    members.some_member c.args.members.now c.args.tasks.now c.in-Some.pid c.in-Some.task c.requires.members is.0

pub returns-in-Some-new-clause-tasks : goal.returns-in-Some-new-clause-tasks
returns-in-Some-new-clause-tasks c =
    rw (index.running_known c.args.running.now c.args.tasks.now c.requires.index c.args.cpu ∙ sym c.running_at.ensures ∙ c.in-Some.is, ← c.left-new.ensures.task, c.in-Some-new.is) c.set.ensures

pub returns-in-Some-new-clause-before : goal.returns-in-Some-new-clause-before
returns-in-Some-new-clause-before c = rw (index.running_known c.args.running.now c.args.tasks.now c.requires.index c.args.cpu ∙ sym c.running_at.ensures ∙ c.in-Some.is) refl

pub returns-in-Some-new-clause-after : goal.returns-in-Some-new-clause-after
returns-in-Some-new-clause-after c = rw (index.running_known c.args.running.now c.args.tasks.now c.requires.index c.args.cpu ∙ sym c.running_at.ensures ∙ c.in-Some.is, ← c.left-new.ensures.task, c.in-Some-new.is) refl

pub returns-in-None-clause-tasks : goal.returns-in-None-clause-tasks
returns-in-None-clause-tasks c =
    rw (index.running_known c.args.running.now c.args.tasks.now c.requires.index c.args.cpu ∙ sym c.running_at.ensures ∙ c.in-Some.is, ← c.left-new.ensures.task, c.in-None.is) c.remove.ensures

pub returns-in-None-clause-before : goal.returns-in-None-clause-before
returns-in-None-clause-before c = rw (index.running_known c.args.running.now c.args.tasks.now c.requires.index c.args.cpu ∙ sym c.running_at.ensures ∙ c.in-Some.is) refl

pub returns-in-None-clause-after : goal.returns-in-None-clause-after
returns-in-None-clause-after c = rw (index.running_known c.args.running.now c.args.tasks.now c.requires.index c.args.cpu ∙ sym c.running_at.ensures ∙ c.in-Some.is) c.left-new.ensures.task

pub returns-in-Some-new-clause-index : goal.returns-in-Some-new-clause-index
returns-in-Some-new-clause-index c =
    let at = sym c.running_at.ensures ∙ c.in-Some.is in
    let busy = index.not_idle c.args.how (c.in-Some.pid, c.in-Some.task) (ap (is_wrong c.args.how) (sym (index.running_known c.args.running.now c.args.tasks.now c.requires.index c.args.cpu ∙ at)) ∙ c.requires.how) in
    rw c.set.ensures (index.index_off c.args.running.now c.args.tasks.now c.requires.index c.args.cpu (c.in-Some.pid, c.in-Some.task) at (Some c.in-Some-new.after) (index.off_task c.in-Some-new.after (c.in-Some-new.ensures.off busy)))

pub returns-in-None-clause-index : goal.returns-in-None-clause-index
returns-in-None-clause-index c =
    rw c.remove.ensures (index.index_off c.args.running.now c.args.tasks.now c.requires.index c.args.cpu (c.in-Some.pid, c.in-Some.task) (sym c.running_at.ensures ∙ c.in-Some.is) None (λ _. refl))

pub returns-in-Some-new-clause-members : goal.returns-in-Some-new-clause-members
returns-in-Some-new-clause-members c =
    let is = index.in_place c.args.running.now c.args.tasks.now c.requires.index c.args.cpu (c.in-Some.pid, c.in-Some.task) (sym c.running_at.ensures ∙ c.in-Some.is) in
    rw c.set.ensures (members.members_kept c.args.members.now c.args.tasks.now c.in-Some.pid c.in-Some.task c.in-Some-new.after c.requires.members is.0 c.in-Some-new.ensures.slot)

pub returns-in-None-clause-members : goal.returns-in-None-clause-members
returns-in-None-clause-members c =
    let is = index.in_place c.args.running.now c.args.tasks.now c.requires.index c.args.cpu (c.in-Some.pid, c.in-Some.task) (sym c.running_at.ensures ∙ c.in-Some.is) in
    rw (c.leave.ensures, c.remove.ensures) (members.members_less c.args.members.now c.args.tasks.now c.in-Some.pid c.in-Some.task c.requires.members is.0)
