use Rattle.std.proofs.Common.{sym, ◌∙◌}
use Rattle.group_tree.proofs.Changes.{slot_back}
use Rattle.task_table.proofs.MemberLaws as members
use Rattle.task_table.proofs.causes.has_tasks.Goals as goal

pub returns-in-Some : goal.returns-in-Some
returns-in-Some c = λ tasks slot are is.
    let found = slot_back slot c.args.group is c.in-Some.slot c.in-Some.is in
    rw found (c.has.ensures ∙ members.manned c.args.members.now tasks c.in-Some.slot.0 are)

pub returns-in-None : goal.returns-in-None
returns-in-None c = λ tasks slot are is. sym (members.unmanned tasks slot c.args.group is c.in-None.is)
