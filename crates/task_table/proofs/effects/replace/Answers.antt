use Rattle.std.proofs.Common.{sym, ap, ◌∙◌, arith, length}
use Rattle.task_table.proofs.Index as index
use Rattle.task_table.proofs.MemberLaws as members
use Rattle.task_table.proofs.effects.replace.Goals as goal

pub leave-requires-clause-room : goal.leave-requires-clause-room
leave-requires-clause-room c = members.member_room c.args.members.now c.args.tasks.now c.args.pid c.in-Some.old c.requires.members (sym c.requires.old ∙ c.in-Some.is)

pub leave-requires-clause-some : goal.leave-requires-clause-some
leave-requires-clause-some c = members.some_member c.args.members.now c.args.tasks.now c.args.pid c.in-Some.old c.requires.members (sym c.requires.old ∙ c.in-Some.is)

pub join-requires-clause-fits : goal.join-requires-clause-fits
join-requires-clause-fits c =
    let room = members.member_room c.args.members.now c.args.tasks.now c.args.pid c.in-Some.old c.requires.members (sym c.requires.old ∙ c.in-Some.is) in
    omega (arith, members.fewer_members c.args.members.now c.leave.new.self c.in-Some.old.slot.0 c.in-Some-new.new.slot.0 c.leave.ensures room (members.members_few c.args.members.now c.args.tasks.now c.in-Some-new.new.slot.0 c.requires.members c.requires.few))

pub set_running-requires : goal.set_running-requires
set_running-requires c =
    let may = rw (c.in-Some.is, c.in-Some-new.is) at c.requires.new in
    index.replaced_room c.args.running.now c.args.tasks.now c.requires.index c.args.pid c.in-Some.old c.in-Some-new.new (sym c.requires.old ∙ c.in-Some.is) may.runs

pub returns-clause-index : goal.returns-clause-index
returns-clause-index c =
    let may = rw (c.in-Some.is, c.in-Some-new.is) at c.requires.new in
    rw (c.set_running.ensures, c.set.ensures) (index.index_replaced c.args.running.now c.args.tasks.now c.requires.index c.args.pid c.in-Some.old c.in-Some-new.new (sym c.requires.old ∙ c.in-Some.is) may.runs)

pub returns-clause-members : goal.returns-clause-members
returns-clause-members c =
    let may = rw (c.in-Some.is, c.in-Some-new.is) at c.requires.new in
    rw c.set.ensures (members.members_moved c.args.members.now c.args.tasks.now c.args.pid c.in-Some.old c.in-Some-new.new c.leave.new.self c.join.new.self c.requires.members (sym c.requires.old ∙ c.in-Some.is) may.room c.leave.ensures (ap length c.leave.ensures ∙ members.set_length c.args.members.now c.in-Some.old.slot.0 _) c.join.ensures)
