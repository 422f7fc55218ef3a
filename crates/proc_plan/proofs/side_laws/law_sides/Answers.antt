use Rattle.proc_plan.proofs.SideMembers as members
use Rattle.proc_plan.proofs.SideMoments as moments
use Rattle.proc_plan.proofs.side_laws.law_sides.Goals as goal

pub returns-clause-up_to : goal.returns-clause-up_to
returns-clause-up_to c = moments.sides_up_to

pub returns-clause-order : goal.returns-clause-order
returns-clause-order c = moments.sides_are_in_order

pub returns-clause-slots : goal.returns-clause-slots
returns-clause-slots c = members.sides_are_on_groups

pub returns-clause-members : goal.returns-clause-members
returns-clause-members c = members.members_are_known
