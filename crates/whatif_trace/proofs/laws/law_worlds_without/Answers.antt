use Rattle.whatif_trace.proofs.Accepted.{exits_leave_none, worlds_without}
use Rattle.whatif_trace.proofs.laws.law_worlds_without.Goals as goal

pub returns-clause-exits : goal.returns-clause-exits
returns-clause-exits c = exits_leave_none

pub returns-clause-worlds : goal.returns-clause-worlds
returns-clause-worlds c = worlds_without
