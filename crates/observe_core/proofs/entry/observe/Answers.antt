use Rattle.outside.proofs.ReadOrder.{file_unread}
use Rattle.observe_core.proofs.entry.observe.Goals as goal

pub returns-in-Err-NoMemory-clause-order : goal.returns-in-Err-NoMemory-clause-order
returns-in-Err-NoMemory-clause-order g c = λ request is. file_unread request.trace 0 _
