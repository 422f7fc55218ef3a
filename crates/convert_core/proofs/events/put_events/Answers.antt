use Rattle.convert_core.proofs.Wholes.{unread_in_order}
use Rattle.convert_core.proofs.events.put_events.Goals as goal

pub returns-in-Err-clause-order : goal.returns-in-Err-clause-order
returns-in-Err-clause-order g c = unread_in_order _ _

pub returns-in-Err-new-clause-order : goal.returns-in-Err-new-clause-order
returns-in-Err-new-clause-order g c = unread_in_order _ _
