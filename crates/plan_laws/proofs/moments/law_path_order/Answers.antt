use Rattle.plan_laws.proofs.MomentsOrder as laws
use Rattle.plan_laws.proofs.moments.law_path_order.Goals as goal

pub returns-clause-live : goal.returns-clause-live
returns-clause-live c = laws.order_shows_live

pub returns-clause-slots : goal.returns-clause-slots
returns-clause-slots c = laws.order_shows_slots
