use Rattle.run_laws.proofs.LiveSlots.{slot_by_lives}
use Rattle.run_laws.proofs.laws.law_live_slot.Goals as goal

pub returns : goal.returns
returns c = slot_by_lives
