use Rattle.run_laws.proofs.Following.{ticks_follow}
use Rattle.run_laws.proofs.laws.law_next_tick.Goals as goal

pub returns : goal.returns
returns c = ticks_follow
