use Rattle.observer_log.proofs.BoardSteps.{last_read}
use Rattle.observer_log.proofs.laws.law_last_read.Goals as goal

pub returns : goal.returns
returns c = last_read
