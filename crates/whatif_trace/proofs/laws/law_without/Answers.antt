use Rattle.whatif_trace.proofs.Accepted.{without_is_accepted}
use Rattle.whatif_trace.proofs.laws.law_without.Goals as goal

pub returns : goal.returns
returns c = without_is_accepted
