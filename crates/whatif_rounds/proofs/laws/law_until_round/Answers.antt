use Rattle.whatif_rounds.proofs.UntilRounds.{same_until_round}
use Rattle.whatif_rounds.proofs.laws.law_until_round.Goals as goal

pub returns : goal.returns
returns c = same_until_round
