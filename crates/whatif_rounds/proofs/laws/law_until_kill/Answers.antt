use Rattle.whatif_rounds.proofs.Ticking.{same_until_kill}
use Rattle.whatif_rounds.proofs.laws.law_until_kill.Goals as goal

pub returns : goal.returns
returns c = same_until_kill
