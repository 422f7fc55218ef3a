use Rattle.run_laws.proofs.LiveTexts.{one_text_unwatched}
use Rattle.run_laws.proofs.laws.law_unwatched.Goals as goal

pub returns : goal.returns
returns c = one_text_unwatched
