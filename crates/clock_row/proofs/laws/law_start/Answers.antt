use Rattle.clock_row.proofs.Keeps as laws
use Rattle.clock_row.proofs.laws.law_start.Goals as goal

pub returns : goal.returns
returns c = laws.start_holds
