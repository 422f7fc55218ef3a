use Rattle.clock_row.proofs.Keeps as laws
use Rattle.clock_row.proofs.laws.law_load.Goals as goal

pub returns : goal.returns
returns c = laws.load_keeps
