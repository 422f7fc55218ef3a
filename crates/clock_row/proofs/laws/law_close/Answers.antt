use Rattle.clock_row.proofs.Keeps as laws
use Rattle.clock_row.proofs.laws.law_close.Goals as goal

pub returns : goal.returns
returns c = laws.close_keeps
