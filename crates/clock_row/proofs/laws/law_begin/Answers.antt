use Rattle.clock_row.proofs.Keeps as laws
use Rattle.clock_row.proofs.laws.law_begin.Goals as goal

pub returns : goal.returns
returns c = laws.begin_keeps
