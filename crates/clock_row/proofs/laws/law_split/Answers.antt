use Rattle.clock_row.proofs.Keeps as laws
use Rattle.clock_row.proofs.laws.law_split.Goals as goal

pub returns : goal.returns
returns c = laws.split_keeps
