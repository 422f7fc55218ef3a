use Rattle.aggregate.proofs.TableLaws as laws
use Rattle.aggregate.proofs.rows.law_rows.Goals as goal

pub returns-clause-sizes : goal.returns-clause-sizes
returns-clause-sizes c = laws.keeps_sizes

pub returns-clause-places : goal.returns-clause-places
returns-clause-places c = laws.sets_one_place
