use Rattle.import_spec.proofs.PlaceLaws as laws
use Rattle.import_spec.proofs.laws.law_places.Goals as goal

pub returns-clause-first : goal.returns-clause-first
returns-clause-first c = laws.finds_first

pub returns-clause-last : goal.returns-clause-last
returns-clause-last c = laws.finds_last

pub returns-clause-none : goal.returns-clause-none
returns-clause-none c = laws.finds_none
