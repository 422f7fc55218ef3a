use Rattle.observe_spec.proofs.SampleLaws as laws
use Rattle.observe_spec.proofs.laws.law_observed.Goals as goal

pub returns-clause-counts : goal.returns-clause-counts
returns-clause-counts c = laws.counts_of_changes

pub returns-clause-share : goal.returns-clause-share
returns-clause-share c = laws.each_takes_its_share
