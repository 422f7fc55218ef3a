use Rattle.pressure_spec.proofs.AverageLaws as laws
use Rattle.pressure_spec.proofs.arithmetic.law_averages.Goals as goal

pub returns-clause-most : goal.returns-clause-most
returns-clause-most c = laws.at_most_hundred

pub returns-clause-rises : goal.returns-clause-rises
returns-clause-rises c = laws.rises_when_stalled

pub returns-clause-falls : goal.returns-clause-falls
returns-clause-falls c = laws.falls_when_free

pub returns-clause-carries : goal.returns-clause-carries
returns-clause-carries c = laws.carries_the_rest

pub returns-clause-within : goal.returns-clause-within
returns-clause-within c = laws.samples_within_total
