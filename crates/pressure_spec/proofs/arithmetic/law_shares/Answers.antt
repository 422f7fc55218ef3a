use Rattle.pressure_spec.proofs.ShareLaws as laws
use Rattle.pressure_spec.proofs.arithmetic.law_shares.Goals as goal

pub returns-clause-mean : goal.returns-clause-mean
returns-clause-mean c = laws.share_is_mean

pub returns-clause-idle : goal.returns-clause-idle
returns-clause-idle c = laws.idle_has_none

pub returns-clause-totals : goal.returns-clause-totals
returns-clause-totals c = laws.totals_grow

pub returns-clause-within : goal.returns-clause-within
returns-clause-within c = laws.shares_within

pub returns-clause-sum : goal.returns-clause-sum
returns-clause-sum c = laws.share_within_sum

pub returns-clause-fits : goal.returns-clause-fits
returns-clause-fits c = laws.share_sum_fits
