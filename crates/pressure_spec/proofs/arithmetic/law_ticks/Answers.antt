use Rattle.pressure_spec.proofs.SampleLaws as laws
use Rattle.pressure_spec.proofs.WithinLaws as within
use Rattle.pressure_spec.proofs.arithmetic.law_ticks.Goals as goal

pub returns-clause-sum : goal.returns-clause-sum
returns-clause-sum c = laws.total_is_sum

pub returns-clause-unchanged : goal.returns-clause-unchanged
returns-clause-unchanged c = laws.totals_never_fall

pub returns-clause-most : goal.returns-clause-most
returns-clause-most c = laws.groups_at_most_hundred

pub returns-clause-apart : goal.returns-clause-apart
returns-clause-apart c = laws.fired_apart

pub returns-clause-shares : goal.returns-clause-shares
returns-clause-shares c = within.next_shares_within

pub returns-clause-within : goal.returns-clause-within
returns-clause-within c = within.totals_within

pub returns-clause-bound : goal.returns-clause-bound
returns-clause-bound c = within.irq_total_bound
