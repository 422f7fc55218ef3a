use Rattle.replay_rules.proofs.JudgeLaws.{kills_at_reading, no_kills_between, none_without_rules}
use Rattle.replay_rules.proofs.JudgeLaws.{one_reading_more, readings_stay}
use Rattle.replay_rules.proofs.laws.law_evaluations.Goals as goal

pub returns-clause-stay : goal.returns-clause-stay
returns-clause-stay c = readings_stay

pub returns-clause-more : goal.returns-clause-more
returns-clause-more c = one_reading_more

pub returns-clause-between : goal.returns-clause-between
returns-clause-between c = no_kills_between

pub returns-clause-kills : goal.returns-clause-kills
returns-clause-kills c = kills_at_reading

pub returns-clause-without : goal.returns-clause-without
returns-clause-without c = none_without_rules
