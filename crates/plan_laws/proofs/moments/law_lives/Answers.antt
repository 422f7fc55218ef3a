use Rattle.plan_laws.proofs.MomentsLives as laws
use Rattle.plan_laws.proofs.moments.law_lives.Goals as goal

pub returns-clause-live : goal.returns-clause-live
returns-clause-live c = laws.lives_show_live

pub returns-clause-lives : goal.returns-clause-lives
returns-clause-lives c = laws.lives_are_in_order

pub returns-clause-slots : goal.returns-clause-slots
returns-clause-slots c = laws.groups_keep_slots
