use Rattle.run_laws.proofs.OneMore.{kills_more, signals_more, text_more, ticks_more}
use Rattle.run_laws.proofs.laws.law_one_tick_more.Goals as goal

pub returns-clause-ticks : goal.returns-clause-ticks
returns-clause-ticks c = ticks_more

pub returns-clause-signals : goal.returns-clause-signals
returns-clause-signals c = signals_more

pub returns-clause-text : goal.returns-clause-text
returns-clause-text c = text_more

pub returns-clause-kills : goal.returns-clause-kills
returns-clause-kills c = kills_more
