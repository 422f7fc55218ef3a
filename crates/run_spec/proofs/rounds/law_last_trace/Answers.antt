use Rattle.run_spec.proofs.LastTrace.{last_outgrown, last_without_kill, outgrown_at_round}
use Rattle.run_spec.proofs.rounds.law_last_trace.Goals as goal

pub returns-clause-left : goal.returns-clause-left
returns-clause-left c = last_without_kill

pub returns-clause-outgrown : goal.returns-clause-outgrown
returns-clause-outgrown c = last_outgrown

pub returns-clause-at_round : goal.returns-clause-at_round
returns-clause-at_round c = outgrown_at_round
