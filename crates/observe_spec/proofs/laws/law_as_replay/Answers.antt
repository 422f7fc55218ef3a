use Rattle.observe_spec.proofs.RunLaws as laws
use Rattle.observe_spec.proofs.laws.law_as_replay.Goals as goal

pub returns-clause-options : goal.returns-clause-options
returns-clause-options c = laws.replay_has_these

pub returns-clause-traces : goal.returns-clause-traces
returns-clause-traces c = laws.traces_are_those_of_replay
