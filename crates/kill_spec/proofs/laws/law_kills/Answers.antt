use Rattle.kill_spec.proofs.KillLaws as laws
use Rattle.kill_spec.proofs.laws.law_kills.Goals as goal

pub returns-clause-apart : goal.returns-clause-apart
returns-clause-apart c = laws.apart

pub returns-clause-once : goal.returns-clause-once
returns-clause-once c = laws.once

pub returns-clause-of_actions : goal.returns-clause-of_actions
returns-clause-of_actions c = laws.of_actions
