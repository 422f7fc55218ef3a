use Rattle.ruleset_json.proofs.FirstFaults.{refuses_first}
use Rattle.ruleset_json.proofs.laws.law_first_faults.Goals as goal

pub returns-clause-detectors : goal.returns-clause-detectors
returns-clause-detectors c = refuses_first

pub returns-clause-groups : goal.returns-clause-groups
returns-clause-groups c = refuses_first

pub returns-clause-actions : goal.returns-clause-actions
returns-clause-actions c = refuses_first

pub returns-clause-rules : goal.returns-clause-rules
returns-clause-rules c = refuses_first
