use Rattle.ruleset_json.proofs.FirstFaults.{reads_each}
use Rattle.ruleset_json.proofs.laws.law_lists_are_read.Goals as goal

pub returns-clause-detectors : goal.returns-clause-detectors
returns-clause-detectors c = reads_each

pub returns-clause-groups : goal.returns-clause-groups
returns-clause-groups c = reads_each

pub returns-clause-actions : goal.returns-clause-actions
returns-clause-actions c = reads_each

pub returns-clause-rules : goal.returns-clause-rules
returns-clause-rules c = reads_each
