use Rattle.kill_spec.proofs.VictimLaws.{descent_ends, victims_match}
use Rattle.kill_spec.proofs.laws.law_victims.Goals as goal

pub returns-clause-matching : goal.returns-clause-matching
returns-clause-matching c = victims_match

pub returns-clause-ends : goal.returns-clause-ends
returns-clause-ends c = descent_ends
