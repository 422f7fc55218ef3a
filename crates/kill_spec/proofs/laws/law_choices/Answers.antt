use Rattle.kill_spec.proofs.ChoiceLaws.{largest_is_choice, unbeaten_is_choice}
use Rattle.kill_spec.proofs.laws.law_choices.Goals as goal

pub returns-clause-by_measure : goal.returns-clause-by_measure
returns-clause-by_measure c = unbeaten_is_choice

pub returns-clause-largest : goal.returns-clause-largest
returns-clause-largest c = largest_is_choice
