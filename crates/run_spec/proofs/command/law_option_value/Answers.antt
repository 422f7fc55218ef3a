use Rattle.run_spec.proofs.WordTables.{value_may_follow}
use Rattle.run_spec.proofs.command.law_option_value.Goals as goal

pub returns : goal.returns
returns c = value_may_follow
