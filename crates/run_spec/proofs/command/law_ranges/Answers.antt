use Rattle.run_spec.proofs.RangeLaws.{command_ranges}
use Rattle.run_spec.proofs.command.law_ranges.Goals as goal

pub returns : goal.returns
returns c = command_ranges
