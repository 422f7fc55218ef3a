use Rattle.run_spec.proofs.ReadCalls.{command_calls, file_calls}
use Rattle.run_spec.proofs.status.law_reads.Goals as goal

pub returns-clause-file : goal.returns-clause-file
returns-clause-file c = file_calls

pub returns-clause-command : goal.returns-clause-command
returns-clause-command c = command_calls
