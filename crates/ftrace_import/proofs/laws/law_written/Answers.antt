use Rattle.ftrace_import.proofs.Written as laws
use Rattle.ftrace_import.proofs.laws.law_written.Goals as goal

pub returns : goal.returns
returns c = laws.lines_are_written
