use Rattle.ftrace_import.proofs.Whole as laws
use Rattle.ftrace_import.proofs.laws.law_imported.Goals as goal

pub returns : goal.returns
returns c = laws.imported_is_trace
