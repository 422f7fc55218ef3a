use Rattle.ftrace_import.proofs.Whole as laws
use Rattle.ftrace_import.proofs.laws.law_lines.Goals as goal

pub returns-clause-switch : goal.returns-clause-switch
returns-clause-switch c = laws.switch_runs_next

pub returns-clause-wakeup : goal.returns-clause-wakeup
returns-clause-wakeup c = laws.wakeup_awakes
