use Rattle.trace_laws.proofs.Accepting as laws
use Rattle.trace_laws.proofs.traces.law_traces.Goals as goal

pub returns-clause-accepted : goal.returns-clause-accepted
returns-clause-accepted c = laws.accepted

pub returns-clause-refused : goal.returns-clause-refused
returns-clause-refused c = laws.refused_first
