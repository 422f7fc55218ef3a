use Rattle.pressure_spec.proofs.SignalLaws as laws
use Rattle.pressure_spec.proofs.arithmetic.law_signals.Goals as goal

pub returns-clause-apart : goal.returns-clause-apart
returns-clause-apart c = laws.signals_apart

pub returns-clause-pending : goal.returns-clause-pending
returns-clause-pending c = laws.pending_is_signalled

pub returns-clause-remembers : goal.returns-clause-remembers
returns-clause-remembers c = laws.remembers_last

pub returns-clause-quiet : goal.returns-clause-quiet
returns-clause-quiet c = laws.quiet_when_still
