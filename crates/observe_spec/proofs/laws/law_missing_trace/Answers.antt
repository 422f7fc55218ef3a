use Rattle.observe_spec.proofs.RunLaws as laws
use Rattle.observe_spec.proofs.laws.law_missing_trace.Goals as goal

pub returns : goal.returns
returns c = laws.missing_trace_shows
