use Rattle.trace_gen.proofs.Accepting.{generated_count, generated_is_trace}
use Rattle.trace_gen.proofs.laws.law_generated.Goals as goal

pub returns-clause-trace : goal.returns-clause-trace
returns-clause-trace c = generated_is_trace

pub returns-clause-count : goal.returns-clause-count
returns-clause-count c = generated_count
