use Rattle.trace_gen.specs.Writing.{shape_by}
use Rattle.trace_gen.proofs.Sending.{all_fit}
use Rattle.trace_gen.proofs.text.generate.Goals as goal

pub put_trace-requires-clause-fit : goal.put_trace-requires-clause-fit
put_trace-requires-clause-fit g c = all_fit (shape_by c.args.seed c.args.cpus c.args.groups c.args.events) c.requires c.in_ok-generator.generator c.in_ok-generator.ensures
