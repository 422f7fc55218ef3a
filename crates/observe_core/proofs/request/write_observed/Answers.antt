use Rattle.observe_core.proofs.RunLaws.{finish_early}
use Rattle.observe_core.proofs.request.write_observed.Goals as goal

pub samples_requested-samples-requires-clause-early : goal.samples_requested-samples-requires-clause-early
samples_requested-samples-requires-clause-early g c =
    let planned = c.requires.planned in
    finish_early c.args.plans.now planned.0 c.args.version c.args.request.now.path planned.1
