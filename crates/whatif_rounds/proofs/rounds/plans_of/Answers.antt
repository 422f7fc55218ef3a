use Rattle.psi_spec.specs.Trace.{limits_of}
use Rattle.run_spec.specs.Outputs.{of_ms}
use Rattle.whatif_rounds.proofs.Taking.{never_refused}
use Rattle.whatif_rounds.proofs.rounds.plans_of.Goals as goal

pub unreachable-requires : goal.unreachable-requires
unreachable-requires c =
    let refused = rw (c.in-Err-Refused.field-0-is, c.latest_of.ensures) at c.in-Err-Refused.ensures.refused in
    never_refused (limits_of (of_ms c.args.options.now.tick_ms) c.args.cpus) c.args.events.now c.in-Err-Refused.field-0-0 c.requires.accepted refused
