use Rattle.std.proofs.Common.{sym}
use Rattle.run_spec.specs.Outputs.{timing_of}
use Rattle.whatif_rounds.specs.Rounds.{trace_from}
use Rattle.replay_core.proofs.WhatifLaws.{last_written, none_left}
use Rattle.replay_core.proofs.whatif.write_whatif.Goals as goal

pub write_planned-requires-clause-planned : goal.write_planned-requires-clause-planned
write_planned-requires-clause-planned g c κs within =
    let last = c.in-Ok.ensures in
    (last.0, last.3, sym last.2)

pub write_planned-requires-clause-often : goal.write_planned-requires-clause-often
write_planned-requires-clause-often g c κs within = c.requires.options.often

pub write_planned-requires-clause-workers : goal.write_planned-requires-clause-workers
write_planned-requires-clause-workers g c κs within = c.requires.options.workers

pub returns-in-Ok-clause-writes : goal.returns-in-Ok-clause-writes
returns-in-Ok-clause-writes g c =
    let last = c.in-Ok.ensures in
    last_written (trace_from c.args.version c.args.cpus c.args.events.items) last.0 (timing_of c.args.options.now) c.args.rules.rules _ _ _ _ c.write_planned.result last.1 (c.write_planned.ensures.writes last.0 last.3 (sym last.2))

pub returns-in-Err-clause-writes : goal.returns-in-Err-clause-writes
returns-in-Err-clause-writes g c =
    none_left c.args.options.now (trace_from c.args.version c.args.cpus c.args.events.items) c.args.rules.rules _ _ c.in-Err.fault c.rounds_status.result c.in-Err.ensures c.rounds_status.ensures
