use Rattle.std.proofs.Common.{refl}
use Rattle.psi_spec.specs.Header.{version_of}
use Rattle.replay_rules.specs.Judged.{rules_of_options}
use Rattle.trace_file.specs.Reads.{trace_with}
use Rattle.commands.proofs.ReplayLaws.{some_text}
use Rattle.run_outcomes.proofs.Planned.{planned}
use Rattle.run_outcomes.proofs.RunLaws.{keeps_same}
use Rattle.commands.proofs.replay.write_replay.Goals as goal

pub write_planned-requires-clause-planned : goal.write_planned-requires-clause-planned
write_planned-requires-clause-planned g c κs within =
    let limits = c.requires.taken.0 in
    let events = c.requires.taken.1 in
    (trace_with (version_of c.args.version) limits.cpus events, planned (version_of c.args.version) c.args.planner c.in-Ok.plans c.args.options.now limits events c.requires.taken.2 c.in-Ok.ensures, refl)

pub write_planned-requires-clause-often : goal.write_planned-requires-clause-often
write_planned-requires-clause-often g c κs within = c.requires.taken.2.often

pub write_planned-requires-clause-workers : goal.write_planned-requires-clause-workers
write_planned-requires-clause-workers g c κs within = c.requires.taken.2.workers

pub returns-in-Ok-clause-writes : goal.returns-in-Ok-clause-writes
returns-in-Ok-clause-writes g c = λ limits events to_replay.
    c.write_planned.ensures.writes (trace_with (version_of c.args.version) limits.cpus events) (planned (version_of c.args.version) c.args.planner c.in-Ok.plans c.args.options.now limits events to_replay c.in-Ok.ensures) refl

pub returns-in-Err-clause-writes : goal.returns-in-Err-clause-writes
returns-in-Err-clause-writes g c = λ limits events to_replay.
    let some = some_text (version_of c.args.version) c.args.planner c.args.options.now limits events (rules_of_options c.args.rules) to_replay in
    (some.0, some.1, (keeps_same (g.K.Sink.has c.args.out.now), refl))
