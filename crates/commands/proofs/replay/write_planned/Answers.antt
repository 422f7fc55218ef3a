use Rattle.std.proofs.Common.{refl}
use Rattle.run_spec.specs.Outputs.{timing_of}
use Rattle.replay_rules.specs.Judged.{rules_of_options}
use Rattle.commands.proofs.ReplayLaws.{planned_text}
use Rattle.run_outcomes.proofs.RunLaws.{keeps_same}
use Rattle.commands.proofs.replay.write_planned.Goals as goal

pub prepare-requires-clause-planned : goal.prepare-requires-clause-planned
prepare-requires-clause-planned g c = (c.requires.planned.0, c.requires.planned.1)

pub returns-in-Err-clause-writes : goal.returns-in-Err-clause-writes
returns-in-Err-clause-writes g c = λ trace planned same.
    let some = planned_text c.args.plans.now trace (timing_of c.args.options.now) (rules_of_options c.args.rules) planned in
    (some.0, some.1, (keeps_same (g.K.Sink.has c.args.out.now), refl))

pub put_replay-requires-after_bounds : goal.put_replay-requires-after_bounds
put_replay-requires-after_bounds g c κs within =
    let planned = c.requires.planned in
    (planned.0, timing_of c.args.options.now, rules_of_options c.args.rules, c.in-Ok.ensures.replay planned.0 planned.1 planned.2)

pub returns-in-Ok-put_replay-clause-writes : goal.returns-in-Ok-put_replay-clause-writes
returns-in-Ok-put_replay-clause-writes g c = λ trace planned same.
    let put = c.in-Ok-put_replay.ensures.bytes trace (timing_of c.args.options.now) (rules_of_options c.args.rules) (c.in-Ok.ensures.replay trace planned same) in
    (put.0, put.1, (put.2, c.in-Ok-put_replay.ensures.cause.same))

pub returns-in-Err-put_replay-clause-writes : goal.returns-in-Err-put_replay-clause-writes
returns-in-Err-put_replay-clause-writes g c = λ trace planned same.
    let put = c.in-Err-put_replay.ensures.bytes trace (timing_of c.args.options.now) (rules_of_options c.args.rules) (c.in-Ok.ensures.replay trace planned same) in
    (put.0, put.1, (put.2, c.in-Err-put_replay.ensures.cause.failed))
