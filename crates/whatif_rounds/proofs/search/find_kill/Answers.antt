use Rattle.run_spec.specs.Outputs.{timing_of}
use Rattle.replay_rules.specs.Judged.{rules_of_options}
use Rattle.whatif_rounds.proofs.search.find_kill.Goals as goal

pub prepare-requires-clause-planned : goal.prepare-requires-clause-planned
prepare-requires-clause-planned g c = (c.requires.planned.0, c.requires.planned.1)

pub kill_of-requires-after_bounds : goal.kill_of-requires-after_bounds
kill_of-requires-after_bounds g c κs within =
    let planned = c.requires.planned in
    (planned.0, timing_of c.args.options.now, rules_of_options c.args.rules, c.in_ok-replay.ensures.replay planned.0 planned.1 planned.2)

pub returns : goal.returns
returns g c = λ trace planned same. c.kill_of.ensures trace (timing_of c.args.options.now) (rules_of_options c.args.rules) (c.in_ok-replay.ensures.replay trace planned same)
