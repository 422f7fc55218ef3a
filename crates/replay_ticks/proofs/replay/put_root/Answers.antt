use Rattle.replay_ticks.proofs.RootLaws.{root_fits}
use Rattle.replay_ticks.proofs.replay.put_root.Goals as goal

pub tick_moment-at-requires : goal.tick_moment-at-requires
tick_moment-at-requires g c = root_fits c.args.plans.now c.args.engine.now c.args.run_timing c.requires.0 c.requires.1 c.args.tick c.requires.2
