use Rattle.std.proofs.Common.{arith}
use Rattle.tick_engine.specs.Step.{no_watch, watch_begun}
use Rattle.tick_engine.proofs.StepLaws.{map_all}
use Rattle.tick_engine.proofs.watch.begin_all.Goals as goal

pub returns : goal.returns
returns c = map_all (watch_begun c.args.groups.now c.args.now) c.args.watches.now c.watches.watches no_watch no_watch (omega arith) (λ i below. c.watches.invariant.done i (omega arith))
