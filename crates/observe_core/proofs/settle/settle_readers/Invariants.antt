use Rattle.std.proofs.Common.{◌≡◌}
use Rattle.observe_core.specs.Driving.{AreWithin, made_by}
use Rattle.observe_core.proofs.settle.settle_readers.Given as goal

abbrev pub invariant-cpus : goal.invariant-cpus
invariant-cpus l = record {
  same : l.replay ≡ l.fn.replay;
  watcher : l.watcher ≡ l.fn.watcher;
  within : AreWithin (made_by l.fn.replay.crew) l.place l.fn.watcher;
}
