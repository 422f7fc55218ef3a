use Rattle.std.proofs.Common.{◌≡◌, length}
use Rattle.observe_core.specs.Driving.{AreLasts, ArePreparedChanges, made_by}
use Rattle.observe_core.proofs.ready.ready.Given as goal

abbrev pub invariant-cpus : goal.invariant-cpus
invariant-cpus l = record {
  same : l.replay ≡ l.fn.replay;
  prepared_changes : ArePreparedChanges (made_by l.fn.replay.crew) l.place l.fn.watcher l.watcher;
  many : length l.lasts.items ≡ length l.fn.lasts.items;
  lasts : AreLasts l.fn.replay.plans l.slot.0 (made_by l.fn.replay.crew) l.place l.lasts.items;
}
