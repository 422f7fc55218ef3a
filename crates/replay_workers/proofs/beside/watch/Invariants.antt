use Rattle.std.proofs.Common.{◌≡◌, ◌<◌, ℕ, length}
use Rattle.replay_workers.specs.Lanes.{lane_of}
use Rattle.replay_workers.specs.Watches.{IsNewWatcher, watcher_at}
use Rattle.replay_workers.proofs.beside.watch.Given as goal

abbrev pub invariant-cpus : goal.invariant-cpus
invariant-cpus l = record {
  same : l.batches ≡ l.fn.batches;
  many : length l.watchers.items ≡ l.cpu;
  each : (cpu : ℕ) → cpu < length l.watchers.items → IsNewWatcher cpu l.requested (lane_of l.fn.batches cpu).row (lane_of l.fn.batches cpu).on.plan (watcher_at l.watchers.items cpu);
}
