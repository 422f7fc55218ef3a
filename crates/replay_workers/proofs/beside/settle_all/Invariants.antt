use Rattle.std.proofs.Common.{◌≡◌, ◌≤◌, ◌<◌, ℕ}
use Rattle.replay_workers.specs.Lanes.{lane_of}
use Rattle.replay_workers.specs.Watches.{watcher_at}
use Rattle.replay_workers.proofs.beside.settle_all.Given as goal

abbrev pub invariant-watchers : goal.invariant-watchers
invariant-watchers l = record {
  lanes : l.batches ≡ l.fn.batches;
  same : l.watchers ≡ l.fn.watchers;
  settled : (k : ℕ) → k < l.watcher-index → (watcher_at l.fn.watchers k).knows.seen ≤ (lane_of l.fn.batches k).on.made;
}
