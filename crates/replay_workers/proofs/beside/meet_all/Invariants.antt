use Rattle.std.proofs.Common.{◌≡◌, ◌≤◌, ◌<◌, ℕ, length}
use Rattle.replay_workers.specs.Lanes.{lane_of}
use Rattle.replay_workers.specs.Watches.{HasMet, watcher_at}
use Rattle.replay_workers.proofs.beside.meet_all.Given as goal

abbrev pub invariant-watchers : goal.invariant-watchers
invariant-watchers l = record {
  same : l.batches ≡ l.fn.batches;
  many : length l.watchers ≡ length l.fn.watchers;
  met : (k : ℕ) → k < l.watcher-index → HasMet l.slot.0 (lane_of l.fn.batches k).on (watcher_at l.fn.watchers k) (watcher_at l.watchers k);
  left : (k : ℕ) → l.watcher-index ≤ k → watcher_at l.watchers k ≡ watcher_at l.fn.watchers k;
}
