use Rattle.std.proofs.Common.{◌≡◌, ◌≤◌, ◌<◌, ℕ, length}
use Rattle.replay_workers.specs.Watches.{HasSampled, watcher_at}
use Rattle.replay_workers.proofs.beside.sampled.Given as goal

abbrev pub invariant-watchers : goal.invariant-watchers
invariant-watchers g l = record {
  many : length l.watcher-items ≡ length l.fn.watchers.items;
  sampled : (k : ℕ) → k < l.watcher-index → HasSampled l.slot.0 (watcher_at l.fn.watchers.items k) (watcher_at l.watcher-items k);
  left : (k : ℕ) → l.watcher-index ≤ k → watcher_at l.watcher-items k ≡ watcher_at l.fn.watchers.items k;
}
