use Rattle.std.proofs.Common.{◌≡◌, ◌≤◌, ◌<◌, ℕ, length}
use Rattle.replay_workers.specs.Watches.{HasCleared, watcher_at}
use Rattle.replay_workers.proofs.beside.clear.Given as goal

abbrev pub invariant-watchers : goal.invariant-watchers
invariant-watchers l = record {
  many : length l.watchers ≡ length l.fn.watchers;
  cleared : (k : ℕ) → k < l.watcher-index → HasCleared (watcher_at l.fn.watchers k) (watcher_at l.watchers k);
  left : (k : ℕ) → l.watcher-index ≤ k → watcher_at l.watchers k ≡ watcher_at l.fn.watchers k;
}
