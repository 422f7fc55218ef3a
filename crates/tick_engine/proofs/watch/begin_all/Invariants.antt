use Rattle.std.proofs.Common.{◌≡◌, ℕ, ◌<◌, ◌≤◌}
use Rattle.tick_engine.specs.Step.{watch_begun, watch_in}
use Rattle.tick_engine.proofs.watch.begin_all.Given as goal

abbrev pub invariant-watches : goal.invariant-watches
invariant-watches l = record {
  done : (i : ℕ) → i < l.watch-index → watch_in l.watches i ≡ watch_begun l.groups l.now (watch_in l.fn.watches i);
  left : (i : ℕ) → l.watch-index ≤ i → watch_in l.watches i ≡ watch_in l.fn.watches i;
}
