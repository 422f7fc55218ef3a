use Rattle.std.proofs.Common.{◌≡◌, ◌<◌, ℕ, length}
use Rattle.replay_workers.specs.Lanes.{IsNewBatch, batch_at}
use Rattle.replay_workers.proofs.deal.deal.Given as goal

abbrev pub invariant-workers : goal.invariant-workers
invariant-workers l = record {
  many : length l.batches.items ≡ l.worker;
  each : (worker : ℕ) → worker < length l.batches.items → IsNewBatch l.plans l.room l.in_rows l.workers worker (batch_at l.batches.items worker);
}
