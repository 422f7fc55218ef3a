use Rattle.std.proofs.Common.{◌≡◌, ◌+◌, ◌*◌, ◌<◌, ℕ, length}
use Rattle.aggregate.specs.Table.{HasSizes}
use Rattle.replay_workers.specs.Lanes.{AreKept, FillsRow}
use Rattle.replay_workers.proofs.fill.fill_row.Given as goal

abbrev pub invariant-cpus : goal.invariant-cpus
invariant-cpus l = record {
  worker : l.at.worker < length l.batches;
  next : l.at.place * length l.batches + l.at.worker ≡ l.cpu;
  sizes : HasSizes (length l.plans.plans) (length l.plans.lives) l.rows;
  filled : (at : ℕ) → AreKept l.plans l.batches l.tick at → FillsRow l.fn.rows l.rows l.plans l.slot.0 l.cpu at;
}
