use Rattle.std.proofs.Common.{◌≡◌, ◌+◌, ◌-◌, ◌*◌, ◌<◌, ◌≤◌, ℕ, length}
use Rattle.std.specs.Prelude.{is_some}
use Rattle.replay_workers.specs.Lanes.{IsLaneOf, lane_at, no_ticks}
use Rattle.replay_workers.proofs.deal.deal_batch.Given as goal

abbrev pub invariant-cpus : goal.invariant-cpus
invariant-cpus l = record {
  next : l.cpu ≡ length l.lanes.items * l.workers + l.worker;
  few : l.cpu ≤ 128;
  each : (k : ℕ) → k < length l.lanes.items → IsLaneOf l.plans no_ticks l.room (k * l.workers + l.worker) (lane_at l.lanes.items k);
  fresh : (k : ℕ) → k < length l.lanes.items → (lane_at l.lanes.items k).on.made ≡ 0;
  rows : (k : ℕ) → k < length l.lanes.items → is_some (lane_at l.lanes.items k).row ≡ l.in_rows;
}

abbrev pub decreases-cpus : goal.decreases-cpus
decreases-cpus l = 128 - l.cpu
