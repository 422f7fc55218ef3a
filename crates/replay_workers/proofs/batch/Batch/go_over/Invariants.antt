use Rattle.std.proofs.Common.{◌≡◌, ◌≤◌, ◌<◌, ℕ, length}
use Rattle.replay_workers.specs.Lanes.{HasGone, lane_at}
use Rattle.replay_workers.proofs.batch.Batch.go_over.Given as goal

abbrev pub invariant-lanes : goal.invariant-lanes
invariant-lanes g l = record {
  many : length l.lane-items ≡ length l.fn.self;
  gone : (k : ℕ) → k < l.lane-index → HasGone l.ticks (lane_at l.fn.self k) (lane_at l.lane-items k);
  left : (k : ℕ) → l.lane-index ≤ k → lane_at l.lane-items k ≡ lane_at l.fn.self k;
}
