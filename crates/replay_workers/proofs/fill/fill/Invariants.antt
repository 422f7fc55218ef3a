use Rattle.std.proofs.Common.{◌≡◌, ◌<◌, ℕ, length}
use Rattle.proc_plan.specs.Plans.{plan_at}
use Rattle.aggregate.specs.Table.{HasSizes, times_at}
use Rattle.replay_workers.specs.Crew.{times_by}
use Rattle.replay_workers.specs.Lanes.{AreKept}
use Rattle.replay_workers.proofs.fill.fill.Given as goal

abbrev pub invariant-slots : goal.invariant-slots
invariant-slots l = record {
  sizes : HasSizes (length l.plans.plans) (length l.plans.lives) l.rows;
  here : (at : ℕ) → AreKept l.plans l.batches l.tick at → (slot cpu : ℕ) → slot < l.slot → cpu < length l.plans.plans → times_at l.rows slot cpu ≡ times_by (plan_at l.plans cpu) slot at;
}
