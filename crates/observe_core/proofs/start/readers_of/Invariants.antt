use Rattle.std.proofs.Common.{◌≡◌, ◌<◌, ℕ, length, Some}
use Rattle.proc_plan.specs.Plans.{plan_at}
use Rattle.replay_workers.specs.Crew.{row_at}
use Rattle.observer_log.specs.Watch.{named_by, reader_at}
use Rattle.observe_core.proofs.start.readers_of.Given as goal

abbrev pub invariant-cpus : goal.invariant-cpus
invariant-cpus l = record {
  same : l.replay ≡ l.fn.replay;
  many : length l.readers.items ≡ l.cpu;
  names : (cpu : ℕ) → cpu < l.cpu → named_by l.readers.items cpu ≡ plan_at l.fn.replay.plans cpu;
  rows : (cpu : ℕ) → cpu < l.cpu → Some (reader_at l.readers.items cpu).row ≡ row_at l.fn.replay.crew.rows cpu;
}
