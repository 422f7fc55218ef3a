use Rattle.std.proofs.Common.{◌≡◌, ◌<◌, ℕ, length}
use Rattle.proc_plan.specs.Room.{HasRoom, lists_of}
use Rattle.proc_plan.proofs.room.reserve_all.Given as goal

abbrev pub invariant-cpus : goal.invariant-cpus
invariant-cpus l = record {
  same : lists_of l.changes ≡ lists_of l.fn.changes;
  each : length l.changes ≡ length l.fn.changes;
  room : (cpu : ℕ) → cpu < l.place → HasRoom l.changes cpu;
}
