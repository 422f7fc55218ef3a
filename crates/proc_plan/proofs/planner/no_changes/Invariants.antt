use Rattle.std.proofs.Common.{◌≡◌, ℕ, [], length}
use Rattle.proc_plan.specs.Room.{changes_in}
use Rattle.proc_plan.proofs.planner.no_changes.Given as goal

abbrev pub invariant-cpus : goal.invariant-cpus
invariant-cpus l = record {
  each : length l.changes.items ≡ l.counter;
  none : (cpu : ℕ) → changes_in l.changes.items cpu ≡ [];
}
