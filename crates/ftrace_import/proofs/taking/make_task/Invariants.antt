use Rattle.std.proofs.Common.{◌≡◌, ◌-◌, ◌≤◌, length, drop}
use Rattle.import_spec.specs.Events.{make_task}
use Rattle.ftrace_import.specs.Deeds.{acts_in}
use Rattle.ftrace_import.proofs.taking.make_task.Given as goal

abbrev pub invariant-kept : goal.invariant-kept
invariant-kept l = record {
  inside : l.at ≤ length l.kept;
  rest : make_task (acts_in (drop l.at l.kept)) ≡ make_task (acts_in l.kept);
}

abbrev pub decreases-kept : goal.decreases-kept
decreases-kept l = length l.kept - l.at
