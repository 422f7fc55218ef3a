use Rattle.std.proofs.Common.{◌≡◌, ◌-◌, ◌≤◌, length, drop}
use Rattle.psi_spec.specs.Refusal.{AreLegal}
use Rattle.psi_spec.specs.World.{after_from}
use Rattle.ftrace_import.specs.Deeds.{events_by}
use Rattle.ftrace_import.proofs.taking.play_all.Given as goal

abbrev pub invariant-kept : goal.invariant-kept
invariant-kept l = record {
  inside : l.at ≤ length l.kept;
  limits : l.table.limits ≡ l.fn.table.limits;
  legal : AreLegal l.table.limits l.table.world (events_by (drop l.at l.kept));
  world : after_from l.table.world (events_by (drop l.at l.kept)) ≡ after_from l.fn.table.world (events_by l.kept);
}

abbrev pub decreases-kept : goal.decreases-kept
decreases-kept l = length l.kept - l.at
