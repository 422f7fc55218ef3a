use Rattle.std.proofs.Common.{◌≡◌, ◌-◌, ◌≤◌, length, take}
use Rattle.ftrace_import.specs.Deeds.{events_by}
use Rattle.ftrace_import.proofs.text.all_events.Given as goal

abbrev pub invariant-kept : goal.invariant-kept
invariant-kept l = record {
  inside : l.at ≤ length l.g.kept.items;
  so_far : l.events.items ≡ events_by (take l.at l.g.kept.items);
}

abbrev pub decreases-kept : goal.decreases-kept
decreases-kept l = length l.g.kept.items - l.at
