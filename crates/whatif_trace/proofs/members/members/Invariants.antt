use Rattle.std.proofs.Common.{◌≡◌, ℕ, ◌-◌, ◌≤◌, length, drop}
use Rattle.std.specs.Prelude.{◌&&◌, ◌||◌}
use Rattle.std.specs.List.Sorted.{IsStrictlySortedBy}
use Rattle.std.specs.Ordering.{nat_cmp}
use Rattle.whatif_spec.specs.Without.{is_pid_among}
use Rattle.whatif_trace.specs.Left.{is_made, is_member}
use Rattle.whatif_trace.proofs.members.members.Given as goal

abbrev pub invariant-events : goal.invariant-events
invariant-events l = record {
  inside : l.at ≤ length l.events;
  sorted : IsStrictlySortedBy nat_cmp l.members.keys;
  among : (pid : ℕ) → (is_pid_among l.members.keys pid || (is_made pid (drop l.at l.events) && is_member l.table.world l.victim.0 pid)) ≡ (is_made pid l.events && is_member l.table.world l.victim.0 pid);
}

abbrev pub decreases-events : goal.decreases-events
decreases-events l = length l.events - l.at
