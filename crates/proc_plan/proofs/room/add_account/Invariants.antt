use Rattle.std.proofs.Common.{◌≡◌, ◌<◌, ◌≤◌, ◌++◌, ◌∷◌, [], ℕ, length}
use Rattle.psi_counts.specs.Touch.{account_change, shown}
use Rattle.psi_spec.specs.World.{running_on}
use Rattle.proc_plan.specs.Room.{HasRoomWithin, changes_in}
use Rattle.proc_plan.proofs.room.add_account.Given as goal

-- The processors before this one have the change, and the lists of the other processors are
-- unchanged.
abbrev pub invariant-cpus : goal.invariant-cpus
invariant-cpus l = record {
  each : length l.changes ≡ length l.fn.changes;
  room : (cpu : ℕ) → l.cpu ≤ cpu → HasRoomWithin l.changes cpu;
  added : (cpu : ℕ) → cpu < l.cpu → changes_in l.changes cpu ≡ changes_in l.fn.changes cpu ++ account_change l.at (shown (running_on l.table.world.tasks cpu)) l.account ∷ [];
  others : (cpu : ℕ) → l.cpu ≤ cpu → changes_in l.changes cpu ≡ changes_in l.fn.changes cpu;
}
