-- Defines counts of tasks, the states of a group that follow from them, and masks, which are sets
-- of states.
use Rattle.std.specs.Prelude.{◌≡◌, ℕ, ◌≤◌, ◌<◌, List, length, filter, nat_lt, ◌==◌, ◌&&◌, ◌||◌, not, Bool, if◌then◌else◌}
use Rattle.std.specs.List.{list_any}
use Rattle.std.specs.Int.{bit_at}
use Rattle.psi_base.specs.declared.event.State.{State}
use Rattle.psi_base.specs.declared.event.State.TheVariants.{IoSome, IoFull, MemSome, MemFull, CpuSome, CpuFull, Nonidle}
use Rattle.psi_spec.specs.declared.machine.Task.{Task}
use Rattle.psi_counts.specs.declared.changes.Counts.{Counts}
use Rattle.psi_spec.specs.Stall.{holds_of, waits, runs, is_up, stalls, state_number}

-- ---- counts of tasks

-- `how_many test tasks`: the number of tasks in the list `tasks` for which `test` is true.
abbrev pub how_many : (Task → Bool) → List Task → ℕ
how_many test tasks = length (filter test tasks)

-- Returns whether a task is in a memory stall while it is ready or running.
abbrev pub is_up_stalled : Task → Bool
is_up_stalled task = is_up task && stalls task

-- Returns whether a task is in a memory stall while it is running.
abbrev pub runs_stalled : Task → Bool
runs_stalled task = runs task && stalls task

-- The four counts of a list of tasks: the tasks that wait for IO, the tasks in a memory stall, the
-- tasks that are ready or running, and the tasks that are ready or running in a memory stall. The
-- kernel stores these counts as tasks[NR_IOWAIT], tasks[NR_MEMSTALL], tasks[NR_RUNNING] and
-- tasks[NR_MEMSTALL_RUNNING].
abbrev pub counts_among : List Task → Counts
counts_among tasks =
    record {
      io = how_many waits tasks;
      stalled = how_many stalls tasks;
      running = how_many is_up tasks;
      stalled_running = how_many is_up_stalled tasks;
    }

-- Returns whether a group is in a state, from the counts of its tasks. This follows the kernel's
-- test_states (and psi_group_change for a running task in a memory stall). `on_cpu` is whether the
-- processor's running task is among the counted tasks (PSI_ONCPU), and `current_stalled` is whether
-- the running task is in a memory stall.
abbrev pub shows : State → Counts → Bool → Bool → Bool
shows IoSome counts on_cpu current_stalled = nat_lt 0 counts.io
shows IoFull counts on_cpu current_stalled = nat_lt 0 counts.io && counts.running == 0
shows MemSome counts on_cpu current_stalled = nat_lt 0 counts.stalled
shows MemFull counts on_cpu current_stalled =
    (nat_lt 0 counts.stalled && counts.running == counts.stalled_running) || (on_cpu && current_stalled)
shows CpuSome counts on_cpu current_stalled = if on_cpu then nat_lt 1 counts.running else nat_lt 0 counts.running
shows CpuFull counts on_cpu current_stalled = nat_lt 0 counts.running && not on_cpu
shows Nonidle counts on_cpu current_stalled = nat_lt 0 counts.io || nat_lt 0 counts.stalled || nat_lt 0 counts.running

-- At most one task of the list `tasks` is running. `on_cpu` is whether a task of the list is
-- running. If so, `current_stalled` is whether the running task is in a memory stall.
pub record IsRunningKnown (tasks : List Task) (on_cpu current_stalled : Bool) : Type 0 where
  pub at_most_one : how_many runs tasks ≤ 1
  pub one_runs : on_cpu ≡ list_any runs tasks
  pub it_is_stalled : (on_cpu && current_stalled) ≡ list_any runs_stalled tasks

-- The counts of a list of tasks and its running task determine the states of a group with these
-- tasks.
abbrev pub CountsShow : Type 0
CountsShow = (tasks : List Task) (on_cpu current_stalled : Bool) → IsRunningKnown tasks on_cpu current_stalled → (state : State) →
    holds_of state tasks ≡ shows state (counts_among tasks) on_cpu current_stalled

-- ---- masks (sets of states)

-- The number `mask` is a set of states: it contains only the bits of the seven states.
abbrev pub IsMask : ℕ → Type 0
IsMask mask = mask < 128

-- Returns whether a mask contains a state: the bit with the state's number is set.
abbrev pub mask_holds : ℕ → State → Bool
mask_holds mask state = bit_at mask (state_number state) == 1

-- Two masks are equal if they contain the same states.
abbrev pub MasksAreTheirStates : Type 0
MasksAreTheirStates =
    (one other : ℕ) → IsMask one → IsMask other → ((state : State) → mask_holds one state ≡ mask_holds other state) → one ≡ other
