-- Defines the seven conditions that determine a group's states on a processor, and an index for
-- each combination of conditions. A table in src/states.rt contains the mask of states for each
-- index.
use Rattle.std.specs.Prelude.{ℕ, ◌+◌, ◌*◌, nat_lt, ◌==◌, ◌&&◌, ◌||◌, not, Bool, if◌then◌else◌}
use Rattle.psi_base.specs.declared.event.State.{State}
use Rattle.psi_base.specs.declared.event.State.TheVariants.{IoSome, IoFull, MemSome, MemFull, CpuSome, CpuFull, Nonidle}
use Rattle.psi_counts.specs.declared.changes.Counts.{Counts}

-- Returns 1 for true and 0 for false.
abbrev pub bit_of : Bool → ℕ
bit_of so = if so then 1 else 0

-- Returns the table index for seven conditions on a group. The first condition is the lowest bit of
-- the index. `waits`: a task waits for IO. `stalls`: a task is in a memory stall. `ready`: a task
-- is ready or running. `all_stalled`: all ready or running tasks are in a memory stall. `on_cpu`:
-- the processor's running task is in the group. `current_stalled`: the running task is in a memory
-- stall. `beside`: a task other than the running task is ready.
abbrev pub place_of : (waits stalls ready all_stalled on_cpu current_stalled beside : Bool) → ℕ
place_of waits stalls ready all_stalled on_cpu current_stalled beside =
    bit_of waits + 2 * bit_of stalls + 4 * bit_of ready + 8 * bit_of all_stalled + 16 * bit_of on_cpu + 32 * bit_of current_stalled
    + 64 * bit_of beside

-- `place_by counts on_cpu current_stalled`: the table index for a group with the task counts
-- `counts`. `on_cpu` is whether the processor's running task is in the group, and `current_stalled`
-- is whether the running task is in a memory stall.
abbrev pub place_by : Counts → Bool → Bool → ℕ
place_by counts on_cpu current_stalled =
    place_of (nat_lt 0 counts.io) (nat_lt 0 counts.stalled) (nat_lt 0 counts.running)
    (counts.running == counts.stalled_running) on_cpu current_stalled
    (if on_cpu then nat_lt 1 counts.running else nat_lt 0 counts.running)

-- Returns whether a group is in the given state, from the seven conditions. The conditions have the
-- same names and meanings as the parameters of `place_of`.
abbrev pub shows_by : State → (waits stalls ready all_stalled on_cpu current_stalled beside : Bool) → Bool
shows_by IoSome waits stalls ready all_stalled on_cpu current_stalled beside = waits
shows_by IoFull waits stalls ready all_stalled on_cpu current_stalled beside = waits && not ready
shows_by MemSome waits stalls ready all_stalled on_cpu current_stalled beside = stalls
shows_by MemFull waits stalls ready all_stalled on_cpu current_stalled beside = (stalls && all_stalled) || (on_cpu && current_stalled)
shows_by CpuSome waits stalls ready all_stalled on_cpu current_stalled beside = beside
shows_by CpuFull waits stalls ready all_stalled on_cpu current_stalled beside = ready && not on_cpu
shows_by Nonidle waits stalls ready all_stalled on_cpu current_stalled beside = waits || stalls || ready
