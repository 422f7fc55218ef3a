-- The states of a group on a processor, the time (ns) that a group spent in each state, and the
-- time (ns) that interrupts took from a group.
use Rattle.std.specs.Prelude.{ℕ, zero, suc, ◌+◌, ◌-◌, List, [], ◌∷◌, length, sum, map, take, filter, slice_get, slice_index_or, ◌==◌, ◌&&◌, ◌||◌, not, Bool, false, if◌then◌else◌, Option, None, Some}
use Rattle.std.specs.List.{list_any, list_all, range_with_len}
use Rattle.std.specs.FinMap as tasks_by
use Rattle.psi_base.specs.declared.event.Slot.{Slot}
pub use Rattle.psi_base.specs.States.{state_number}
use Rattle.psi_base.specs.declared.event.State.{State}
use Rattle.psi_base.specs.declared.event.State.TheVariants.{IoSome, IoFull, MemSome, MemFull, CpuSome, CpuFull, Nonidle}
use Rattle.psi_base.specs.declared.event.Act.{Act}
use Rattle.psi_base.specs.declared.event.Act.TheVariants as act
use Rattle.psi_base.specs.declared.event.Event.{Event}
use Rattle.psi_spec.specs.declared.machine.Task.{Task}
use Rattle.psi_spec.specs.declared.machine.GroupLife.{GroupLife}
use Rattle.psi_spec.specs.World.{World, Tasks, is_on, is_waiting, is_ready, is_running, is_active, after}

-- ---- ancestors of groups

-- `number_of_slot slot`: the number of the slot, or `None` if `slot` is `None`.
abbrev pub number_of_slot : Option Slot → Option ℕ
number_of_slot None = None
number_of_slot (Some slot) = Some slot.0

-- The slot of each group's parent, or `None` for a group without a parent, in the order of slots.
abbrev pub parents_of : List GroupLife → List (Option ℕ)
parents_of groups = map (λ group. number_of_slot group.parent) groups

-- `climbs n parents slot high`: whether slot `high` is reached from `slot` in at most `n` steps.
-- Each step goes from a group to its parent. The result is false if `slot` is `None`.
abbrev pub climbs : ℕ → List (Option ℕ) → Option ℕ → ℕ → Bool
climbs n parents None high = false
climbs zero parents (Some slot) high = slot == high
climbs (suc n) parents (Some slot) high = slot == high || climbs n parents (slice_index_or parents slot None) high

-- Whether the group in slot `low` is the group in slot `high` or a descendant of it. Parents have
-- smaller slots, so `low` is an upper bound on the number of steps.
unfoldable pub is_under : List (Option ℕ) → ℕ → ℕ → Bool
is_under parents low high = climbs low parents (Some low) high

-- ---- the states of a group

-- Whether a task counts for the group in slot `slot` on processor `cpu`: the task is assigned to
-- that processor, and it is in the group or in a descendant.
abbrev pub is_in : List (Option ℕ) → ℕ → ℕ → Task → Bool
is_in parents cpu slot task = task.cpu.0 == cpu && is_under parents task.slot.0 slot

-- The tasks that count for the group in slot `slot` on processor `cpu`.
abbrev pub tasks_in : List (Option ℕ) → ℕ → ℕ → Tasks → List Task
tasks_in parents cpu slot tasks = filter (is_in parents cpu slot) (tasks_by.values tasks)

-- Whether the task waits for IO.
abbrev pub waits : Task → Bool
waits task = is_waiting task.mode

-- Whether the task is ready, and waits on a run queue.
abbrev pub queues : Task → Bool
queues task = is_ready task.mode

-- Whether the task is running.
abbrev pub runs : Task → Bool
runs task = is_running task.mode

-- Whether the task is ready or running.
abbrev pub is_up : Task → Bool
is_up task = is_active task.mode

-- Whether the task is in a memory stall.
abbrev pub stalls : Task → Bool
stalls task = task.stalled

-- Whether a group is in a state on a processor, given the tasks that count for the group there. The
-- states are defined as in the kernel's psi.c. IO some: a task waits for IO. IO full: in addition,
-- no task is ready or running. Memory some: a task is in a memory stall. Memory full: in addition,
-- every ready or running task is in a memory stall, or the running task is. CPU some: a task is
-- ready. CPU full: in addition, no task is running. Nonidle: a task waits for IO, is in a memory
-- stall, is ready or is running.
abbrev pub holds_of : State → List Task → Bool
holds_of IoSome tasks = list_any waits tasks
holds_of IoFull tasks = list_any waits tasks && not (list_any is_up tasks)
holds_of MemSome tasks = list_any stalls tasks
holds_of MemFull tasks =
    list_any stalls tasks && (list_all (λ task. not (is_up task) || stalls task) tasks || list_any (λ task. runs task && stalls task) tasks)
holds_of CpuSome tasks = list_any queues tasks
holds_of CpuFull tasks = list_any queues tasks && not (list_any runs tasks)
holds_of Nonidle tasks = list_any (λ task. waits task || stalls task || is_up task) tasks

-- All states, in the order of their numbers.
abbrev pub states : List State
states = IoSome ∷ IoFull ∷ MemSome ∷ MemFull ∷ CpuSome ∷ CpuFull ∷ Nonidle ∷ []

-- Whether the group in slot `slot` is in `state` on processor `cpu` in world `w` (the tasks and
-- groups at a time): its accounting is on, and the tasks that count for it there satisfy the
-- state's condition (`holds_of`).
unfoldable pub holds : State → ℕ → ℕ → World → Bool
holds state cpu slot w = is_on w.groups slot && holds_of state (tasks_in (parents_of w.groups) cpu slot w.tasks)

-- ---- the stall time of a group

-- The time (ns) of event number `i` (from 1), or `at` if there is no event number `i`.
abbrev pub moment_of : List Event → ℕ → ℕ → ℕ
moment_of events at i = slice_index_or (map (λ (event : Event). event.at) events) (i - 1) at

-- The time (ns) from event number `i` to the next event, or to time `at` after the last event. The
-- result is 0 unless the group in slot `slot` is in `state` on processor `cpu` after event `i`.
abbrev pub stall_after : State → ℕ → ℕ → List Event → ℕ → ℕ → ℕ
stall_after state cpu slot events at i =
    if holds state cpu slot (after (take i events)) then moment_of events at (i + 1) - moment_of events at i else 0

-- The stall time: how long (ns) the group in slot `slot` was in `state` on processor `cpu` up to
-- time `at`. It is the sum over the intervals between events.
unfoldable pub stall : State → ℕ → ℕ → List Event → ℕ → ℕ
stall state cpu slot events at = sum (map (stall_after state cpu slot events at) (range_with_len 1 (length events)))

-- ---- the interrupt time of a group

-- Whether a task of the group in slot `slot`, or of a descendant of the group, is running on
-- processor `cpu`.
unfoldable pub has_running : ℕ → ℕ → World → Bool
has_running cpu slot w = list_any runs (tasks_in (parents_of w.groups) cpu slot w.tasks)

-- The interrupt time (ns) that an event reports for processor `cpu`, or 0 if it reports none.
abbrev pub irq_time_by : ℕ → Act → ℕ
irq_time_by cpu (act.Irq named ns) = if named.0 == cpu then ns else 0
irq_time_by cpu _ = 0

-- `irq_from cpu slot w event`: the interrupt time (ns) that the event adds for the group in slot
-- `slot` on processor `cpu`. `w` is the world (the tasks and groups) before the event. The time is
-- 0 if `event` is `None`. It is also 0 unless the group's accounting is on and a task of the group
-- or of a descendant is running on the processor.
abbrev pub irq_from : ℕ → ℕ → World → Option Event → ℕ
irq_from cpu slot w None = 0
irq_from cpu slot w (Some event) = if is_on w.groups slot && has_running cpu slot w then irq_time_by cpu event.act else 0

-- The interrupt time (ns) that event number `i` (from 1) adds for the group in slot `slot` on
-- processor `cpu`.
abbrev pub irq_by : ℕ → ℕ → List Event → ℕ → ℕ
irq_by cpu slot events i = irq_from cpu slot (after (take (i - 1) events)) (slice_get events (i - 1))

-- The interrupt time: how long (ns) interrupts took from the group in slot `slot` on processor
-- `cpu`, summed over all events.
unfoldable pub irq_time : ℕ → ℕ → List Event → ℕ
irq_time cpu slot events = sum (map (irq_by cpu slot events) (range_with_len 1 (length events)))
