-- Defines the *changes* of a processor, which are the events that change the processor's state, and
-- the stall times of a group after the first `k` changes.
use Rattle.std.specs.Prelude.{ℕ, ◌-◌, ◌≤◌, List, [], ◌∷◌, length, map, take, filter, slice_get, slice_index_or, ◌==◌, ◌||◌, Bool, true, false, Option, None, Some}
use Rattle.std.specs.List.{range_with_len}
use Rattle.psi_base.specs.declared.event.Act.{Act}
use Rattle.psi_base.specs.declared.event.Event.{Event}
use Rattle.psi_base.specs.Missing.{is_some_and}
use Rattle.psi_spec.specs.declared.machine.Task.{Task}
use Rattle.psi_spec.specs.World.{Effect, forks, switches_account, interrupts, moves, none, readies, stalls, switches, effect_of}
use Rattle.psi_spec.specs.World.{World, Tasks, task_of, task_part, running_on, after, up_to}
use Rattle.psi_spec.specs.Stall.{stall, states}

-- ---- the processors that an event changes

-- `before_effect tasks effect`: the existing task that `effect` changes, in its state before the
-- effect, or `None`. An effect changes the task counts of groups through at most one existing task.
-- For a switch this is the task that leaves the processor. The task that starts is ready before and
-- running after, and contributes equally to the counts.
abbrev pub before_effect : Tasks → Effect → Option Task
before_effect tasks none = None
before_effect tasks (forks pid path cpu) = None
before_effect tasks (readies pid cpu) = task_of tasks pid.0
before_effect tasks (stalls pid stalled) = task_of tasks pid.0
before_effect tasks (moves pid path) = task_of tasks pid.0
before_effect tasks (switches cpu next how) = task_part (running_on tasks cpu.0)
before_effect tasks (interrupts cpu) = None
before_effect tasks switches_account = None

-- `before tasks what`: the existing task through which the event `what` changes the task counts of
-- groups, in its state before the event, or `None` if there is no such task.
abbrev pub before : Tasks → Act → Option Task
before tasks what = before_effect tasks (effect_of what)

-- Whether `task`, which may be blocked, is assigned to processor `cpu`.
abbrev pub is_at : ℕ → Task → Bool
is_at cpu task = task.cpu.0 == cpu

-- Whether an effect changes processor `cpu`. `old` is the changed task before the effect (see
-- `before_effect`). A fork or a switch changes the processor that it names. Putting a task on a run
-- queue changes the task's old and new processors. A memory stall or a move to another group
-- changes the task's own processor. Interrupts change the processor whose running task they delay.
-- Switching the accounting of a group changes every processor.
abbrev pub touched_by : Effect → Option Task → ℕ → Bool
touched_by none old cpu = false
touched_by (forks pid path named) old cpu = named.0 == cpu
touched_by (readies pid named) old cpu = named.0 == cpu || is_some_and old (is_at cpu)
touched_by (stalls pid stalled) old cpu = is_some_and old (is_at cpu)
touched_by (moves pid path) old cpu = is_some_and old (is_at cpu)
touched_by (switches named next how) old cpu = named.0 == cpu
touched_by (interrupts named) old cpu = named.0 == cpu
touched_by switches_account old cpu = true

-- Whether an event changes processor `cpu`. `old` is the changed task before the event (see
-- `before`). Requires that the machine has processor `cpu`: if an event changes every processor,
-- the result is true for any number.
abbrev pub touched : Act → Option Task → ℕ → Bool
touched what old cpu = touched_by (effect_of what) old cpu

-- ---- the changes of a processor

-- `touches w event cpu`: whether the event changes processor `cpu`. `w` is the world (the tasks and
-- groups) before the event. The result is false if `event` is `None`.
abbrev pub touches : World → Option Event → ℕ → Bool
touches w None cpu = false
touches w (Some event) cpu = touched event.act (before w.tasks event.act) cpu

-- Whether event number `i` (from 1) of a trace changes processor `cpu`.
abbrev pub is_change : ℕ → List Event → ℕ → Bool
is_change cpu events i = touches (after (take (i - 1) events)) (slice_get events (i - 1)) cpu

-- The numbers (from 1) of the events that change processor `cpu`, in order.
unfoldable pub changes_of : ℕ → List Event → List ℕ
changes_of cpu events = filter (is_change cpu events) (range_with_len 1 (length events))

-- The number (from 1) of the event that is change number `k` (from 1) of processor `cpu`, or 0 for
-- k = 0.
abbrev pub event_of_change : ℕ → List Event → ℕ → ℕ
event_of_change cpu events k = slice_index_or (0 ∷ changes_of cpu events) k 0

-- The events up to change number `k` of processor `cpu`, or no events for k = 0. Requires that `k`
-- is at most the number of changes.
abbrev pub until_change : ℕ → List Event → ℕ → List Event
until_change cpu events k = take (event_of_change cpu events k) events

-- The number of changes of processor `cpu` up to time `at` (ns).
abbrev pub count_at : ℕ → List Event → ℕ → ℕ
count_at cpu events at = length (changes_of cpu (up_to events at))

-- ---- samples of a processor

-- The times (ns) that the group in slot `slot` spent in each state on processor `cpu` up to time
-- `at`, if only the first `k` changes of the processor are counted.
abbrev pub times_after : ℕ → ℕ → List Event → ℕ → ℕ → List ℕ
times_after cpu slot events k at = map (λ state. stall state cpu slot (until_change cpu events k) at) states

-- The numbers never decrease, and each number is from `low` to `high`.
abbrev pub RiseWithin : ℕ → List ℕ → ℕ → Type 0
RiseWithin low [] high = low ≤ high
RiseWithin low (number ∷ numbers) high = (low ≤ number) × RiseWithin number numbers high
