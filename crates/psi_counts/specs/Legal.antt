-- Defines the invariant of the scheduler state (`World`) after legal events, and states laws of the
-- counts of tasks in such states.
use Rattle.std.specs.Prelude.{◌≡◌, ℕ, ◌≤◌, List, ◌++◌, length, Option, None, ◌+◌, [], ◌∷◌, Some}
use Rattle.std.specs.FinMap as tasks_by
use Rattle.psi_base.specs.declared.event.Event.{Event}
use Rattle.psi_spec.specs.World.{World, Limits, first_world, after_event, after, most_tasks, most_events, most_pressures}
use Rattle.psi_spec.specs.Refusal.{cause_of, AreLegal}
use Rattle.psi_spec.specs.Stall.{parents_of, tasks_in}
use Rattle.psi_counts.specs.Counts.{counts_among}
use Rattle.psi_spec.specs.LegalGroups.{AreGroups}
use Rattle.psi_counts.specs.Touch.{AreAtMost, AreWithin, Follows, RunsOnce, change_of, no_counts, on_chain}
use Rattle.psi_counts.specs.declared.changes.Change.{Change}
use Rattle.psi_counts.specs.declared.changes.Counts.{Counts}

-- The invariant of the scheduler state (`World`) after legal events. The groups satisfy
-- `AreGroups`. Each task is on an existing processor and in an existing slot. At most one task runs
-- on a processor. The numbers of tasks, triggers, `pressure` lines and event lines, and the time of
-- the last event, are within their limits.
pub record IsLegalWorld (limits : Limits) (w : World) : Type 0 where
  pub groups : AreGroups w.groups
  pub within : AreWithin limits.cpus (length w.groups) w.tasks
  pub once : RunsOnce w.tasks
  pub few_tasks : tasks_by.len w.tasks ≤ most_tasks
  pub few_triggers : w.triggers ≤ 256
  pub few_pressures : w.pressures ≤ most_pressures
  pub few_lines : w.lines ≤ most_events
  pub early : w.last ≤ limits.latest

-- ---- the counts of a group over a trace

-- `with_change change changes`: the list `changes` with `change` added at its start. If `change` is
-- `None`, the list is unchanged.
abbrev pub with_change : Option Change → List Change → List Change
with_change None changes = changes
with_change (Some change) changes = change ∷ changes

-- `changes_from cpu w events`: the changes that the events cause on processor `cpu`, in order. `w`
-- is the scheduler state (`World`) before the first of these events.
abbrev pub changes_from : ℕ → World → List Event → List Change
changes_from cpu w [] = []
changes_from cpu w (event ∷ events) = with_change (change_of w event cpu) (changes_from cpu (after_event w event) events)

-- The sum of the counts `one` and `other`, field by field.
abbrev pub both_counts : Counts → Counts → Counts
both_counts one other =
    record {
      io = one.io + other.io;
      stalled = one.stalled + other.stalled;
      running = one.running + other.running;
      stalled_running = one.stalled_running + other.stalled_running;
    }

-- `added parents slot changes`: the sum of the counts that the changes add to the group in slot
-- `slot`. They are the counts of tasks in the group or in a descendant. `parents` has the parent of
-- each slot.
abbrev pub added : List (Option ℕ) → ℕ → List Change → Counts
added parents slot [] = no_counts
added parents slot (change ∷ changes) = both_counts (on_chain parents slot change.plus) (added parents slot changes)

-- `taken parents slot changes`: the sum of the counts that the changes subtract from the group in
-- slot `slot`. They are the counts of tasks in the group or in a descendant. `parents` has the
-- parent of each slot.
abbrev pub taken : List (Option ℕ) → ℕ → List Change → Counts
taken parents slot [] = no_counts
taken parents slot (change ∷ changes) = both_counts (on_chain parents slot change.minus) (taken parents slot changes)

-- ---- laws of legal scheduler states

-- The scheduler state (`World`) before the first event satisfies the invariant `IsLegalWorld`.
abbrev pub LegalFirst : Type 0
LegalFirst = (limits : Limits) → IsLegalWorld limits first_world

-- A legal event preserves the invariant `IsLegalWorld` of the scheduler state (`World`).
abbrev pub LegalKept : Type 0
LegalKept =
    (limits : Limits) (w : World) (event : Event) → cause_of limits w event ≡ None → IsLegalWorld limits w
    → IsLegalWorld limits (after_event w event)

-- Groups that are created later don't change which tasks are in a group or its descendants. So the
-- parents of all groups at the end of a trace can be used for the whole trace.
abbrev pub SameTasksLater : Type 0
SameTasksLater = (limits : Limits) (w : World) → IsLegalWorld limits w → (more : List (Option ℕ)) (cpu slot : ℕ) →
    tasks_in (parents_of w.groups ++ more) cpu slot w.tasks ≡ tasks_in (parents_of w.groups) cpu slot w.tasks

-- Each count of a group's tasks is at most the limit of live tasks.
abbrev pub CountsAreFew : Type 0
CountsAreFew =
    (limits : Limits) (w : World) → IsLegalWorld limits w → (parents : List (Option ℕ)) (cpu slot : ℕ)
    → AreAtMost most_tasks (counts_among (tasks_in parents cpu slot w.tasks))

-- After legal events, the counts of a group's tasks on a processor follow from the processor's
-- changes. They are the sum of the counts that the changes added to the group, minus the sum of the
-- counts that they subtracted from it.
abbrev pub CountsAreSums : Type 0
CountsAreSums = (limits : Limits) (events : List Event) → AreLegal limits first_world events → (parents : List (Option ℕ)) (cpu slot : ℕ) →
    Follows no_counts (taken parents slot (changes_from cpu first_world events))
    (added parents slot (changes_from cpu first_world events)) (counts_among (tasks_in parents cpu slot (after events).tasks))
