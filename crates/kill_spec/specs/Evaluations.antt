-- Defines the readings of a trace: the pressure and memory that the rules see at each evaluation.
use Rattle.std.specs.Prelude.{ℕ, zero, suc, ◌==◌, List, [], ◌∷◌, map, take, Bool, if◌then◌else◌}
use Rattle.std.specs.List.{list_any}
use Rattle.std.specs.FinMap as tasks_by
use Rattle.psi_base.specs.declared.event.Act.{Act}
use Rattle.psi_base.specs.declared.event.Act.TheVariants as act
use Rattle.psi_base.specs.declared.event.Event.{Event}
use Rattle.psi_base.specs.declared.event.Preference.{Preference}
use Rattle.psi_base.specs.declared.event.Preference.TheVariants.{Plain}
use Rattle.psi_spec.specs.declared.machine.Task.{Task}
use Rattle.psi_spec.specs.declared.machine.GroupLife.{GroupLife}
use Rattle.psi_spec.specs.World.{World, first_world, after, up_to}
use Rattle.psi_spec.specs.Stall.{parents_of, is_under}
use Rattle.psi_spec.specs.Groups.{live_groups}
use Rattle.psi_spec.specs.Collected.{slot_named, values_from}
use Rattle.pressure_spec.specs.Ticks.{is_evaluation, tick_moment, ticks_of}
use Rattle.pressure_spec.specs.Samples.{group_averages}
use Rattle.pressure_spec.specs.Share.{irq_quantity}
use Rattle.kill_spec.specs.declared.reading.GroupReading.{GroupReading}
use Rattle.kill_spec.specs.declared.reading.HostReading.{HostReading}
use Rattle.kill_spec.specs.Readings.{Reading, no_host}

-- The last element of a list, or `before` if the list is empty.
abbrev pub last_or : {A : Type 0} → A → List A → A
last_or before [] = before
last_or before (x ∷ xs) = last_or x xs

-- ---- the latest samples of memory and preferences

-- A sample of a group's memory: memory and swap in use (bytes), and the number of scanned pages.
pub record MemorySample : Type 0 where
  pub current : ℕ
  pub swap : ℕ
  pub scan : ℕ

-- The memory sample that is used for a group before its first sample: all numbers are 0.
abbrev pub no_memory_sample : MemorySample
no_memory_sample = record { current = 0; swap = 0; scan = 0 }

-- The memory sample of the group in slot `slot` that an event contains, as a list. The list is
-- empty if the event contains no such sample.
abbrev pub memory_known : ℕ → List GroupLife → Act → List MemorySample
memory_known slot groups (act.Mem path current swap scan) =
    if (slot_named groups path).0 == slot then record { current = current; swap = swap; scan = scan } ∷ [] else []
memory_known slot groups _ = []

-- The latest memory sample of the group in slot `slot`, or zeros before the first sample.
abbrev pub memory_of : ℕ → List Event → MemorySample
memory_of slot events =
    last_or no_memory_sample (values_from (λ (w : World) (event : Event). memory_known slot w.groups event.act) first_world events)

-- The kill preference that an event sets for the group in slot `slot`, as a list. The list is empty
-- if the event sets no preference for this group.
abbrev pub preference_known : ℕ → List GroupLife → Act → List Preference
preference_known slot groups (act.Prefer path preference) =
    if (slot_named groups path).0 == slot then preference ∷ [] else []
preference_known slot groups _ = []

-- The latest kill preference of the group in slot `slot`. Initially a group is neither preferred
-- nor avoided.
abbrev pub preference_of : ℕ → List Event → Preference
preference_of slot events =
    last_or Plain (values_from (λ (w : World) (event : Event). preference_known slot w.groups event.act) first_world events)

-- The sample of the host's memory that an event contains, as a list. The list is empty if the event
-- contains no such sample.
abbrev pub host_known : Act → List HostReading
host_known (act.Host mem_total swap_total swap_free) =
    record { mem_total = mem_total; swap_total = swap_total; swap_free = swap_free } ∷ []
host_known _ = []

-- The latest sample of the host's memory, or zeros before the first sample.
abbrev pub host_of : List Event → HostReading
host_of events =
    last_or no_host (values_from (λ (w : World) (event : Event). host_known event.act) first_world events)

-- Whether some live task is in the group in slot `slot` or in a descendant of the group.
abbrev pub is_populated : World → ℕ → Bool
is_populated w slot =
    list_any (λ (task : Task). is_under (parents_of w.groups) task.slot.0 slot) (tasks_by.values w.tasks)

-- ---- the readings at evaluations

-- The state of the group in slot `slot` after the events, as the rules see it. `averages` are the
-- group's averages over 10, 60 and 300 s.
abbrev pub group_seen : List Event → List (List ℕ) → ℕ → GroupReading
group_seen events averages slot = record {
  slot = record { 0 = slot };
  averages = averages;
  current = (memory_of slot events).current;
  swap = (memory_of slot events).swap;
  scan = (memory_of slot events).scan;
  preference = preference_of slot events;
  populated = is_populated (after events) slot;
}

-- The averages of the group in slot `slot` after tick number `i`, for a trace with `cpus`
-- processors and ticks of `length` ns. Only the averages of states are included. Interrupt time,
-- which is the last quantity, is excluded because no rule uses it.
abbrev pub averages_at : ℕ → List Event → ℕ → ℕ → ℕ → List (List ℕ)
averages_at cpus events length i slot =
    take irq_quantity
    (group_averages cpus (after events).groups (ticks_of cpus events length i) slot).averages

-- The reading at tick number `i`: the groups that are live at the tick, in the byte order of their
-- paths, and the host's memory.
unfoldable pub reading_at : ℕ → List Event → ℕ → ℕ → Reading
reading_at cpus events length i = record {
  at = tick_moment length i;
  host = host_of (up_to events (tick_moment length i));
  groups = map
      (λ (group : List ℕ × ℕ). group_seen (up_to events (tick_moment length i)) (averages_at cpus events length i group.1) group.1)
      (live_groups (after (up_to events (tick_moment length i))).groups);
}

-- `evaluations interval length n`: the numbers of the ticks at which the rules are evaluated, from
-- tick number `n` back to tick 1. `interval` is the time (ns) between evaluations, and `length` is
-- the length (ns) of a tick.
abbrev pub evaluations : ℕ → ℕ → ℕ → List ℕ
evaluations interval length zero = []
evaluations interval length (suc i) =
    if is_evaluation interval length (suc i)
    then suc i ∷ evaluations interval length i
    else evaluations interval length i

-- The readings at the evaluations among the first `count` ticks. The newest reading comes first.
unfoldable pub readings_until : ℕ → List Event → ℕ → ℕ → ℕ → List Reading
readings_until cpus events length interval count =
    map (reading_at cpus events length) (evaluations interval length count)
