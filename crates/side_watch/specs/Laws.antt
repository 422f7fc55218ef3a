-- States laws about side events: memory samples, preferences, and tasks that join or leave groups.
-- The latest memory samples, the latest preferences and the counts of tasks can be computed from
-- the side events of a trace instead of all its events.
use Rattle.std.specs.Prelude.{◌≡◌, ℕ, List, [], ◌∷◌, nat_lt, ◌==◌, if◌then◌else◌}
use Rattle.std.specs.List.{flat_map}
use Rattle.psi_base.specs.declared.event.Event.{Event}
use Rattle.psi_base.specs.declared.event.Preference.{Preference}
use Rattle.psi_base.specs.declared.event.Preference.TheVariants.{Plain}
use Rattle.psi_spec.specs.World.{after}
use Rattle.kill_spec.specs.declared.reading.HostReading.{HostReading}
use Rattle.kill_spec.specs.Readings.{no_host}
use Rattle.kill_spec.specs.Evaluations.{MemorySample, last_or, no_memory_sample}
use Rattle.kill_spec.specs.Evaluations.{memory_of, preference_of, host_of, is_populated}
use Rattle.proc_plan.specs.declared.side.Side.{Side}
use Rattle.proc_plan.specs.declared.side.SideAct.{SideAct}
use Rattle.proc_plan.specs.declared.side.SideAct.TheVariants as side
use Rattle.proc_plan.specs.Sides.{sides_of}
use Rattle.side_watch.specs.Watch.{tasks_under}

-- The memory sample of the group in slot `slot` that the side event reports, as a list with one
-- element. The list is empty for any other side event.
abbrev pub memory_in : ℕ → SideAct → List MemorySample
memory_in slot (side.Mem of current swap scan) =
    if of.0 == slot then record { current = current; swap = swap; scan = scan } ∷ [] else []
memory_in slot _ = []

-- The preference of the group in slot `slot` that the side event sets, as a list with one element.
-- The list is empty for any other side event.
abbrev pub preference_in : ℕ → SideAct → List Preference
preference_in slot (side.Prefer of preference) = if of.0 == slot then preference ∷ [] else []
preference_in slot _ = []

-- The sample of the host's memory that the side event reports, as a list with one element. The list
-- is empty for any other side event.
abbrev pub host_in : SideAct → List HostReading
host_in (side.Host mem_total swap_total swap_free) =
    record { mem_total = mem_total; swap_total = swap_total; swap_free = swap_free } ∷ []
host_in _ = []

-- The concatenated results of the function `shows` for all side events, in order.
abbrev pub known_in : {A : Type 0} → (SideAct → List A) → List Side → List A
known_in shows sides = flat_map (λ (side : Side). shows side.what) sides

-- The last memory sample of a group in the side events of a trace is its last memory sample in all
-- events.
abbrev pub MemoryIsLastSide : Type 0
MemoryIsLastSide = (events : List Event) (slot : ℕ) →
    memory_of slot events ≡ last_or no_memory_sample (known_in (memory_in slot) (sides_of events))

-- The last preference of a group in the side events of a trace is its last preference in all
-- events.
abbrev pub PreferenceIsLastSide : Type 0
PreferenceIsLastSide = (events : List Event) (slot : ℕ) →
    preference_of slot events ≡ last_or Plain (known_in (preference_in slot) (sides_of events))

-- The last sample of the host's memory in the side events of a trace is the last sample in all
-- events.
abbrev pub HostIsLastSide : Type 0
HostIsLastSide = (events : List Event) →
    host_of events ≡ last_or no_host (known_in host_in (sides_of events))

-- A group is populated if and only if the number of live tasks in it and in its descendants isn't
-- 0.
abbrev pub PopulatedIsCounted : Type 0
PopulatedIsCounted = (events : List Event) (slot : ℕ) →
    is_populated (after events) slot ≡ nat_lt 0 (tasks_under (after events) slot)
