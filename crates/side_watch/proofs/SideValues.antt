-- Proves that the samples and preferences in side events are the samples and preferences in the
-- events.
use Rattle.std.proofs.Common.{◌≡◌, ℕ, ℤ, List, [], ◌∷◌, ◌++◌, refl, sym, ap, ◌∙◌, true, false, Option, None, Some}
use Rattle.std.specs.Prelude.{◌==◌, if◌then◌else◌, pos, negsuc}
use Rattle.std.specs.FinMap as tasks_by
use Rattle.std.proofs.lemmas.Grind.{flat_map-append}
use Rattle.std.proofs.lemmas.List.{append-nil}
use Rattle.psi_base.specs.declared.event.Slot.{Slot}
use Rattle.psi_base.specs.declared.event.Preference.{Preference}
use Rattle.psi_base.specs.declared.event.Preference.TheVariants.{Plain}
use Rattle.psi_base.specs.declared.event.Act.{Act}
use Rattle.psi_base.specs.declared.event.Act.TheVariants as act
use Rattle.psi_base.specs.declared.event.Event.{Event}
use Rattle.psi_spec.specs.declared.machine.GroupLife.{GroupLife}
use Rattle.psi_spec.specs.declared.machine.Task.{Task}
use Rattle.psi_spec.specs.World.{World, after, after_event, first_world}
use Rattle.psi_spec.specs.Stall.{is_under, parents_of}
use Rattle.psi_spec.specs.Collected.{values_from}
use Rattle.psi_counts.specs.Touch.{task_after}
use Rattle.psi_spec.specs.Changes.{before}
use Rattle.psi_counts.proofs.CountLaws.{any_counted}
use Rattle.kill_spec.specs.declared.reading.HostReading.{HostReading}
use Rattle.kill_spec.specs.Readings.{no_host}
use Rattle.kill_spec.specs.Evaluations.{MemorySample, last_or, no_memory_sample, memory_known, preference_known, host_known}
use Rattle.proc_plan.specs.declared.side.Side.{Side}
use Rattle.proc_plan.specs.declared.side.SideAct.{SideAct}
use Rattle.proc_plan.specs.declared.side.SideAct.TheVariants as side
use Rattle.proc_plan.specs.Sides.{came, went, passage, group_of, sample_by, sides_by}
use Rattle.side_watch.specs.declared.cell.SideCell.{SideCell}
use Rattle.side_watch.specs.Sides.{side_sample, is_coming, counted, cell_after, cell_by, host_after, host_by}
use Rattle.side_watch.specs.Laws.{known_in, memory_in, preference_in, host_in, MemoryIsLastSide, PreferenceIsLastSide, HostIsLastSide, PopulatedIsCounted}

-- ---- the values of all sides

-- A side event for a task that joins or leaves has no value of this kind.
abbrev IsOfSamples : {A : Type 0} → (SideAct → List A) → Type 0
IsOfSamples shows = (of : Slot) (added : ℤ) → shows (side.Tasks of added) ≡ []

passage_shows : {A : Type 0} (shows : SideAct → List A) → IsOfSamples shows → (at : ℕ) (old new : Option Slot) → known_in shows (passage at old new) ≡ []
passage_shows shows none at None None = refl
passage_shows shows none at None (Some new) = rw (none new (pos 1)) refl
passage_shows shows none at (Some old) None = rw (none old (negsuc 0)) refl
passage_shows shows none at (Some old) (Some new) =
    elim (old.0 == new.0) as (λ b. known_in shows (if b then [] else went at old ++ came at new) ≡ []) [
      | true ↦ refl
      | false ↦ rw (none old (negsuc 0), none new (pos 1)) refl
    ]

-- If the side events of each act have the values of the act, the side events of all events have the
-- values of the events.
all_show : {A : Type 0} (shows : SideAct → List A) (known : List GroupLife → Act → List A) → IsOfSamples shows → ((at : ℕ) (groups : List GroupLife) (a : Act) → known_in shows (sample_by at groups a) ≡ known groups a)
    → (w : World) (events : List Event) → values_from (λ (w : World) (event : Event). known w.groups event.act) w events ≡ known_in shows (values_from sides_by w events)
all_show shows known none each w [] = refl
all_show shows known none each w (event ∷ events) =
    let f : Side → List _ = λ (side : Side). shows side.what in
    let sample : List Side = sample_by event.at w.groups event.act in
    let pass : List Side = passage event.at (group_of (before w.tasks event.act)) (group_of (task_after w.groups w.tasks event.act)) in
    let rest : List Side = values_from sides_by (after_event w event) events in
    let here : known_in shows (sample ++ pass) ≡ known w.groups event.act =
    flat_map-append f sample pass ∙ ap (λ xs. known_in shows sample ++ xs) (passage_shows shows none event.at (group_of (before w.tasks event.act)) (group_of (task_after w.groups w.tasks event.act)))
    ∙ append-nil (known_in shows sample) ∙ each event.at w.groups event.act in
    ap (λ xs. known w.groups event.act ++ xs) (all_show shows known none each (after_event w event) events)
    ∙ ap (λ xs. xs ++ known_in shows rest) (sym here)
    ∙ sym (flat_map-append f (sample ++ pass) rest)

-- ---- each kind of sample

sample_memory : (slot at : ℕ) (groups : List GroupLife) (a : Act) → known_in (memory_in slot) (sample_by at groups a) ≡ memory_known slot groups a
sample_memory slot at groups (act.Mem path current swap scan) = append-nil (memory_known slot groups (act.Mem path current swap scan))
sample_memory slot at groups _ = refl

sample_preference : (slot at : ℕ) (groups : List GroupLife) (a : Act) → known_in (preference_in slot) (sample_by at groups a) ≡ preference_known slot groups a
sample_preference slot at groups (act.Prefer path preference) = append-nil (preference_known slot groups (act.Prefer path preference))
sample_preference slot at groups _ = refl

sample_host : (at : ℕ) (groups : List GroupLife) (a : Act) → known_in host_in (sample_by at groups a) ≡ host_known a
sample_host at groups (act.Group path) = refl
sample_host at groups _ = refl

pub memory_is_last : MemoryIsLastSide
memory_is_last events slot = ap (last_or no_memory_sample) (all_show (memory_in slot) (memory_known slot) (λ of added. refl) (sample_memory slot) first_world events)

pub preference_is_last : PreferenceIsLastSide
preference_is_last events slot = ap (last_or Plain) (all_show (preference_in slot) (preference_known slot) (λ of added. refl) (sample_preference slot) first_world events)

pub host_is_last : HostIsLastSide
host_is_last events = ap (last_or no_host) (all_show host_in (λ (groups : List GroupLife) (a : Act). host_known a) (λ of added. refl) sample_host first_world events)

pub populated_is_counted : PopulatedIsCounted
populated_is_counted events slot = any_counted (λ (task : Task). is_under (parents_of (after events).groups) task.slot.0 slot) (tasks_by.values (after events).tasks)

-- ---- the state after sides

-- A further side event replaces the last value if it has a value.
memory_step : (parents : List (Option ℕ)) (slot : ℕ) (cell : SideCell) (what : SideAct) (rest : List MemorySample) → last_or (side_sample (cell_after parents slot cell what).memory) rest ≡ last_or (side_sample cell.memory) (memory_in slot what ++ rest)
memory_step parents slot cell (side.Mem of current swap scan) rest =
    elim (of.0 == slot) as (λ b. last_or (side_sample (if b then record cell { memory = record { current = current; swap = swap; scan = scan } } else cell).memory) rest ≡ last_or (side_sample cell.memory) ((if b then record { current = current; swap = swap; scan = scan } ∷ [] else []) ++ rest)) [ true ↦ refl | false ↦ refl ]
memory_step parents slot cell (side.Prefer of preference) rest =
    elim (of.0 == slot) as (λ b. last_or (side_sample (if b then record cell { preference = preference } else cell).memory) rest ≡ last_or (side_sample cell.memory) rest) [ true ↦ refl | false ↦ refl ]
memory_step parents slot cell (side.Host mem_total swap_total swap_free) rest = refl
memory_step parents slot cell (side.Tasks of added) rest =
    elim (is_under parents of.0 slot) as (λ b. last_or (side_sample (if b then counted (is_coming added) cell else cell).memory) rest ≡ last_or (side_sample cell.memory) rest) [ true ↦ refl | false ↦ refl ]

pub memory_by : (parents : List (Option ℕ)) (slot : ℕ) (cell : SideCell) (sides : List Side) → side_sample (cell_by parents slot cell sides).memory ≡ last_or (side_sample cell.memory) (known_in (memory_in slot) sides)
memory_by parents slot cell [] = refl
memory_by parents slot cell (side ∷ sides) = memory_by parents slot (cell_after parents slot cell side.what) sides ∙ memory_step parents slot cell side.what (known_in (memory_in slot) sides)

preference_step : (parents : List (Option ℕ)) (slot : ℕ) (cell : SideCell) (what : SideAct) (rest : List Preference) → last_or (cell_after parents slot cell what).preference rest ≡ last_or cell.preference (preference_in slot what ++ rest)
preference_step parents slot cell (side.Mem of current swap scan) rest =
    elim (of.0 == slot) as (λ b. last_or (if b then record cell { memory = record { current = current; swap = swap; scan = scan } } else cell).preference rest ≡ last_or cell.preference rest) [ true ↦ refl | false ↦ refl ]
preference_step parents slot cell (side.Prefer of preference) rest =
    elim (of.0 == slot) as (λ b. last_or (if b then record cell { preference = preference } else cell).preference rest ≡ last_or cell.preference ((if b then preference ∷ [] else []) ++ rest)) [ true ↦ refl | false ↦ refl ]
preference_step parents slot cell (side.Host mem_total swap_total swap_free) rest = refl
preference_step parents slot cell (side.Tasks of added) rest =
    elim (is_under parents of.0 slot) as (λ b. last_or (if b then counted (is_coming added) cell else cell).preference rest ≡ last_or cell.preference rest) [ true ↦ refl | false ↦ refl ]

pub preference_by : (parents : List (Option ℕ)) (slot : ℕ) (cell : SideCell) (sides : List Side) → (cell_by parents slot cell sides).preference ≡ last_or cell.preference (known_in (preference_in slot) sides)
preference_by parents slot cell [] = refl
preference_by parents slot cell (side ∷ sides) = preference_by parents slot (cell_after parents slot cell side.what) sides ∙ preference_step parents slot cell side.what (known_in (preference_in slot) sides)

host_step : (host : HostReading) (what : SideAct) (rest : List HostReading) → last_or (host_after host what) rest ≡ last_or host (host_in what ++ rest)
host_step host (side.Mem of current swap scan) rest = refl
host_step host (side.Prefer of preference) rest = refl
host_step host (side.Host mem_total swap_total swap_free) rest = refl
host_step host (side.Tasks of added) rest = refl

pub hosts_by : (host : HostReading) (sides : List Side) → host_by host sides ≡ last_or host (known_in host_in sides)
hosts_by host [] = refl
hosts_by host (side ∷ sides) = hosts_by (host_after host side.what) sides ∙ host_step host side.what (known_in host_in sides)
