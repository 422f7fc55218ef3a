-- Proves that a watch has the state after the events up to a time.
use Rattle.std.proofs.Common.{◌≡◌, ℕ, ◌+◌, ◌<◌, List, [], ◌∷◌, ◌++◌, length, take, drop, refl, sym, ap, ◌∙◌, subst, arith, Option, None, Some}
use Rattle.std.specs.Prelude.{nat_lt, replicate}
use Rattle.std.proofs.lemmas.List.{get_or-replicate, length-replicate}
use Rattle.psi_base.specs.declared.event.Event.{Event}
use Rattle.psi_base.specs.declared.event.Preference.{Preference}
use Rattle.psi_spec.specs.declared.machine.GroupLife.{GroupLife}
use Rattle.psi_spec.specs.World.{World, Limits, after, after_from, first_world}
use Rattle.psi_spec.specs.Refusal.{AreLegal}
use Rattle.psi_spec.specs.Stall.{parents_of}
use Rattle.psi_spec.proofs.Following.{after_from-append}
use Rattle.plan_laws.proofs.PlanStates.{Prolongs, legal_after, legal_prefix, prolongs_by}
use Rattle.plan_laws.proofs.PlanUpTo.{up_to_prefix}
use Rattle.kill_spec.specs.declared.reading.HostReading.{HostReading}
use Rattle.kill_spec.specs.Readings.{no_host}
use Rattle.kill_spec.specs.Evaluations.{MemorySample, memory_of, preference_of, host_of}
use Rattle.proc_plan.specs.declared.side.Side.{Side}
use Rattle.proc_plan.specs.Sides.{sides_of}
use Rattle.side_watch.specs.declared.cell.SideCell.{SideCell}
use Rattle.side_watch.specs.declared.cell.GroupMemory.{GroupMemory}
use Rattle.side_watch.specs.Sides.{side_sample, zero_side_cell, side_cell_in, cell_by, host_after, host_by, due_by}
use Rattle.side_watch.specs.Watch.{SideView, side_cell_at, first_watch, seen_events, tasks_under, HasFollowed, Begins, Advances}
use Rattle.side_watch.proofs.SideValues.{memory_by, preference_by, hosts_by, memory_is_last, preference_is_last, host_is_last, populated_is_counted}
use Rattle.side_watch.proofs.Counting.{by_both, tasks_known, tasks_later}
use Rattle.side_watch.proofs.Due.{taken_on, take_due_on}

-- ---- events up to a time

-- The events up to a time are a prefix of all events.
seen_prefix : (limits : Limits) (events : List Event) (moment : Option ℕ) → AreLegal limits first_world events → (rest : List Event) × (events ≡ seen_events events moment ++ rest)
seen_prefix limits events None legal = (events, refl)
seen_prefix limits events (Some at) legal = up_to_prefix limits first_world events at legal

seen_legal : (limits : Limits) (events : List Event) (moment : Option ℕ) → AreLegal limits first_world events → AreLegal limits first_world (seen_events events moment)
seen_legal limits events moment legal =
    let prefix = seen_prefix limits events moment legal in
    legal_prefix limits first_world (seen_events events moment) prefix.0 (subst (AreLegal limits first_world) prefix.1 legal)

-- The parents after the events up to a time are a prefix of the parents after all events.
seen_prolongs : (limits : Limits) (events : List Event) (moment : Option ℕ) → AreLegal limits first_world events → Prolongs (parents_of (after (seen_events events moment)).groups) (parents_of (after events).groups)
seen_prolongs limits events moment legal =
    let prefix = seen_prefix limits events moment legal in
    let whole : after events ≡ after_from (after (seen_events events moment)) prefix.0 = ap after prefix.1 ∙ after_from-append first_world (seen_events events moment) prefix.0 in
    let by = prolongs_by (after (seen_events events moment)) prefix.0 in
    (by.0, ap (λ (w : World). parents_of w.groups) whole ∙ by.1)

-- ---- a watch whose groups have the state after the sides

-- The state of the group in slot `slot` after all side events up to a time.
abbrev known_cell : List Event → Option ℕ → ℕ → SideCell
known_cell events moment slot = cell_by (parents_of (after events).groups) slot zero_side_cell (sides_of (seen_events events moment))

abbrev known_host : List Event → Option ℕ → HostReading
known_host events moment = host_by no_host (sides_of (seen_events events moment))

-- The memory sample in `known_cell` is the last sample of the group up to the time.
known_memory : (events : List Event) (moment : Option ℕ) (slot : ℕ) → side_sample (known_cell events moment slot).memory ≡ memory_of slot (seen_events events moment)
known_memory events moment slot = memory_by (parents_of (after events).groups) slot zero_side_cell (sides_of (seen_events events moment)) ∙ sym (memory_is_last (seen_events events moment) slot)

known_preference : (events : List Event) (moment : Option ℕ) (slot : ℕ) → (known_cell events moment slot).preference ≡ preference_of slot (seen_events events moment)
known_preference events moment slot = preference_by (parents_of (after events).groups) slot zero_side_cell (sides_of (seen_events events moment)) ∙ sym (preference_is_last (seen_events events moment) slot)

known_tasks : (limits : Limits) (events : List Event) (moment : Option ℕ) (slot : ℕ) → AreLegal limits first_world events → (known_cell events moment slot).tasks ≡ tasks_under (after (seen_events events moment)) slot
known_tasks limits events moment slot legal =
    let legally = seen_legal limits events moment legal in
    tasks_known limits (parents_of (after events).groups) slot (seen_events events moment) legally
    ∙ tasks_later limits (after (seen_events events moment)) (legal_after limits (seen_events events moment) legally) (parents_of (after events).groups) (seen_prolongs limits events moment legal) slot

known_hosts : (events : List Event) (moment : Option ℕ) → known_host events moment ≡ host_of (seen_events events moment)
known_hosts events moment = hosts_by no_host (sides_of (seen_events events moment)) ∙ sym (host_is_last (seen_events events moment))

-- A watch whose groups have this state satisfies `HasFollowed`.
pub watching : (limits : Limits) (events : List Event) (moment : Option ℕ) (watch : SideView) → AreLegal limits first_world events →
    watch.parents ≡ parents_of (after events).groups → length watch.cells ≡ length (after events).groups → take watch.taken (sides_of events) ≡ sides_of (seen_events events moment) →
    ((slot : ℕ) → slot < length (after events).groups → side_cell_at watch slot ≡ known_cell events moment slot) → watch.host ≡ known_host events moment → HasFollowed events moment watch
watching limits events moment watch legal parents each taken cells host =
    let tasks : (slot : ℕ) → slot < length (after events).groups → (side_cell_at watch slot).tasks ≡ tasks_under (after (seen_events events moment)) slot =
    λ slot room. ap (λ (cell : SideCell). cell.tasks) (cells slot room) ∙ known_tasks limits events moment slot legal in
    record {
      parents = parents;
      each = each;
      taken = taken;
      memory = λ slot room. ap (λ (cell : SideCell). side_sample cell.memory) (cells slot room) ∙ known_memory events moment slot;
      preference = λ slot room. ap (λ (cell : SideCell). cell.preference) (cells slot room) ∙ known_preference events moment slot;
      tasks = tasks;
      populated = λ slot room. ap (nat_lt 0) (tasks slot room) ∙ sym (populated_is_counted (seen_events events moment) slot);
      host = host ∙ known_hosts events moment;
    }

-- ---- before the first event

pub begins : (lives : List GroupLife) → Begins lives (first_watch lives)
begins lives limits events legal are =
    watching limits events None (first_watch lives) legal (ap parents_of are) (length-replicate (length lives) zero_side_cell ∙ ap length are) refl
    (λ slot room. get_or-replicate (length lives) slot zero_side_cell zero_side_cell (subst (λ (groups : List GroupLife). slot < length groups) (sym are) room)) refl

pub begins_as : (lives : List GroupLife) (cells : List SideCell) (parents : List (Option ℕ)) → cells ≡ replicate (length lives) zero_side_cell → parents ≡ parents_of lives →
    Begins lives (record { cells = cells; parents = parents; host = no_host; taken = 0 })
begins_as lives cells parents cells_are parents_are = rw (cells_are, parents_are) (begins lives)

-- ---- from one time to a later time

abbrev memory_from : MemorySample → GroupMemory
memory_from sample = record { current = sample.current; swap = sample.swap; scan = sample.scan }

cell_of : (cell : SideCell) (memory : GroupMemory) (preference : Preference) (tasks : ℕ) → cell.memory ≡ memory → cell.preference ≡ preference → cell.tasks ≡ tasks → cell ≡ record { memory = memory; preference = preference; tasks = tasks }
cell_of cell memory preference tasks a b c = rw (← a, ← b, ← c) refl

-- Two states with equal fields are equal.
same_cell : (one other : SideCell) → side_sample one.memory ≡ side_sample other.memory → one.preference ≡ other.preference → one.tasks ≡ other.tasks → one ≡ other
same_cell one other memory preference tasks =
    let memories : one.memory ≡ other.memory = ap memory_from memory in
    cell_of one other.memory other.preference other.tasks memories preference tasks

hosts_both : (host : HostReading) (some more : List Side) → host_by host (some ++ more) ≡ host_by (host_by host some) more
hosts_both host [] more = refl
hosts_both host (side ∷ some) more = hosts_both (host_after host side.what) some more

-- The state of a group in a watch is the state after the side events up to the time.
kept_cell : (limits : Limits) (events : List Event) (moment : Option ℕ) (watch : SideView) (slot : ℕ) → AreLegal limits first_world events → HasFollowed events moment watch → slot < length (after events).groups → side_cell_at watch slot ≡ known_cell events moment slot
kept_cell limits events moment watch slot legal is room =
    same_cell (side_cell_at watch slot) (known_cell events moment slot)
    (is.memory slot room ∙ sym (known_memory events moment slot)) (is.preference slot room ∙ sym (known_preference events moment slot)) (is.tasks slot room ∙ sym (known_tasks limits events moment slot legal))

-- The watch `new` is the watch `old` after it took the side events due at time `at` (ns).
pub record TookDue (old new : SideView) (sides : List Side) (at : ℕ) : Type 0 where
  pub parents : new.parents ≡ old.parents
  pub each : length new.cells ≡ length old.cells
  pub cells : (slot : ℕ) → slot < length old.cells → side_cell_at new slot ≡ cell_by old.parents slot (side_cell_at old slot) (due_by at (drop old.taken sides))
  pub hosts : new.host ≡ host_by old.host (due_by at (drop old.taken sides))
  pub taken : new.taken ≡ old.taken + length (due_by at (drop old.taken sides))

pub advances : (old new : SideView) (sides : List Side) (at : ℕ) → TookDue old new sides at → Advances old new sides at
advances old new sides at took limits events moment legal are turn is =
    let due : List Side = due_by at (drop old.taken (sides_of events)) in
    let on : sides_of (seen_events events moment) ++ due ≡ sides_of (seen_events events (Some at)) = taken_on limits events moment at old.taken legal turn is.taken in
    let cells = rw are at took.cells in
    let hosts = rw are at took.hosts in
    let taken = rw are at took.taken in
    watching limits events (Some at) new legal (took.parents ∙ is.parents) (took.each ∙ is.each)
    (ap (λ n. take n (sides_of events)) taken ∙ take_due_on at old.taken (sides_of events) ∙ ap (λ xs. xs ++ due) is.taken ∙ on)
    (λ slot room.
    cells slot (omega (arith, room, is.each))
    ∙ ap (λ ps. cell_by ps slot (side_cell_at old slot) due) is.parents
    ∙ ap (λ cell. cell_by (parents_of (after events).groups) slot cell due) (kept_cell limits events moment old slot legal is room)
    ∙ sym (by_both (parents_of (after events).groups) slot zero_side_cell (sides_of (seen_events events moment)) due)
    ∙ ap (cell_by (parents_of (after events).groups) slot zero_side_cell) on)
    (hosts ∙ ap (λ host. host_by host due) (is.host ∙ sym (known_hosts events moment)) ∙ sym (hosts_both no_host (sides_of (seen_events events moment)) due) ∙ ap (host_by no_host) on)

-- Proves `Advances` from the fields of the old and the new watch.
pub advances_by : (old : SideView) (cells new_cells : List SideCell) (parents : List (Option ℕ)) (host new_host : HostReading) (taken new_taken : ℕ) (sides : List Side) (at : ℕ) →
    old ≡ record { cells = cells; parents = parents; host = host; taken = taken } → length new_cells ≡ length cells →
    ((slot : ℕ) → slot < length cells → side_cell_in new_cells slot ≡ cell_by parents slot (side_cell_in cells slot) (due_by at (drop taken sides))) →
    new_host ≡ host_by host (due_by at (drop taken sides)) → new_taken ≡ taken + length (due_by at (drop taken sides)) →
    Advances old (record { cells = new_cells; parents = parents; host = new_host; taken = new_taken }) sides at
advances_by old cells new_cells parents host new_host taken new_taken sides at is each known hosts count =
    let before : SideView = record { cells = cells; parents = parents; host = host; taken = taken } in
    let now : SideView = record { cells = new_cells; parents = parents; host = new_host; taken = new_taken } in
    subst (λ (watch : SideView). Advances watch now sides at) (sym is)
    (advances before now sides at (record { parents = refl; each = each; cells = known; hosts = hosts; taken = count }))
