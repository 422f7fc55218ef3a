-- Proves that a watch, which counts the tasks that join and leave, has the number of live tasks in
-- a group and its descendants.
use Rattle.std.proofs.Common.{◌≡◌, ℕ, ◌+◌, ◌-◌, ◌≤◌, ◌<◌, List, [], ◌∷◌, ◌++◌, refl, sym, ap, ◌∙◌, subst, arith, Bool, true, false, Option, None, Some, length, ⊎_elim}
use Rattle.std.specs.Prelude.{map, ◌==◌, IfSome, if◌then◌else◌}
use Rattle.std.specs.List.{AllByRecursion}
use Rattle.std.specs.FinMap as tasks_by
use Rattle.std.proofs.lemmas.Bool.Decides.{eqb_tells}
use Rattle.std.proofs.lemmas.List.{length-map}
use Rattle.psi_base.specs.declared.event.Slot.{Slot}
use Rattle.psi_base.specs.declared.event.Act.{Act}
use Rattle.psi_base.specs.declared.event.Act.TheVariants as act
use Rattle.psi_base.specs.declared.event.Event.{Event}
use Rattle.psi_base.specs.Missing.{is_some_and}
use Rattle.psi_spec.specs.declared.machine.Task.{Task}
use Rattle.psi_spec.specs.declared.machine.GroupLife.{GroupLife}
use Rattle.psi_spec.specs.World.{World, Limits, Tasks, after, first_world, no_tasks, task_of, tasks_after, running_on, task_part}
use Rattle.psi_spec.specs.Refusal.{AreLegal}
use Rattle.psi_spec.specs.Stall.{is_under, number_of_slot, parents_of}
use Rattle.psi_spec.specs.LegalGroups.{leads_to}
use Rattle.psi_spec.specs.Collected.{slot_named}
use Rattle.psi_spec.proofs.GroupLaws.{climbs_kept}
use Rattle.psi_spec.proofs.TaskLaws.{found, no_entries}
use Rattle.psi_counts.specs.Legal.{IsLegalWorld}
use Rattle.psi_counts.specs.Touch.{AreWithin, task_after}
use Rattle.psi_spec.specs.Changes.{before}
use Rattle.psi_counts.proofs.CountLaws.{one}
use Rattle.psi_counts.proofs.LegalLaws.{chosen_fewer}
use Rattle.plan_laws.proofs.MomentsEvents.{by_legal}
use Rattle.plan_laws.proofs.MomentsKnown.{known-push}
use Rattle.plan_laws.proofs.PlanLaws.{after-push}
use Rattle.plan_laws.proofs.PlanStates.{Prolongs, legal_after, legal_last}
use Rattle.psi_counts.proofs.TouchCounts.{counted, counted_remove, running_found, tally, tallied}
use Rattle.psi_counts.proofs.TouchLaws.{counted_act}
use Rattle.proc_plan.specs.declared.side.Side.{Side}
use Rattle.proc_plan.specs.Sides.{came, went, passage, group_of, sample_by, sides_by, sides_of}
use Rattle.side_watch.specs.declared.cell.SideCell.{SideCell}
use Rattle.side_watch.specs.Sides.{cell_by, cell_after, moved, zero_side_cell}
use Rattle.side_watch.specs.Watch.{tasks_under}

-- ---- one side after another

pub by_both : (parents : List (Option ℕ)) (slot : ℕ) (cell : SideCell) (some more : List Side) → cell_by parents slot cell (some ++ more) ≡ cell_by parents slot (cell_by parents slot cell some) more
by_both parents slot cell [] more = refl
by_both parents slot cell (side ∷ some) more = by_both parents slot (cell_after parents slot cell side.what) some more

-- A memory sample or a preference doesn't change the number of tasks.
sample_counts : (parents : List (Option ℕ)) (slot at : ℕ) (cell : SideCell) (groups : List GroupLife) (a : Act) → (cell_by parents slot cell (sample_by at groups a)).tasks ≡ cell.tasks
sample_counts parents slot at cell groups (act.Group path) = refl
sample_counts parents slot at cell groups (act.Prefer path preference) =
    elim ((slot_named groups path).0 == slot) as (λ b. (if b then record cell { preference = preference } else cell).tasks ≡ cell.tasks) [ true ↦ refl | false ↦ refl ]
sample_counts parents slot at cell groups (act.Mem path current swap scan) =
    elim ((slot_named groups path).0 == slot) as (λ b. (if b then record cell { memory = record { current = current; swap = swap; scan = scan } } else cell).tasks ≡ cell.tasks) [ true ↦ refl | false ↦ refl ]
sample_counts parents slot at cell groups _ = refl

-- ---- tasks that join and leave

-- Whether the task is in the group in slot `slot` or in one of its descendants.
abbrev pub is_below : List (Option ℕ) → ℕ → Task → Bool
is_below parents slot task = is_under parents task.slot.0 slot

-- Whether the group `o` or one of its ancestors has the slot `slot`. False if there is no group.
abbrev leads : List (Option ℕ) → ℕ → Option Slot → Bool
leads parents slot o = leads_to parents (number_of_slot o) slot

leads_by_task : (parents : List (Option ℕ)) (slot : ℕ) (o : Option Task) → is_some_and o (is_below parents slot) ≡ leads parents slot (group_of o)
leads_by_task parents slot None = refl
leads_by_task parents slot (Some task) = refl

-- The number of tasks after a task joined a group. `on` says whether the group or one of its
-- ancestors has the slot. `with_going` is the number after a task left.
abbrev with_coming : Bool → ℕ → ℕ
with_coming on tasks = if on then moved true tasks else tasks

abbrev with_going : Bool → ℕ → ℕ
with_going on tasks = if on then moved false tasks else tasks

coming_counts : (parents : List (Option ℕ)) (slot at : ℕ) (cell : SideCell) (new : Slot) → (cell_by parents slot cell (came at new)).tasks ≡ with_coming (is_under parents new.0 slot) cell.tasks
coming_counts parents slot at cell new = elim (is_under parents new.0 slot) as (λ b. (if b then record cell { tasks = moved true cell.tasks } else cell).tasks ≡ with_coming b cell.tasks) [ true ↦ refl | false ↦ refl ]

going_counts : (parents : List (Option ℕ)) (slot at : ℕ) (cell : SideCell) (old : Slot) → (cell_by parents slot cell (went at old)).tasks ≡ with_going (is_under parents old.0 slot) cell.tasks
going_counts parents slot at cell old = elim (is_under parents old.0 slot) as (λ b. (if b then record cell { tasks = moved false cell.tasks } else cell).tasks ≡ with_going b cell.tasks) [ true ↦ refl | false ↦ refl ]

coming_fits : (on : Bool) (tasks new : ℕ) → new ≡ tasks + one on → new ≤ 65536 → with_coming on tasks ≡ new
coming_fits true tasks new is few = omega (arith, is, few)
coming_fits false tasks new is few = omega (arith, is)

going_fits : (on : Bool) (tasks new : ℕ) → new + one on ≡ tasks → with_going on tasks ≡ new
going_fits true tasks new is = omega (arith, is)
going_fits false tasks new is = omega (arith, is)

same_group : (parents : List (Option ℕ)) (slot old new : ℕ) → (old == new) ≡ true → one (is_under parents old slot) ≡ one (is_under parents new slot)
same_group parents slot old new is = ⊎_elim (λ same. ap (λ n. one (is_under parents n slot)) same.1) (λ other. absurd (cc (is, other.0))) (eqb_tells old new)

-- A task leaves the group `old`, in which it was counted, and joins the group `new`.
passage_counts : (parents : List (Option ℕ)) (slot at : ℕ) (cell : SideCell) (new_count : ℕ) (old new : Option Slot) → new_count + one (leads parents slot old) ≡ cell.tasks + one (leads parents slot new) →
    one (leads parents slot old) ≤ cell.tasks → new_count ≤ 65536 → (cell_by parents slot cell (passage at old new)).tasks ≡ new_count
passage_counts parents slot at cell new_count None None is there few = omega (arith, is)
passage_counts parents slot at cell new_count None (Some new) is there few =
    coming_counts parents slot at cell new ∙ coming_fits (is_under parents new.0 slot) cell.tasks new_count (omega (arith, is)) few
passage_counts parents slot at cell new_count (Some old) None is there few =
    going_counts parents slot at cell old ∙ going_fits (is_under parents old.0 slot) cell.tasks new_count (omega (arith, is))
passage_counts parents slot at cell new_count (Some old) (Some new) is there few =
    elim (old.0 == new.0) as (λ b. (old.0 == new.0) ≡ b → (cell_by parents slot cell (if b then [] else went at old ++ came at new)).tasks ≡ new_count) [
      | true ↦ λ same. omega (arith, is, same_group parents slot old.0 new.0 same)
      | false ↦ λ _.
          let middle : SideCell = cell_by parents slot cell (went at old) in
          let gone : middle.tasks ≡ cell.tasks - one (is_under parents old.0 slot) = going_counts parents slot at cell old ∙ going_fits (is_under parents old.0 slot) cell.tasks (cell.tasks - one (is_under parents old.0 slot)) (omega (arith, there)) in
          coming_counts parents slot at middle new ∙ coming_fits (is_under parents new.0 slot) middle.tasks new_count (omega (arith, is, gone, there)) few
    ] refl

-- ---- the task that an act changes

counted_there : (p : Task → Bool) (tasks : Tasks) (pid : ℕ) → one (is_some_and (task_of tasks pid) p) ≤ counted p tasks
counted_there p tasks pid = let less = counted_remove p tasks pid in omega (arith, less)

running_there : (p : Task → Bool) (tasks : Tasks) (cpu : ℕ) (o : Option (ℕ × Task)) → running_on tasks cpu ≡ o → one (is_some_and (task_part o) p) ≤ counted p tasks
running_there p tasks cpu None is = omega arith
running_there p tasks cpu (Some e) is = subst (λ o. one (is_some_and o p) ≤ counted p tasks) (running_found tasks cpu e is).0 (counted_there p tasks e.0)

-- The task that an act changes is one of the tasks before the act.
before_there : (p : Task → Bool) (tasks : Tasks) (a : Act) → one (is_some_and (before tasks a) p) ≤ counted p tasks
before_there p tasks (act.Wake pid cpu) = counted_there p tasks pid.0
before_there p tasks (act.Switch cpu next how) = running_there p tasks cpu.0 (running_on tasks cpu.0) refl
before_there p tasks (act.Stall pid) = counted_there p tasks pid.0
before_there p tasks (act.Unstall pid) = counted_there p tasks pid.0
before_there p tasks (act.Migrate pid cpu) = counted_there p tasks pid.0
before_there p tasks (act.Move pid path) = counted_there p tasks pid.0
before_there p tasks _ = omega arith

-- ---- all events

-- At most as many tasks are counted as are live.
few_counted : (limits : Limits) (events : List Event) → AreLegal limits first_world events → (p : Task → Bool) → counted p (after events).tasks ≤ 65536
few_counted limits events legal p =
    let tasks : Tasks = (after events).tasks in
    let few = (legal_after limits events legal).few_tasks in
    let all : length (tasks_by.values tasks) ≡ tasks_by.len tasks = length-map (tasks_by.entries tasks) (λ e. e.1) ∙ sym (tasks_by.len-entries tasks) in
    omega (arith, tallied p (tasks_by.values tasks), chosen_fewer p (tasks_by.values tasks), all, few)

none_first : (p : Task → Bool) → counted p no_tasks ≡ 0
none_first p = ap (λ (es : List (ℕ × Task)). tally p (map (λ e. e.1) es)) no_entries

abbrev Shows : List (Option ℕ) → ℕ → List Event → Type 0
Shows parents slot events = (cell_by parents slot zero_side_cell (sides_of events)).tasks ≡ counted (is_below parents slot) (after events).tasks

shows-push : (limits : Limits) (parents : List (Option ℕ)) (slot : ℕ) (events : List Event) (event : Event) → AreLegal limits first_world (events ++ event ∷ []) → Shows parents slot events → Shows parents slot (events ++ event ∷ [])
shows-push limits parents slot events event legal earlier =
    let w : World = after events in
    let p : Task → Bool = is_below parents slot in
    let old : Option Slot = group_of (before w.tasks event.act) in
    let new : Option Slot = group_of (task_after w.groups w.tasks event.act) in
    let sample : List Side = sample_by event.at w.groups event.act in
    let first : SideCell = cell_by parents slot zero_side_cell (sides_of events) in
    let middle : SideCell = cell_by parents slot first sample in
    let known : cell_by parents slot zero_side_cell (sides_of (events ++ event ∷ [])) ≡ cell_by parents slot middle (passage event.at old new) =
    ap (cell_by parents slot zero_side_cell) (known-push sides_by first_world events event) ∙ by_both parents slot zero_side_cell (sides_of events) (sample ++ passage event.at old new) ∙ by_both parents slot first sample (passage event.at old new) in
    let sampled : middle.tasks ≡ counted p w.tasks = sample_counts parents slot event.at first w.groups event.act ∙ earlier in
    let tasks : counted p (after (events ++ event ∷ [])).tasks ≡ counted p (tasks_after w.groups w.tasks event.act) = ap (λ (v : World). counted p v.tasks) (after-push events event) in
    let by_act = counted_act p (λ t ready. refl) limits w event.at event.act (legal_last limits first_world events event legal) in
    let from = ap one (leads_by_task parents slot (before w.tasks event.act)) in
    let to = ap one (leads_by_task parents slot (task_after w.groups w.tasks event.act)) in
    let there = before_there p w.tasks event.act in
    let few = few_counted limits (events ++ event ∷ []) legal p in
    ap (λ (cell : SideCell). cell.tasks) known
    ∙ passage_counts parents slot event.at middle (counted p (after (events ++ event ∷ [])).tasks) old new (omega (arith, sampled, tasks, by_act, from, to)) (omega (arith, sampled, there, from)) few

pub tasks_known : (limits : Limits) (parents : List (Option ℕ)) (slot : ℕ) (events : List Event) → AreLegal limits first_world events → Shows parents slot events
tasks_known limits parents slot events legal = by_legal limits (Shows parents slot) (sym (none_first (is_below parents slot))) (shows-push limits parents slot) events legal

-- ---- groups created later

-- The slot of each entry's task is below `slots`.
entries_within : (cpus slots : ℕ) (tasks : Tasks) → AreWithin cpus slots tasks → (es : List (ℕ × Task)) → AllByRecursion (λ e. task_of tasks e.0 ≡ Some e.1) es → AllByRecursion (λ e. e.1.slot.0 < slots) es
entries_within cpus slots tasks within [] at = tt
entries_within cpus slots tasks within (e ∷ es) at =
    let here : (e.1.cpu.0 < cpus) × (e.1.slot.0 < slots) = subst (λ o. IfSome o (λ task. (task.cpu.0 < cpus) × (task.slot.0 < slots))) at.0 (within e.0) in
    (here.1, entries_within cpus slots tasks within es at.1)

-- Two tests that agree on all tasks with slots below `slots` count the same number of tasks.
same_tally : (p q : Task → Bool) (slots : ℕ) → ((task : Task) → task.slot.0 < slots → p task ≡ q task) → (es : List (ℕ × Task)) → AllByRecursion (λ e. e.1.slot.0 < slots) es → tally p (map (λ e. e.1) es) ≡ tally q (map (λ e. e.1) es)
same_tally p q slots same [] below = refl
same_tally p q slots same (e ∷ es) below =
    ap (λ b. one b + tally p (map (λ e. e.1) es)) (same e.1 below.0) ∙ ap (λ n. one (q e.1) + n) (same_tally p q slots same es below.1)

-- Groups that are created later don't change the number of tasks in a group and its descendants.
pub tasks_later : (limits : Limits) (w : World) → IsLegalWorld limits w → (parents : List (Option ℕ)) → Prolongs (parents_of w.groups) parents → (slot : ℕ) → counted (is_below parents slot) w.tasks ≡ tasks_under w slot
tasks_later limits w world parents more slot =
    let each : length (parents_of w.groups) ≡ length w.groups = length-map w.groups (λ (group : GroupLife). number_of_slot group.parent) in
    let same : (task : Task) → task.slot.0 < length w.groups → is_below parents slot task ≡ is_below (parents_of w.groups) slot task =
    λ task room. ap (λ ps. is_under ps task.slot.0 slot) more.1 ∙ climbs_kept (parents_of w.groups) more.0 task.slot.0 slot world.groups.older (omega (arith, room, each)) in
    same_tally (is_below parents slot) (is_below (parents_of w.groups) slot) (length w.groups) same (tasks_by.entries w.tasks) (entries_within limits.cpus (length w.groups) w.tasks world.within (tasks_by.entries w.tasks) (found w.tasks))
    ∙ sym (tallied (is_below (parents_of w.groups) slot) (tasks_by.values w.tasks))
