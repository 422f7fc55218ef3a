-- Lemmas about the number of live tasks in each group when tasks are added, changed and removed.
use Rattle.std.proofs.Common.{◌≡◌, ℕ, zero, suc, ◌+◌, ◌-◌, ◌<◌, ◌≤◌, List, [], ◌∷◌, refl, ap, ◌∙◌, sym, subst, true, false, arith, cond, Option, None, Some, ◌==◌, length, slice_set, ⊎_elim, ◌⊎◌}
use Rattle.std.specs.Prelude.{slice_index_or, nat_lt}
use Rattle.std.specs.Prelude.{map as list_map}
use Rattle.std.specs.List.{list_any}
use Rattle.std.specs.FinMap as map
use Rattle.std.proofs.lemmas.List.{get_or-set_same, get_or-set_other, get_or_past, length-map, length-set}
use Rattle.std.proofs.lemmas.Bool.Decides.{nat_tests, eqb_tells}
use Rattle.psi_base.specs.declared.event.Slot.{Slot}
use Rattle.psi_spec.specs.declared.machine.Task.{Task}
use Rattle.psi_spec.specs.World.{Tasks, no_tasks, task_of, put, remove, as_slot}
use Rattle.psi_spec.specs.Refusal.{has_member, is_slot}
use Rattle.psi_counts.specs.Counts.{how_many}
use Rattle.psi_counts.proofs.CountLaws.{any_counted, one}
use Rattle.psi_spec.proofs.TaskLaws.{get_put, get_remove, itself, no_entries, same_tasks}
use Rattle.psi_counts.proofs.TouchCounts.{counted, counted_put, counted_remove, tallied}
use Rattle.psi_counts.proofs.LegalLaws.{chosen_fewer}
use Rattle.task_table.specs.Stands.{AreMembers, is_of}

-- The number of tasks in a group equals a count over the map of tasks.
members_are : (members : List ℕ) (tasks : Tasks) → AreMembers members tasks → (slot : ℕ) → slice_index_or members slot 0 ≡ counted (is_of slot) tasks
members_are members tasks are slot = are.each slot ∙ tallied (is_of slot) (map.values tasks)

by_sums : (members : List ℕ) (tasks : Tasks) → ((slot : ℕ) → slice_index_or members slot 0 ≡ counted (is_of slot) tasks) → AreMembers members tasks
by_sums members tasks each = record { each = λ slot. each slot ∙ sym (tallied (is_of slot) (map.values tasks)) }

-- Replacing a task by a task of the same group changes no number.
pub members_kept : (members : List ℕ) (tasks : Tasks) (pid : ℕ) (old new : Task) → AreMembers members tasks → task_of tasks pid ≡ Some old → new.slot ≡ old.slot → AreMembers members (put tasks pid new)
members_kept members tasks pid old new are is same = by_sums members (put tasks pid new) (λ slot.
    let before = members_are members tasks are slot in
    let by = rw is at (counted_put (is_of slot) tasks pid new) in
    let alike : one (is_of slot new) ≡ one (is_of slot old) = ap (λ (s : Slot). one (s.0 == slot)) same in
    omega (arith, before, by, alike))

-- Adding a task increases the number of its group by one.
pub members_more : (members : List ℕ) (tasks : Tasks) (pid : ℕ) (task : Task) → AreMembers members tasks → task_of tasks pid ≡ None → task.slot.0 < length members → AreMembers (slice_set members task.slot.0 (slice_index_or members task.slot.0 0 + 1)) (put tasks pid task)
members_more members tasks pid task are none room = by_sums _ (put tasks pid task) (λ slot.
    let by = rw none at (counted_put (is_of slot) tasks pid task) in
    ⊎_elim
    (λ same.
    let here : slice_index_or (slice_set members task.slot.0 (slice_index_or members task.slot.0 0 + 1)) slot 0 ≡ slice_index_or members task.slot.0 0 + 1 = rw same.1 (get_or-set_same members task.slot.0 (slice_index_or members task.slot.0 0 + 1) 0 room) in
    let before : slice_index_or members task.slot.0 0 ≡ counted (is_of slot) tasks = rw same.1 (members_are members tasks are task.slot.0) in
    let in_it : one (is_of slot task) ≡ 1 = rw same.1 (ap one (itself task.slot.0)) in
    omega (arith, here, before, by, in_it))
    (λ other.
    let there : slice_index_or (slice_set members task.slot.0 (slice_index_or members task.slot.0 0 + 1)) slot 0 ≡ slice_index_or members slot 0 = get_or-set_other members task.slot.0 slot (slice_index_or members task.slot.0 0 + 1) 0 other.1 in
    let before = members_are members tasks are slot in
    let not_in_it : one (is_of slot task) ≡ 0 = ap one (let off : (task.slot.0 == slot) ≡ false = grind (arith, nat_tests, other.0) in off) in
    omega (arith, there, before, by, not_in_it))
    (eqb_tells slot task.slot.0))

-- The number for a live task's group is at least one.
pub some_member : (members : List ℕ) (tasks : Tasks) (pid : ℕ) (task : Task) → AreMembers members tasks → task_of tasks pid ≡ Some task → 0 < slice_index_or members task.slot.0 0
some_member members tasks pid task are is =
    let by = rw is at (counted_remove (is_of task.slot.0) tasks pid) in
    let in_it : one (is_of task.slot.0 task) ≡ 1 = ap one (itself task.slot.0) in
    omega (arith, members_are members tasks are task.slot.0, by, in_it)

past_none : (members : List ℕ) (slot : ℕ) → length members ≤ slot → slice_index_or members slot 0 ≡ 0
past_none members slot past = get_or_past members slot 0 past

-- The list of numbers has an entry for the group of a live task.
pub member_room : (members : List ℕ) (tasks : Tasks) (pid : ℕ) (task : Task) → AreMembers members tasks → task_of tasks pid ≡ Some task → task.slot.0 < length members
member_room members tasks pid task are is =
    let some = some_member members tasks pid task are is in
    let case : (task.slot.0 < length members) ⊎ (length members ≤ task.slot.0) = grind arith in
    ⊎_elim (λ room. room) (λ past. absurd (omega (arith, some, past_none members task.slot.0 past))) case

-- Removing a task decreases the number of its group by one.
pub members_less : (members : List ℕ) (tasks : Tasks) (pid : ℕ) (task : Task) → AreMembers members tasks → task_of tasks pid ≡ Some task → AreMembers (slice_set members task.slot.0 (slice_index_or members task.slot.0 0 - 1)) (remove tasks pid)
members_less members tasks pid task are is = by_sums _ (remove tasks pid) (λ slot.
    let by = rw is at (counted_remove (is_of slot) tasks pid) in
    let some = some_member members tasks pid task are is in
    let room = member_room members tasks pid task are is in
    ⊎_elim
    (λ same.
    let here : slice_index_or (slice_set members task.slot.0 (slice_index_or members task.slot.0 0 - 1)) slot 0 ≡ slice_index_or members task.slot.0 0 - 1 = rw same.1 (get_or-set_same members task.slot.0 (slice_index_or members task.slot.0 0 - 1) 0 room) in
    let before : slice_index_or members task.slot.0 0 ≡ counted (is_of slot) tasks = rw same.1 (members_are members tasks are task.slot.0) in
    let in_it : one (is_of slot task) ≡ 1 = rw same.1 (ap one (itself task.slot.0)) in
    omega (arith, here, before, by, in_it, some))
    (λ other.
    let there : slice_index_or (slice_set members task.slot.0 (slice_index_or members task.slot.0 0 - 1)) slot 0 ≡ slice_index_or members slot 0 = get_or-set_other members task.slot.0 slot (slice_index_or members task.slot.0 0 - 1) 0 other.1 in
    let before = members_are members tasks are slot in
    let not_in_it : one (is_of slot task) ≡ 0 = ap one (let off : (task.slot.0 == slot) ≡ false = grind (arith, nat_tests, other.0) in off) in
    omega (arith, there, before, by, not_in_it))
    (eqb_tells slot task.slot.0))

-- Storing a task after removing its pid gives the same map as storing it directly.
put_again : (tasks : Tasks) (pid : ℕ) (new : Task) → put (remove tasks pid) pid new ≡ put tasks pid new
put_again tasks pid new = same_tasks (put (remove tasks pid) pid new) (put tasks pid new) (λ q.
    get_put (remove tasks pid) pid new q
    ∙ elim (q == pid) as (λ b. (q == pid) ≡ b → cond b (Some new) (task_of (remove tasks pid) q) ≡ cond b (Some new) (task_of tasks q)) [
      | true ↦ λ h. refl
      | false ↦ λ h. get_remove tasks pid q ∙ ap (λ b. cond b None (task_of tasks q)) h
    ] refl
    ∙ sym (get_put tasks pid new q))

-- Moving a task decreases the number of its old group and increases the number of its new group.
pub members_moved : (members : List ℕ) (tasks : Tasks) (pid : ℕ) (task new : Task) (less more : List ℕ) → AreMembers members tasks → task_of tasks pid ≡ Some task → new.slot.0 < length members
    → less ≡ slice_set members task.slot.0 (slice_index_or members task.slot.0 0 - 1) → length less ≡ length members → more ≡ slice_set less new.slot.0 (slice_index_or less new.slot.0 0 + 1) → AreMembers more (put tasks pid new)
members_moved members tasks pid task new less more are is room less_is same more_is =
    let gone : AreMembers less (remove tasks pid) = subst (λ m. AreMembers m (remove tasks pid)) (sym less_is) (members_less members tasks pid task are is) in
    let none : task_of (remove tasks pid) pid ≡ None = get_remove tasks pid pid ∙ ap (λ b. cond b None (task_of tasks pid)) (itself pid) in
    rw (more_is, ← put_again tasks pid new) (members_more less (remove tasks pid) pid new gone none (omega (arith, room, same)))

-- The number of tasks in a group is at most the limit of live tasks.
pub members_few : (members : List ℕ) (tasks : Tasks) (slot : ℕ) → AreMembers members tasks → map.len tasks ≤ 65536 → slice_index_or members slot 0 ≤ 65536
members_few members tasks slot are few =
    let some = chosen_fewer (is_of slot) (map.values tasks) in
    let all : length (map.values tasks) ≡ map.len tasks = length-map (map.entries tasks) (λ e. e.1) ∙ sym (map.len-entries tasks) in
    omega (arith, are.each slot, some, all, few)

-- After a task left a group, the numbers are still at most the limit of live tasks.
pub fewer_members : (members less : List ℕ) (place slot : ℕ) → less ≡ slice_set members place (slice_index_or members place 0 - 1) → place < length members → slice_index_or members slot 0 ≤ 65536 → slice_index_or less slot 0 ≤ 65536
fewer_members members less place slot is room few = ⊎_elim
    (λ same.
    let here : slice_index_or less slot 0 ≡ slice_index_or members slot 0 - 1 = rw (is, same.1) (get_or-set_same members place (slice_index_or members place 0 - 1) 0 room) in
    omega (arith, here, few))
    (λ other.
    let there : slice_index_or less slot 0 ≡ slice_index_or members slot 0 = rw is (get_or-set_other members place slot (slice_index_or members place 0 - 1) 0 other.1) in
    omega (arith, there, few))
    (eqb_tells slot place)

-- Extending the list of numbers for more groups changes no number.
pub members_same : (members more : List ℕ) (tasks : Tasks) → ((slot : ℕ) → slice_index_or more slot 0 ≡ slice_index_or members slot 0) → AreMembers members tasks → AreMembers more tasks
members_same members more tasks same are = record { each = λ slot. same slot ∙ are.each slot }

-- A group has a task exactly if its number isn't 0.
pub manned : (members : List ℕ) (tasks : Tasks) (slot : ℕ) → AreMembers members tasks → nat_lt 0 (slice_index_or members slot 0) ≡ has_member tasks (Some slot)
manned members tasks slot are = ap (nat_lt 0) (are.each slot) ∙ sym (any_counted (is_of slot) (map.values tasks))

none_is : (tasks : List Task) → list_any (λ task. is_slot None (Some task.slot)) tasks ≡ false
none_is [] = refl
none_is (task ∷ tasks) = none_is tasks

-- If no live group has a path, no task is in the group with this path.
pub unmanned : (tasks : Tasks) (o : Option ℕ) (found : Option Slot) → found ≡ as_slot o → found ≡ None → has_member tasks o ≡ false
unmanned tasks None found is none = none_is (map.values tasks)
unmanned tasks (Some n) found is none = absurd (cc (is, none))

-- Storing a number in a list leaves the length of the list unchanged.
pub set_length : (members : List ℕ) (place n : ℕ) → length (slice_set members place n) ≡ length members
set_length members place n = length-set members place n

-- A new list has one group without tasks.
pub no_members : AreMembers (0 ∷ []) no_tasks
no_members = record {
  each = λ slot. elim slot as (λ n. slice_index_or (0 ∷ []) n 0 ≡ how_many (is_of n) (map.values no_tasks)) [
    | zero ↦ ap (λ es. how_many (is_of 0) (list_map (λ (e : ℕ × Task). e.1) es)) (sym no_entries)
    | suc n ↦ ap (λ es. how_many (is_of (suc n)) (list_map (λ (e : ℕ × Task). e.1) es)) (sym no_entries)
  ];
}
