-- Proofs about the creation of a group, and that legal events preserve the invariant of groups.
use Rattle.std.proofs.Common.{◌≡◌, ℕ, zero, suc, ◌+◌, ◌<◌, ◌≤◌, List, [], ◌∷◌, ◌++◌, refl, ap, ◌∙◌, sym, subst, Bool, true, false, arith, Option, None, Some, ◌==◌, length, map, take, ⊎_elim, ◌⊎◌}
use Rattle.std.specs.Prelude.{nat_le, ◌&&◌, ◌||◌, not, if◌then◌else◌, is_some, IfSome, IsSome, slice_get, slice_index_or}
use Rattle.std.specs.Str.{bytes_eq}
use Rattle.std.proofs.lemmas.Bool.Decides.{nat_tests}
use Rattle.std.proofs.lemmas.List.{append-nil, length-append, length-map, map-append, take-append-le, take-map, get_or_append_left, get_or_push, get_or_past}
use Rattle.std.proofs.lemmas.Option.{slice_get_within}
use Rattle.std.proofs.lemmas.Slice.Eq.{bytes_eq-Decides}
use Rattle.psi_base.specs.declared.event.Act.{Act}
use Rattle.psi_base.specs.declared.event.Act.TheVariants as act
use Rattle.psi_base.specs.declared.event.Event.{Event}
use Rattle.psi_base.specs.declared.event.Cause.TheVariants as cause
use Rattle.psi_spec.specs.declared.machine.GroupLife.{GroupLife}
use Rattle.psi_spec.specs.World.{World, Limits, root, is_live, is_root, slot_of, parent_path, as_slot, new_group, marked_removed, marked_switched, groups_after}
use Rattle.psi_spec.specs.Refusal.{cause_of, applies, cause_order, has_child, has_member}
use Rattle.psi_spec.specs.Stall.{number_of_slot, parents_of, is_under}
use Rattle.psi_spec.specs.Groups.{path_at}
use Rattle.psi_spec.specs.LegalGroups.{AreOlder, HaveParents, AreAbove, IsOneLive, AreGroups, leads_to, new_parents}
use Rattle.psi_spec.specs.Laws.{AreGroupsFirst, AreGroupsKept, ParentsKept, RootIsAbove}
use Rattle.psi_spec.proofs.RefusalLaws.{is_none, passed}
use Rattle.psi_spec.proofs.SwitchLaws.{one_live_switched, parents_switched, paths_switched, root_unswitched}
use Rattle.psi_spec.proofs.GroupLaws.{by_step, first_of_two, found_in_suffix, same_bytes, bytes_itself, found_below, found_path, parents_without, paths_without, one_live_without}

-- ---- a group is created

-- the parents after one group is appended
pub parents_after : (groups : List GroupLife) (group : GroupLife) → parents_of (groups ++ group ∷ []) ≡ parents_of groups ++ number_of_slot group.parent ∷ []
parents_after groups group = map-append (λ (g : GroupLife). number_of_slot g.parent) groups (group ∷ [])

-- the paths after one group is appended
paths_after : (groups : List GroupLife) (group : GroupLife) → map (λ (g : GroupLife). g.path) (groups ++ group ∷ []) ≡ map (λ (g : GroupLife). g.path) groups ++ group.path ∷ []
paths_after groups group = map-append (λ (g : GroupLife). g.path) groups (group ∷ [])

-- the number of a slot that was made from a number is that number
pub slot_number : (o : Option ℕ) → number_of_slot (as_slot o) ≡ o
slot_number None = refl
slot_number (Some n) = refl

-- an index is before, at or past the end of a list
place : (n slot : ℕ) → (slot < n) ⊎ ((slot ≡ n) ⊎ (n + 1 ≤ slot))
place n slot = grind arith

-- if the appended parent has a slot below `n`, the parent in slot `n` is older than its child
newest : (more : Option ℕ) (parent : ℕ) → more ≡ Some parent → (slot n : ℕ) → slot ≡ n → IfSome more (λ p. p < n) → parent < slot
newest None parent is slot n same new = absurd (cc is)
newest (Some p) parent is slot n same new = let equal : p ≡ parent = cc is in omega (arith, equal, same, new)

-- the parents are still older than their children after one more older parent is appended
older_after : (parents : List (Option ℕ)) (more : Option ℕ) → AreOlder parents → IfSome more (λ parent. parent < length parents) → AreOlder (parents ++ more ∷ [])
older_after parents more older new slot parent is =
    let len : length (parents ++ more ∷ []) ≡ length parents + 1 = length-append parents (more ∷ []) in
    ⊎_elim
    (λ before. older slot parent (sym (get_or_append_left parents (more ∷ []) None slot before) ∙ is))
    (λ or. ⊎_elim
    (λ same. newest more parent (sym (get_or_push parents more None slot (sym same)) ∙ is) slot (length parents) same new)
    (λ past. absurd (cc (sym (get_or_past (parents ++ more ∷ []) slot None (omega (arith, len, past))) ∙ is)))
    or)
    (place (length parents) slot)

-- each slot except the first still has a parent after one more parent is appended
parented_after : (parents : List (Option ℕ)) (parent : ℕ) → HaveParents parents → HaveParents (parents ++ Some parent ∷ [])
parented_after parents parent have slot first room =
    let len : length (parents ++ Some parent ∷ []) ≡ length parents + 1 = length-append parents (Some parent ∷ []) in
    ⊎_elim
    (λ before. ap is_some (get_or_append_left parents (Some parent ∷ []) None slot before) ∙ have slot first before)
    (λ or. ⊎_elim
    (λ same. ap is_some (get_or_push parents (Some parent) None slot (sym same)))
    (λ past. absurd (omega (arith, len, past, room)))
    or)
    (place (length parents) slot)

-- appending a group doesn't change the paths of earlier slots
path_before : (groups : List GroupLife) (group : GroupLife) (slot : ℕ) → slot < length groups → path_at (groups ++ group ∷ []) slot ≡ path_at groups slot
path_before groups group slot room =
    let len : length (map (λ (g : GroupLife). g.path) groups) ≡ length groups = length-map groups (λ (g : GroupLife). g.path) in
    ap (λ paths. slice_index_or paths slot []) (paths_after groups group) ∙ get_or_append_left (map (λ (g : GroupLife). g.path) groups) (group.path ∷ []) [] slot (omega (arith, len, room))

-- the path in the last slot is the path of the appended group
path_after : (groups : List GroupLife) (group : GroupLife) (slot : ℕ) → slot ≡ length groups → path_at (groups ++ group ∷ []) slot ≡ group.path
path_after groups group slot same =
    let len : length (map (λ (g : GroupLife). g.path) groups) ≡ length groups = length-map groups (λ (g : GroupLife). g.path) in
    ap (λ paths. slice_index_or paths slot []) (paths_after groups group) ∙ get_or_push (map (λ (g : GroupLife). g.path) groups) group.path [] slot (len ∙ sym same)

-- parents still match the paths after a group is appended whose parent has the parent's path
above_after : (groups : List GroupLife) (group : GroupLife) (parent : ℕ) → AreOlder (parents_of groups) → AreAbove groups → number_of_slot group.parent ≡ Some parent → parent < length groups → path_at groups parent ≡ parent_path group.path → AreAbove (groups ++ group ∷ [])
above_after groups group parent older above child room path slot high is =
    let len : length (parents_of groups) ≡ length groups = length-map groups (λ (g : GroupLife). number_of_slot g.parent) in
    let all : length (parents_of groups ++ number_of_slot group.parent ∷ []) ≡ length groups + 1 = length-append (parents_of groups) (number_of_slot group.parent ∷ []) ∙ ap (λ n. n + 1) len in
    let here : slice_index_or (parents_of groups ++ number_of_slot group.parent ∷ []) slot None ≡ Some high = ap (λ parents. slice_index_or parents slot None) (sym (parents_after groups group)) ∙ is in
    ⊎_elim
    (λ before.
    let in_list : slot < length (parents_of groups) = omega (arith, len, before) in
    let was : slice_index_or (parents_of groups) slot None ≡ Some high = sym (get_or_append_left (parents_of groups) (number_of_slot group.parent ∷ []) None slot in_list) ∙ here in
    let less = older slot high was in
    path_before groups group high (omega (arith, less, before)) ∙ above slot high was ∙ ap parent_path (sym (path_before groups group slot before)))
    (λ or. ⊎_elim
    (λ same.
    let parents : Some parent ≡ Some high = sym child ∙ sym (get_or_push (parents_of groups) (number_of_slot group.parent) None slot (len ∙ sym same)) ∙ here in
    let equal : parent ≡ high = cc parents in
    path_before groups group high (omega (arith, equal, room)) ∙ ap (path_at groups) (sym equal) ∙ path ∙ ap parent_path (sym (path_after groups group slot same)))
    (λ past. absurd (cc (sym (get_or_past (parents_of groups ++ number_of_slot group.parent ∷ []) slot None (omega (arith, all, past))) ∙ here)))
    or)
    (place (length groups) slot)

-- appending a group doesn't change the groups in earlier slots
got_before : (groups : List GroupLife) (group : GroupLife) (slot : ℕ) → slot < length groups → slice_get (groups ++ group ∷ []) slot ≡ slice_get groups slot
got_before [] group slot room = absurd (omega (arith, room))
got_before (first ∷ groups) group zero room = refl
got_before (first ∷ groups) group (suc slot) room = got_before groups group slot (omega (arith, room))

-- the group in the last slot is the appended group
pub got_after : (groups : List GroupLife) (group : GroupLife) (slot : ℕ) → slot ≡ length groups → slice_get (groups ++ group ∷ []) slot ≡ Some group
got_after [] group zero same = refl
got_after [] group (suc slot) same = absurd (omega (arith, same))
got_after (first ∷ groups) group zero same = absurd (omega (arith, same))
got_after (first ∷ groups) group (suc slot) same = got_after groups group slot (omega (arith, same))

-- looking up the path of a live group still finds it after a live group with a new path is appended
one_live_after : (groups : List GroupLife) (group : GroupLife) → IsOneLive groups → is_live group ≡ true → slot_of groups group.path ≡ None → IsOneLive (groups ++ group ∷ [])
one_live_after groups group one live new slot other is alive =
    let len : length (groups ++ group ∷ []) ≡ length groups + 1 = length-append groups (group ∷ []) in
    let found = found_in_suffix 0 groups group other.path in
    ⊎_elim
    (λ before.
    let was = one slot other (sym (got_before groups group slot before) ∙ is) alive in
    found ∙ ap (λ o. first_of_two o (if is_live group && bytes_eq group.path other.path then Some (0 + length groups) else None)) was)
    (λ or. ⊎_elim
    (λ same.
    let it : Some group ≡ Some other = sym (got_after groups group slot same) ∙ is in
    let equal : group ≡ other = cc it in
    let test : (is_live group && bytes_eq group.path group.path) ≡ true = rw live (bytes_itself group.path) in
    let number : 0 + length groups ≡ slot = omega (arith, same) in
    let goal : slot_of (groups ++ group ∷ []) group.path ≡ Some slot =
    found_in_suffix 0 groups group group.path
    ∙ ap (λ o. first_of_two o (if is_live group && bytes_eq group.path group.path then Some (0 + length groups) else None)) new
    ∙ ap (λ b. if b then Some (0 + length groups) else None) test
    ∙ ap Some number in
    subst (λ (g : GroupLife). slot_of (groups ++ group ∷ []) g.path ≡ Some slot) equal goal)
    (λ past. let within = slice_get_within (groups ++ group ∷ []) slot other is in absurd (omega (arith, len, past, within)))
    or)
    (place (length groups) slot)

-- ---- groups of legal worlds

-- the list of groups isn't empty
pub some_group : (groups : List GroupLife) → take 1 groups ≡ root ∷ [] → 0 < length groups
some_group [] is = absurd (cc is)
some_group (group ∷ groups) is = omega arith

-- creating a legal group preserves the invariant of groups
pub groups_made : (groups : List GroupLife) (path : List ℕ) (at parent : ℕ) → length groups < 1024 → slot_of groups path ≡ None → slot_of groups (parent_path path) ≡ Some parent → AreGroups groups → AreGroups (groups ++ new_group groups path at ∷ [])
groups_made groups path at parent few new over are =
    let group = new_group groups path at in
    let len : length (groups ++ group ∷ []) ≡ length groups + 1 = length-append groups (group ∷ []) in
    let some = some_group groups are.rooted in
    let count : length (parents_of groups) ≡ length groups = length-map groups (λ (g : GroupLife). number_of_slot g.parent) in
    let is : number_of_slot group.parent ≡ Some parent = slot_number (slot_of groups (parent_path path)) ∙ over in
    let room : parent < length groups = let below = found_below 0 groups (parent_path path) parent over in omega (arith, below.1) in
    let parents : parents_of (groups ++ group ∷ []) ≡ parents_of groups ++ Some parent ∷ [] = parents_after groups group ∙ ap (λ o. parents_of groups ++ o ∷ []) is in
    record {
      few = omega (arith, len, few);
      rooted = take-append-le 1 groups (group ∷ []) (omega (arith, some)) ∙ are.rooted;
      older = subst AreOlder (sym parents) (older_after (parents_of groups) (Some parent) are.older (omega (arith, count, room)));
      parented = subst HaveParents (sym parents) (parented_after (parents_of groups) parent are.parented);
      above = above_after groups group parent are.older are.above is room (found_path 0 groups (parent_path path) parent parent over (omega arith));
      one_live = one_live_after groups group are.one_live refl new;
    }

-- removing a group other than the root doesn't change the root
root_stays : (path : List ℕ) (at : ℕ) → is_root path ≡ false → marked_removed path at root ≡ root
root_stays path at other =
    elim (bytes_eq root.path path) as (λ b. bytes_eq root.path path ≡ b → (if b then record root { gone = Some at } else root) ≡ root) [
      | true ↦ λ is. let it : is_root path ≡ true = (bytes_eq-Decides path root.path).1 (sym (same_bytes root.path path is)) in absurd (cc (sym it ∙ other))
      | false ↦ λ _. refl
    ] refl

-- removing a group other than the root preserves the invariant of groups
pub groups_removed : (groups : List GroupLife) (path : List ℕ) (at : ℕ) → is_root path ≡ false → AreGroups groups → AreGroups (map (marked_removed path at) groups)
groups_removed groups path at other are =
    let len : length (map (marked_removed path at) groups) ≡ length groups = length-map groups (marked_removed path at) in
    let parents = parents_without path at groups in
    let few = are.few in
    record {
      few = omega (arith, len, few);
      rooted = take-map (marked_removed path at) 1 groups ∙ ap (map (marked_removed path at)) are.rooted ∙ ap (λ group. group ∷ []) (root_stays path at other);
      older = subst AreOlder (sym parents) are.older;
      parented = subst HaveParents (sym parents) are.parented;
      above = λ slot parent is.
          let paths = paths_without path at groups in
          let was = are.above slot parent (ap (λ ps. slice_index_or ps slot None) (sym parents) ∙ is) in
          ap (λ ps. slice_index_or ps parent []) paths ∙ was ∙ ap (λ ps. parent_path (slice_index_or ps slot [])) (sym paths);
      one_live = one_live_without path at groups are.one_live;
    }

-- switching the accounting of a group other than the root preserves the invariant of groups
pub groups_switched : (groups : List GroupLife) (path : List ℕ) (on : Bool) → is_root path ≡ false → AreGroups groups → AreGroups (map (marked_switched path on) groups)
groups_switched groups path on other are =
    let len : length (map (marked_switched path on) groups) ≡ length groups = length-map groups (marked_switched path on) in
    let parents = parents_switched path on groups in
    let few = are.few in
    record {
      few = omega (arith, len, few);
      rooted = take-map (marked_switched path on) 1 groups ∙ ap (map (marked_switched path on)) are.rooted ∙ ap (λ group. group ∷ []) (root_unswitched path on other);
      older = subst AreOlder (sym parents) are.older;
      parented = subst HaveParents (sym parents) are.parented;
      above = λ slot parent is.
          let paths = paths_switched path on groups in
          let was = are.above slot parent (ap (λ ps. slice_index_or ps slot None) (sym parents) ∙ is) in
          ap (λ ps. slice_index_or ps parent []) paths ∙ was ∙ ap (λ ps. parent_path (slice_index_or ps slot [])) (sym paths);
      one_live = one_live_switched path on groups are.one_live;
    }

-- in the list with only the root, no slot has a parent
first_alone : (slot parent : ℕ) → slice_index_or (parents_of (root ∷ [])) slot None ≡ Some parent → ⊥
first_alone zero parent is = cc is
first_alone (suc slot) parent is = cc is

-- in the list with only the root, looking up the path of the root finds it
root_found : (slot : ℕ) (group : GroupLife) → slice_get (root ∷ []) slot ≡ Some group → slot_of (root ∷ []) group.path ≡ Some slot
root_found zero group is = let same : root ≡ group = cc is in subst (λ (g : GroupLife). slot_of (root ∷ []) g.path ≡ Some 0) same refl
root_found (suc slot) group is = absurd (cc is)

-- the list with only the root satisfies the invariant of groups
pub groups_first : AreGroupsFirst
groups_first = record {
  few = omega arith;
  rooted = refl;
  older = λ slot parent is. absurd (first_alone slot parent is);
  parented = λ slot first room. absurd (omega (arith, first, room));
  above = λ slot parent is. absurd (first_alone slot parent is);
  one_live = λ slot group is live. root_found slot group is;
}

-- an option that isn't `None` has a value
the_some : (o : Option ℕ) → not (is_some o) ≡ false → (n : ℕ) × (o ≡ Some n)
the_some None h = absurd (cc h)
the_some (Some n) h = (n, refl)

-- if a disjunction of three tests is false, the first test is false
first_false : (a b c : Bool) → (a || b || c) ≡ false → a ≡ false
first_false false b c h = refl
first_false true b c h = cc h

-- a number that fails the test for at least 1,024 is below 1,024
fewer : (n : ℕ) → nat_le 1024 n ≡ false → n < 1024
fewer n h = grind (arith, nat_tests)

-- a legal act preserves the invariant of groups
groups_act : (limits : Limits) (w : World) (at : ℕ) (a : Act) → cause_of limits w (record { at = at; act = a }) ≡ None → AreGroups w.groups → AreGroups (groups_after at w.groups a)
unfolding cause_of
groups_act limits w at (act.Group path) legal are =
    let event : Event = record { at = at; act = act.Group path } in
    let few = passed (λ why. applies why limits w event) cause_order 4 cause.TooManyGroups legal refl in
    let new = passed (λ why. applies why limits w event) cause_order 9 cause.GroupExists legal refl in
    let over = the_some (slot_of w.groups (parent_path path)) (passed (λ why. applies why limits w event) cause_order 10 cause.NoParent legal refl) in
    groups_made w.groups path at over.0 (fewer (length w.groups) few) (is_none (slot_of w.groups path) new) over.1 are
groups_act limits w at (act.Remove path) legal are =
    let event : Event = record { at = at; act = act.Remove path } in
    let busy = passed (λ why. applies why limits w event) cause_order 11 cause.GroupBusy legal refl in
    groups_removed w.groups path at (first_false (is_root path) (has_child w.groups (slot_of w.groups path)) (has_member w.tasks (slot_of w.groups path)) busy) are
groups_act limits w at (act.Pressure path on) legal are =
    let event : Event = record { at = at; act = act.Pressure path on } in
    groups_switched w.groups path on (passed (λ why. applies why limits w event) cause_order 12 cause.RootPressure legal refl) are
groups_act limits w at (act.Prefer path preference) legal are = are
groups_act limits w at _ legal are = are

pub groups_kept : AreGroupsKept
groups_kept limits w event legal are = groups_act limits w event.at event.act legal are

-- ---- parents

-- appending the empty list changes nothing
nothing_after : (parents : List (Option ℕ)) → parents ≡ parents ++ []
nothing_after parents = sym (append-nil parents)

-- an act appends the parent of the new group, if it creates one
parents_act : (at : ℕ) (groups : List GroupLife) (a : Act) → parents_of (groups_after at groups a) ≡ parents_of groups ++ new_parents groups a
parents_act at groups (act.Group path) = parents_after groups (new_group groups path at) ∙ ap (λ o. parents_of groups ++ o ∷ []) (slot_number (slot_of groups (parent_path path)))
parents_act at groups (act.Remove path) = parents_without path at groups ∙ nothing_after (parents_of groups)
parents_act at groups (act.Pressure path on) = parents_switched path on groups ∙ nothing_after (parents_of groups)
parents_act at groups _ = nothing_after (parents_of groups)

pub parents_kept : ParentsKept
parents_kept w event = parents_act event.at w.groups event.act

-- ---- the root

-- if the parent of a slot is at or below the root, so is the optional parent of that slot
leads_up : (parents : List (Option ℕ)) (slot : ℕ) (o : Option ℕ) → slice_index_or parents slot None ≡ o → IsSome o → ((parent : ℕ) → slice_index_or parents slot None ≡ Some parent → is_under parents parent 0 ≡ true) → leads_to parents o 0 ≡ true
leads_up parents slot None is some above = cc some
leads_up parents slot (Some parent) is some above = above parent is

-- a disjunction is true if its second test is true
or_true : (a b : Bool) → b ≡ true → (a || b) ≡ true
or_true true b h = refl
or_true false b h = h

-- each slot up to `n` is at or below the root
under_first : (parents : List (Option ℕ)) → AreOlder parents → HaveParents parents → (n slot : ℕ) → slot ≤ n → slot < length parents → is_under parents slot 0 ≡ true
under_first parents older have n zero low room = by_step parents 0 0 older
under_first parents older have zero (suc slot) low room = absurd (omega (arith, low))
under_first parents older have (suc n) (suc slot) low room =
    by_step parents (suc slot) 0 older
    ∙ or_true (suc slot == 0) (leads_to parents (slice_index_or parents (suc slot) None) 0)
    (leads_up parents (suc slot) (slice_index_or parents (suc slot) None) refl (have (suc slot) (omega arith) room)
    (λ parent is. let less = older (suc slot) parent is in under_first parents older have n parent (omega (arith, less, low)) (omega (arith, less, room))))

pub root_above : RootIsAbove
root_above groups slot are room =
    let len : length (parents_of groups) ≡ length groups = length-map groups (λ (g : GroupLife). number_of_slot g.parent) in
    under_first (parents_of groups) are.older are.parented slot slot (omega arith) (omega (arith, len, room))
