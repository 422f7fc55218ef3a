-- Proves that the invariant of a tree is preserved when a group is created, when a group is
-- removed, and when the accounting of a group is switched.
use Rattle.std.proofs.Common.{◌≡◌, ◌≢◌, ℕ, zero, suc, ◌+◌, ◌<◌, ◌≤◌, List, [], ◌∷◌, ◌++◌, refl, ap, ◌∙◌, sym, subst, Bool, true, false, arith, Option, None, Some, ◌==◌, length, map, take, drop}
use Rattle.std.specs.Prelude.{not, codes, nat_le, is_some, ◌&&◌, if◌then◌else◌, IfSome, slice_get, slice_set, slice_index_or}
use Rattle.std.specs.Str.{bytes_eq}
use Rattle.std.proofs.lemmas.Bool.Decides.{nat_tests}
use Rattle.std.proofs.lemmas.List.{length-append, length-map, append-nil, drop_all, take_all, get_or_push}
use Rattle.psi_base.specs.declared.event.Slot.{Slot}
use Rattle.psi_base.specs.declared.event.Cause.TheVariants as cause
use Rattle.psi_spec.specs.declared.machine.GroupLife.{GroupLife}
use Rattle.psi_spec.specs.World.{root, is_live, is_root, slot_of, as_slot, parent_path, new_group, marked_removed, marked_switched}
use Rattle.psi_spec.specs.Refusal.{is_slot}
use Rattle.psi_spec.specs.Stall.{number_of_slot, parents_of}
use Rattle.psi_spec.specs.LegalGroups.{AreOlder, IsOneLive, AreGroups}
use Rattle.psi_spec.proofs.GroupLaws.{first_of_two, found_in_suffix, found_group, found_below, removed_not_found, same_bytes, and_false}
use Rattle.psi_spec.proofs.GroupChanges.{got_after, groups_first, groups_made, groups_removed, groups_switched, parents_after}
use Rattle.psi_spec.proofs.RefusalLaws.{first_true, second_true}
use Rattle.psi_spec.proofs.SwitchLaws.{switched_found, switched_leaves}
use Rattle.group_tree.specs.Tree.{slot_at, add_cause, pressure_cause, count_children, IsTree}
use Rattle.group_tree.proofs.Counting.{one, count_following, count_set, count_at, count_few}

-- ---- a group is made

-- Appending a zero changes no lookup that returns 0 past the end of the list.
zero_after : (xs : List ℕ) (n : ℕ) → slice_index_or (xs ++ 0 ∷ []) n 0 ≡ slice_index_or xs n 0
zero_after [] zero = refl
zero_after [] (suc n) = refl
zero_after (x ∷ xs) zero = refl
zero_after (x ∷ xs) (suc n) = zero_after xs n

-- A choice between two options whose second option is `None` returns the first.
first_alone : (o : Option ℕ) → first_of_two o None ≡ o
first_alone None = refl
first_alone (Some n) = refl

-- After a group was created, a lookup by path finds the new group or the same group as before.
found_more : (groups : List GroupLife) (group : GroupLife) (find : List ℕ → Option Slot) (slot : Slot) → ((path : List ℕ) → find path ≡ as_slot (slot_of groups path)) → IsOneLive (groups ++ group ∷ []) → is_live group ≡ true → slot.0 ≡ length groups → (path : List ℕ) → (if bytes_eq group.path path then Some slot else find path) ≡ as_slot (slot_of (groups ++ group ∷ []) path)
found_more groups group find slot found one live number path =
    elim (bytes_eq group.path path) as (λ b. bytes_eq group.path path ≡ b → (if b then Some slot else find path) ≡ as_slot (slot_of (groups ++ group ∷ []) path)) [
      | true ↦ λ is.
          let here : slot_of (groups ++ group ∷ []) group.path ≡ Some slot.0 = one slot.0 group (got_after groups group slot.0 number) live in
          subst (λ p. Some slot ≡ as_slot (slot_of (groups ++ group ∷ []) p)) (same_bytes group.path path is) (sym (ap as_slot here))
      | false ↦ λ is.
          let misses = and_false (is_live group) (bytes_eq group.path path) is in
          found path ∙ sym (ap as_slot (found_in_suffix 0 groups group path
          ∙ ap (λ b. first_of_two (slot_of groups path) (if b then Some (0 + length groups) else None)) misses
          ∙ first_alone (slot_of groups path)))
    ] refl

-- Whether a live group counts as a child of a slot depends only on its parent.
live_one : (slot : ℕ) (group : GroupLife) → is_live group ≡ true → one slot group ≡ (if is_slot (Some slot) group.parent then 1 else 0)
live_one slot group live = ap (λ b. if b && is_slot (Some slot) group.parent then 1 else 0) live

-- Creating a group preserves the invariant of a tree.
pub tree_more : (groups : List GroupLife) (group : GroupLife) (find later : List ℕ → Option Slot) (slot : Slot) (children counts : List ℕ)
    → IsTree groups find children → AreGroups (groups ++ group ∷ []) → is_live group ≡ true → slot.0 ≡ length groups
    → ((path : List ℕ) → later path ≡ (if bytes_eq group.path path then Some slot else find path))
    → length counts ≡ length children
    → ((n : ℕ) → slice_index_or counts n 0 ≡ slice_index_or children n 0 + (if is_slot (Some n) group.parent then 1 else 0))
    → IsTree (groups ++ group ∷ []) later (counts ++ 0 ∷ [])
tree_more groups group find later slot children counts tree legal live number finds len each =
    let same = tree.each in
    record {
      legal = legal;
      found = λ path. finds path ∙ found_more groups group find slot tree.found legal.one_live live number path;
      each = let more : length (counts ++ 0 ∷ []) ≡ length counts + 1 = length-append counts (0 ∷ []) in
          let all : length (groups ++ group ∷ []) ≡ length groups + 1 = length-append groups (group ∷ []) in
          omega (arith, more, all, len, same);
      counted = λ n. zero_after counts n ∙ each n ∙ ap (λ k. k + (if is_slot (Some n) group.parent then 1 else 0)) (tree.counted n) ∙ ap (λ k. count_children groups n + k) (sym (live_one n group live)) ∙ sym (count_following groups group n);
    }

-- The parent of a new group exists.
new_parent : (groups : List GroupLife) (group : GroupLife) → AreOlder (parents_of (groups ++ group ∷ [])) → (o : Option Slot) → group.parent ≡ o → IfSome o (λ slot. slot.0 < length groups)
new_parent groups group older None is = tt
new_parent groups group older (Some slot) is =
    let len : length (parents_of groups) ≡ length groups = length-map groups (λ (g : GroupLife). number_of_slot g.parent) in
    older (length groups) slot.0 (ap (λ ps. slice_index_or ps (length groups) None) (parents_after groups group) ∙ get_or_push (parents_of groups) (number_of_slot group.parent) None (length groups) len ∙ ap number_of_slot is)

-- The list of counts has an entry for the parent of a new group.
pub parent_counted : (groups : List GroupLife) (group : GroupLife) (find : List ℕ → Option Slot) (children : List ℕ) → IsTree groups find children → AreGroups (groups ++ group ∷ []) → (o : Option Slot) → group.parent ≡ o → IfSome o (λ slot. slot.0 < length children)
parent_counted groups group find children tree legal None is = tt
parent_counted groups group find children tree legal (Some slot) is =
    let less = new_parent groups group legal.older (Some slot) is in
    let same = tree.each in
    omega (arith, less, same)

-- Each count is at most the maximum number of groups.
pub counts_few : (groups : List GroupLife) (find : List ℕ → Option Slot) (children : List ℕ) → IsTree groups find children → (o : Option Slot) → IfSome o (λ slot. slice_index_or children slot.0 0 ≤ 1024)
counts_few groups find children tree None = tt
counts_few groups find children tree (Some slot) =
    let is = tree.counted slot.0 in
    let few = count_few groups slot.0 in
    let all = tree.legal.few in
    omega (arith, is, few, all)

-- A number that fails the test for 1,024 is less than 1,024.
fewer : (n : ℕ) → nat_le 1024 n ≡ false → n < 1024
fewer n h = grind (arith, nat_tests)

-- An option that fails the test for a value is `None`.
is_none : (o : Option ℕ) → is_some o ≡ false → o ≡ None
is_none None h = refl
is_none (Some n) h = cc h

-- If there is no cause for rejecting the creation of a group, the groups with the new group are
-- possible in a legal world.
pub may_add : (groups : List GroupLife) (path : List ℕ) (at : ℕ) → add_cause groups path ≡ None → AreGroups groups → AreGroups (groups ++ new_group groups path at ∷ [])
may_add groups path at none are =
    elim (nat_le 1024 (length groups)) as (λ few. nat_le 1024 (length groups) ≡ few → (if few then Some cause.TooManyGroups else (if is_some (slot_of groups path) then Some cause.GroupExists else (if not (is_some (slot_of groups (parent_path path))) then Some cause.NoParent else None))) ≡ None → AreGroups (groups ++ new_group groups path at ∷ [])) [
      | true ↦ λ _ i. absurd (cc i)
      | false ↦ λ few i. elim (is_some (slot_of groups path)) as (λ b. is_some (slot_of groups path) ≡ b → (if b then Some cause.GroupExists else (if not (is_some (slot_of groups (parent_path path))) then Some cause.NoParent else None)) ≡ None → AreGroups (groups ++ new_group groups path at ∷ [])) [
        | true ↦ λ _ j. absurd (cc j)
        | false ↦ λ new j. elim (slot_of groups (parent_path path)) as (λ o. slot_of groups (parent_path path) ≡ o → (if not (is_some o) then Some cause.NoParent else None) ≡ None → AreGroups (groups ++ new_group groups path at ∷ [])) [
          | None ↦ λ _ k. absurd (cc k)
          | Some parent ↦ λ over _. groups_made groups path at parent (fewer (length groups) few) (is_none (slot_of groups path) new) over are
        ] refl j
      ] refl i
    ] refl none

-- ---- the root alone

-- The root alone has no live child.
no_child : (slot : ℕ) → slice_index_or (0 ∷ []) slot 0 ≡ count_children (root ∷ []) slot
no_child zero = refl
no_child (suc slot) = refl

-- The tree with only the root satisfies the invariant.
pub first_tree : (find : List ℕ → Option Slot) → ((path : List ℕ) → find path ≡ (if bytes_eq (codes "/") path then Some (slot_at 0) else None)) → IsTree (root ∷ []) find (0 ∷ [])
first_tree find finds = record {
  legal = groups_first;
  found = λ path. finds path ∙ elim (bytes_eq (codes "/") path) as (λ b. (if b then Some (slot_at 0) else None) ≡ as_slot (if b then Some 0 else None)) [ true ↦ refl | false ↦ refl ];
  each = refl;
  counted = λ slot. no_child slot;
}

-- ---- a group is removed

-- Mapping a function that changes no element leaves a list unchanged.
map_same : (f : GroupLife → GroupLife) (groups : List GroupLife) → ((at : ℕ) (group : GroupLife) → slice_get groups at ≡ Some group → f group ≡ group) → groups ≡ map f groups
map_same f [] same = refl
map_same f (group ∷ groups) same =
    let here = same 0 group refl in
    let rest = map_same f groups (λ at. same (suc at)) in
    ap (λ g. g ∷ groups) (sym here) ∙ ap (λ gs. f group ∷ gs) rest

-- Mapping a function that changes only one element is the same as storing the changed element.
set_is_map : (f : GroupLife → GroupLife) (groups : List GroupLife) (place : ℕ) (new : GroupLife) → ((group : GroupLife) → slice_get groups place ≡ Some group → f group ≡ new) → ((at : ℕ) (group : GroupLife) → slice_get groups at ≡ Some group → at ≢ place → f group ≡ group) → slice_set groups place new ≡ map f groups
set_is_map f [] place new here others = refl
set_is_map f (group ∷ groups) zero new here others =
    ap (λ g. g ∷ groups) (sym (here group refl)) ∙ ap (λ gs. f group ∷ gs) (map_same f groups (λ at g is. others (suc at) g is (omega arith)))
set_is_map f (group ∷ groups) (suc place) new here others =
    ap (λ g. g ∷ slice_set groups place new) (sym (others 0 group refl (omega arith)))
    ∙ ap (λ gs. f group ∷ gs) (set_is_map f groups place new here (λ at g is differs. others (suc at) g is (omega (arith, differs))))

-- A slot that is found by path exists.
pub found_made : (groups : List GroupLife) (path : List ℕ) (slot : ℕ) → slot_of groups path ≡ Some slot → slot < length groups
found_made groups path slot found = let below = found_below 0 groups path slot found in omega (arith, below.1)

-- A group in another slot than the found group has another path or was removed.
is_another : (groups : List GroupLife) (path : List ℕ) (place k : ℕ) (group : GroupLife) → IsOneLive groups → slot_of groups path ≡ Some place → slice_get groups k ≡ Some group → k ≢ place → (is_live group && bytes_eq group.path path) ≡ false
is_another groups path place k group one found got differs =
    elim (is_live group && bytes_eq group.path path) as (λ b. (is_live group && bytes_eq group.path path) ≡ b → b ≡ false) [
      | true ↦ λ is.
          let alive = first_true (is_live group) (bytes_eq group.path path) is in
          let same = same_bytes group.path path (second_true (is_live group) (bytes_eq group.path path) is) in
          let both : Some k ≡ Some place = sym (one k group got alive) ∙ ap (slot_of groups) same ∙ found in
          let equal : k ≡ place = cc both in
          absurd (differs equal)
      | false ↦ λ _. refl
    ] refl

-- Storing the time of removal in the slot of the found group is the removal that psi_spec defines.
pub ended_is : (groups : List GroupLife) (path : List ℕ) (at place : ℕ) (group : GroupLife) → IsOneLive groups → slot_of groups path ≡ Some place → slice_get groups place ≡ Some group → slice_set groups place (record group { gone = Some at }) ≡ map (marked_removed path at) groups
ended_is groups path at place group one found got =
    set_is_map (marked_removed path at) groups place (record group { gone = Some at })
    (λ g is.
    let same : group ≡ g = cc (got, is) in
    let test = found_group 0 groups path place place g found (omega arith) is in
    ap (λ b. if b then record g { gone = Some at } else g) test ∙ ap (λ (g : GroupLife). let ended : GroupLife = record g { gone = Some at } in ended) (sym same))
    (λ k g is differs. ap (λ b. if b then record g { gone = Some at } else g) (is_another groups path place k g one found is differs))

-- After a group was removed, a lookup by path finds nothing or the same group as before.
found_less : (groups : List GroupLife) (path : List ℕ) (at : ℕ) (find : List ℕ → Option Slot) → ((path : List ℕ) → find path ≡ as_slot (slot_of groups path)) → (other : List ℕ) → (if bytes_eq path other then None else find other) ≡ as_slot (slot_of (map (marked_removed path at) groups) other)
found_less groups path at find found other =
    elim (bytes_eq path other) as (λ b. (if b then None else find other) ≡ as_slot (if b then None else slot_of groups other)) [
      | true ↦ refl
      | false ↦ found other
    ] ∙ sym (ap as_slot (removed_not_found 0 at path groups other))

-- Counts that decrease by the same number are equal if they were equal before.
one_less : (a b c d k : ℕ) → c + k ≡ a → a ≡ b → d + k ≡ b + 0 → c ≡ d
one_less a b c d k h i j = omega (arith, h, i, j)

-- Removing a group preserves the invariant of a tree.
pub tree_less : (groups : List GroupLife) (path : List ℕ) (at : ℕ) (slot : Slot) (group : GroupLife) (find later : List ℕ → Option Slot) (children counts : List ℕ)
    → IsTree groups find children → slot_of groups path ≡ Some slot.0 → is_root path ≡ false → slice_get groups slot.0 ≡ Some group
    → ((other : List ℕ) → later other ≡ (if bytes_eq path other then None else find other))
    → length counts ≡ length children
    → ((n : ℕ) → slice_index_or counts n 0 + (if is_slot (Some n) group.parent then 1 else 0) ≡ slice_index_or children n 0)
    → IsTree (map (marked_removed path at) groups) later counts
tree_less groups path at slot group find later children counts tree found root got finds len each =
    let same = tree.each in
    let ended : GroupLife = record group { gone = Some at } in
    let live = first_true (is_live group) (bytes_eq group.path path) (found_group 0 groups path slot.0 slot.0 group found (omega arith) got) in
    record {
      legal = groups_removed groups path at root tree.legal;
      found = λ other. finds other ∙ found_less groups path at find tree.found other;
      each = let all : length (map (marked_removed path at) groups) ≡ length groups = length-map groups (marked_removed path at) in omega (arith, all, len, same);
      counted = λ n.
          let set = count_set groups slot.0 group ended n got in
          let is : count_children (map (marked_removed path at) groups) n + (if is_slot (Some n) group.parent then 1 else 0) ≡ count_children groups n + 0 =
          ap (λ gs. count_children gs n + (if is_slot (Some n) group.parent then 1 else 0)) (sym (ended_is groups path at slot.0 group tree.legal.one_live found got))
          ∙ ap (λ k. count_children (slice_set groups slot.0 ended) n + k) (sym (live_one n group live))
          ∙ set in
          one_less (slice_index_or children n 0) (count_children groups n) (slice_index_or counts n 0) (count_children (map (marked_removed path at) groups) n) (if is_slot (Some n) group.parent then 1 else 0) (each n) (tree.counted n) is;
    }

-- Each number passes the equality test with itself.
itself : (n : ℕ) → (n == n) ≡ true
itself n = grind (arith, nat_tests)

-- The parent of a live group has at least one live child.
pub some_counted : (groups : List GroupLife) (path : List ℕ) (place : ℕ) (group : GroupLife) (find : List ℕ → Option Slot) (children : List ℕ) → IsTree groups find children → slot_of groups path ≡ Some place → slice_get groups place ≡ Some group → (o : Option Slot) → group.parent ≡ o → IfSome o (λ slot. 0 < slice_index_or children slot.0 0)
some_counted groups path place group find children tree found got None is = tt
some_counted groups path place group find children tree found got (Some slot) is =
    let live = first_true (is_live group) (bytes_eq group.path path) (found_group 0 groups path place place group found (omega arith) got) in
    let here : one slot.0 group ≡ 1 = live_one slot.0 group live ∙ ap (λ o. if is_slot (Some slot.0) o then 1 else 0) is ∙ ap (λ b. if b then 1 else 0) (itself slot.0) in
    let among = count_at groups place group slot.0 got in
    let count = tree.counted slot.0 in
    omega (arith, here, among, count)

-- ---- the account of a group is switched

-- Converts a found slot back to its number.
pub slot_back : (o : Option ℕ) (found : Option Slot) → found ≡ as_slot o → (slot : Slot) → found ≡ Some slot → o ≡ Some slot.0
slot_back None found is slot some = absurd (cc (is, some))
slot_back (Some n) found is slot some = let same : (let s : Slot = record { 0 = n } in s) ≡ slot = cc (is, some) in ap (λ (s : Slot). let o : Option ℕ = Some s.0 in o) same

-- If there is no cause for rejecting a switch of the accounting of a group, the group isn't the
-- root.
pub not_root : (groups : List GroupLife) (path : List ℕ) → pressure_cause groups path ≡ None → is_root path ≡ false
not_root groups path none =
    elim (is_some (slot_of groups path)) as (λ b. (if not b then Some cause.UnknownGroup else (if is_root path then Some cause.RootPressure else None)) ≡ None → is_root path ≡ false) [
      | true ↦ λ here. elim (is_root path) as (λ b. (if b then Some cause.RootPressure else None) ≡ None → b ≡ false) [ true ↦ λ i. absurd (cc i) | false ↦ λ _. refl ] here
      | false ↦ λ here. absurd (cc here)
    ] none

-- Storing the setting in the slot of the found group is the switch that psi_spec defines.
pub switched_is : (groups : List GroupLife) (path : List ℕ) (on : Bool) (place : ℕ) (group : GroupLife) → IsOneLive groups → slot_of groups path ≡ Some place → slice_get groups place ≡ Some group → slice_set groups place (record group { on = on }) ≡ map (marked_switched path on) groups
switched_is groups path on place group one found got =
    set_is_map (marked_switched path on) groups place (record group { on = on })
    (λ g is.
    let same : group ≡ g = cc (got, is) in
    let test = found_group 0 groups path place place g found (omega arith) is in
    ap (λ b. if b then record g { on = on } else g) test ∙ ap (λ (g : GroupLife). let other : GroupLife = record g { on = on } in other) (sym same))
    (λ k g is differs. ap (λ b. if b then record g { on = on } else g) (is_another groups path place k g one found is differs))

-- Switching accounting changes no count of live children.
count_switched : (path : List ℕ) (on : Bool) (groups : List GroupLife) (slot : ℕ) → count_children (map (marked_switched path on) groups) slot ≡ count_children groups slot
count_switched path on [] slot = refl
count_switched path on (group ∷ groups) slot =
    let rest = count_switched path on groups slot in
    let here = switched_leaves (one slot) (λ _ _. refl) path on group in
    let goal : count_children (map (marked_switched path on) groups) slot + one slot (marked_switched path on group) ≡ count_children groups slot + one slot group = omega (arith, rest, here) in
    goal

-- Switching accounting preserves the invariant of a tree.
pub tree_switched : (groups : List GroupLife) (path : List ℕ) (on : Bool) (find : List ℕ → Option Slot) (children : List ℕ)
    → IsTree groups find children → is_root path ≡ false → IsTree (map (marked_switched path on) groups) find children
tree_switched groups path on find children tree other = record {
  legal = groups_switched groups path on other tree.legal;
  found = λ path_requested. tree.found path_requested ∙ ap as_slot (sym (switched_found 0 path on groups path_requested));
  each = tree.each ∙ sym (length-map groups (marked_switched path on));
  counted = λ slot. tree.counted slot ∙ sym (count_switched path on groups slot);
}

-- ---- a slice that was written whole

-- Overwriting a list with a list of the same length gives the new list.
pub written : (n : ℕ) (old new : List ℕ) → length new ≡ length old → n ≡ length old → take n (new ++ drop (length new) old) ≡ new
written n old new len all =
    ap (λ rest. take n (new ++ rest)) (drop_all (length new) old (omega (arith, len))) ∙ ap (take n) (append-nil new) ∙ take_all n new (omega (arith, len, all))

-- An index with a nonzero number is within the list.
counted_inside : (xs : List ℕ) (n : ℕ) → 0 < slice_index_or xs n 0 → n < length xs
counted_inside [] zero some = absurd (omega (arith, some))
counted_inside [] (suc n) some = absurd (omega (arith, some))
counted_inside (x ∷ xs) zero some = omega arith
counted_inside (x ∷ xs) (suc n) some = let rest = counted_inside xs n some in omega (arith, rest)

-- The list of counts has an entry for each slot with a live child.
pub inside_if : (xs : List ℕ) (o : Option Slot) → IfSome o (λ slot. 0 < slice_index_or xs slot.0 0) → IfSome o (λ slot. slot.0 < length xs)
inside_if xs None some = tt
inside_if xs (Some slot) some = counted_inside xs slot.0 some
