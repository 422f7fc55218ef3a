-- Proofs about the groups of legal worlds and about ancestors.
use Rattle.std.proofs.Common.{◌≡◌, ℕ, zero, suc, ◌+◌, ◌<◌, ◌≤◌, List, [], ◌∷◌, ◌++◌, refl, ap, ◌∙◌, sym, subst, Bool, true, false, arith, Option, None, Some, ◌==◌, length, map}
use Rattle.std.specs.Prelude.{◌&&◌, ◌||◌, if◌then◌else◌, IfSome, slice_get, slice_index_or}
use Rattle.std.specs.Option.{option_map}
use Rattle.std.specs.Str.{bytes_eq}
use Rattle.std.proofs.lemmas.Bool.Decides.{nat_tests}
use Rattle.std.proofs.lemmas.List.{get_or_append_left}
use Rattle.std.proofs.lemmas.Option.{slice_get-map}
use Rattle.std.proofs.lemmas.Slice.Eq.{bytes_eq-Decides}
use Rattle.psi_spec.specs.declared.machine.GroupLife.{GroupLife}
use Rattle.psi_spec.specs.World.{is_live, slot_from, slot_of, marked_removed}
use Rattle.psi_spec.specs.Stall.{number_of_slot, parents_of, climbs, is_under}
use Rattle.psi_spec.specs.Groups.{path_at}
use Rattle.psi_spec.specs.LegalGroups.{AreOlder, IsOneLive, leads_to}
use Rattle.psi_spec.specs.Laws.{ClimbsKept, UnderByStep, AncestorsAreOlder}
use Rattle.psi_spec.proofs.RefusalLaws.{second_true}

-- ---- ancestors of a group

-- the first slot has no parent, so the climb from there ends
ends_at_first : (parents : List (Option ℕ)) → AreOlder parents → (slot : ℕ) → slot ≤ 0 → (o : Option ℕ) → slice_index_or parents slot None ≡ o → (n high : ℕ) → climbs n parents o high ≡ false
ends_at_first parents older slot low None is n high = refl
ends_at_first parents older slot low (Some parent) is n high = let less = older slot parent is in absurd (omega (arith, less, low))

-- `n` steps are enough from the parent of a slot if `suc n` steps are enough from the slot
next_fits : (parents : List (Option ℕ)) → AreOlder parents → (slot n : ℕ) → slot ≤ suc n → (o : Option ℕ) → slice_index_or parents slot None ≡ o → IfSome o (λ s. s ≤ n)
next_fits parents older slot n fits None is = tt
next_fits parents older slot n fits (Some parent) is = let less = older slot parent is in omega (arith, less, fits)

-- a disjunction with a false second test is its first test
or_false : (b c : Bool) → c ≡ false → (b || c) ≡ b
or_false true c h = refl
or_false false c h = h

-- once there are at least as many steps as the slot's number, further steps don't change the climb
enough_steps : (parents : List (Option ℕ)) → AreOlder parents → (n m : ℕ) (o : Option ℕ) (high : ℕ) → IfSome o (λ s. s ≤ n) → IfSome o (λ s. s ≤ m) → climbs n parents o high ≡ climbs m parents o high
enough_steps parents older n m None high at_n at_m = refl
enough_steps parents older zero zero (Some slot) high at_n at_m = refl
enough_steps parents older zero (suc m) (Some slot) high at_n at_m =
    sym (or_false (slot == high) _ (ends_at_first parents older slot at_n (slice_index_or parents slot None) refl m high))
enough_steps parents older (suc n) zero (Some slot) high at_n at_m =
    or_false (slot == high) _ (ends_at_first parents older slot at_m (slice_index_or parents slot None) refl n high)
enough_steps parents older (suc n) (suc m) (Some slot) high at_n at_m =
    ap (λ b. slot == high || b) (enough_steps parents older n m (slice_index_or parents slot None) high
    (next_fits parents older slot n at_n (slice_index_or parents slot None) refl)
    (next_fits parents older slot m at_m (slice_index_or parents slot None) refl))

-- a climb with enough steps reaches every ancestor
whole_way : (parents : List (Option ℕ)) → AreOlder parents → (n : ℕ) (o : Option ℕ) (high : ℕ) → IfSome o (λ s. s ≤ n) → climbs n parents o high ≡ leads_to parents o high
unfolding is_under
whole_way parents older n None high at_n = refl
whole_way parents older n (Some slot) high at_n = enough_steps parents older n slot (Some slot) high at_n (omega arith)

-- one step of the climb: a slot is at or below `high` exactly if it is `high` or its parent is at
-- or below `high`
pub by_step : UnderByStep
unfolding is_under
by_step parents zero high older =
    let least : 0 ≤ 0 = omega arith in
    let first = ends_at_first parents older 0 least (slice_index_or parents 0 None) refl 0 high in
    sym (or_false (0 == high) _ (sym (whole_way parents older 0 (slice_index_or parents 0 None) high (next_fits parents older 0 0 (omega arith) (slice_index_or parents 0 None) refl)) ∙ first))
by_step parents (suc low) high older =
    ap (λ b. suc low == high || b) (whole_way parents older low (slice_index_or parents (suc low) None) high (next_fits parents older (suc low) low (omega arith) (slice_index_or parents (suc low) None) refl))

-- the parent of a slot that is at most `low` is at most `low`
older_still : (parents : List (Option ℕ)) → AreOlder parents → (slot low : ℕ) → slot ≤ low → (o : Option ℕ) → slice_index_or parents slot None ≡ o → IfSome o (λ s. s ≤ low)
older_still parents older slot low from None is = tt
older_still parents older slot low from (Some parent) is = let less = older slot parent is in omega (arith, less, from)

-- every slot that a climb reaches is at most the slot at its start
none_newer : (parents : List (Option ℕ)) → AreOlder parents → (n : ℕ) (o : Option ℕ) (high : ℕ) → climbs n parents o high ≡ true → (low : ℕ) → IfSome o (λ s. s ≤ low) → high ≤ low
none_newer parents older n None high is low from = absurd (cc is)
none_newer parents older zero (Some slot) high is low from = grind (arith, nat_tests)
none_newer parents older (suc n) (Some slot) high is low from =
    elim (slot == high) as (λ b. (slot == high) ≡ b → (b || climbs n parents (slice_index_or parents slot None) high) ≡ true → high ≤ low) [
      | true ↦ λ same _. grind (arith, nat_tests)
      | false ↦ λ _ rest. none_newer parents older n (slice_index_or parents slot None) high rest low (older_still parents older slot low from (slice_index_or parents slot None) refl)
    ] refl is

pub ancestors_older : AncestorsAreOlder
unfolding is_under
ancestors_older parents low high older is = none_newer parents older low (Some low) high is low (omega arith)

-- ---- later groups

-- the parent of an existing slot is an existing slot
next_below : (parents : List (Option ℕ)) → AreOlder parents → (slot : ℕ) → slot < length parents → (o : Option ℕ) → slice_index_or parents slot None ≡ o → IfSome o (λ s. s < length parents)
next_below parents older slot room None is = tt
next_below parents older slot room (Some parent) is = let less = older slot parent is in omega (arith, less, room)

-- groups that are created later don't change the climb from an earlier slot
ways_kept : (n : ℕ) (parents more : List (Option ℕ)) (o : Option ℕ) (high : ℕ) → AreOlder parents → IfSome o (λ s. s < length parents) → climbs n (parents ++ more) o high ≡ climbs n parents o high
ways_kept n parents more None high older room = refl
ways_kept zero parents more (Some slot) high older room = refl
ways_kept (suc n) parents more (Some slot) high older room =
    ap (λ b. slot == high || b)
    (ap (λ o. climbs n (parents ++ more) o high) (get_or_append_left parents more None slot room)
    ∙ ways_kept n parents more (slice_index_or parents slot None) high older (next_below parents older slot room (slice_index_or parents slot None) refl))

pub climbs_kept : ClimbsKept
unfolding is_under
climbs_kept parents more low high older room = ways_kept low parents more (Some low) high older room

-- ---- lookup of live groups

-- the first optional slot if it has a value, or the second
abbrev pub first_of_two : Option ℕ → Option ℕ → Option ℕ
first_of_two None other = other
first_of_two (Some slot) other = Some slot

-- after a group is appended, a lookup finds the same slot as before, or the new group if it found
-- none
pub found_in_suffix : (from : ℕ) (groups : List GroupLife) (group : GroupLife) (path : List ℕ) → slot_from from (groups ++ group ∷ []) path ≡ first_of_two (slot_from from groups path) (if is_live group && bytes_eq group.path path then Some (from + length groups) else None)
found_in_suffix from [] group path = let same : from ≡ from + 0 = omega arith in ap (λ n. if is_live group && bytes_eq group.path path then Some n else None) same
found_in_suffix from (first ∷ groups) group path =
    let same : from + 1 + length groups ≡ from + length (first ∷ groups) = omega arith in
    elim (is_live first && bytes_eq first.path path) as (λ b. (if b then Some from else slot_from (from + 1) (groups ++ group ∷ []) path) ≡ first_of_two (if b then Some from else slot_from (from + 1) groups path) (if is_live group && bytes_eq group.path path then Some (from + length (first ∷ groups)) else None)) [
      | true ↦ refl
      | false ↦ found_in_suffix (from + 1) groups group path ∙ ap (λ n. first_of_two (slot_from (from + 1) groups path) (if is_live group && bytes_eq group.path path then Some n else None)) same
    ]

-- byte strings that pass the test for equality are equal
pub same_bytes : (xs ys : List ℕ) → bytes_eq xs ys ≡ true → xs ≡ ys
same_bytes xs ys = (bytes_eq-Decides xs ys).0

-- a byte string passes the test for equality with itself
pub bytes_itself : (xs : List ℕ) → bytes_eq xs xs ≡ true
bytes_itself xs = (bytes_eq-Decides xs xs).1 refl

-- a conjunction is false if its second test is false
pub and_false : (a b : Bool) → b ≡ false → (a && b) ≡ false
and_false true b h = h
and_false false b h = refl

-- the lookup passes over a group that is removed here
removed_here : (from : ℕ) (path : List ℕ) (group : GroupLife) (rest : Option ℕ) (other : List ℕ) → (is_live group && bytes_eq group.path path) ≡ true →
    (if bytes_eq path other then None else rest) ≡ (if bytes_eq path other then None else (if is_live group && bytes_eq group.path other then Some from else rest))
removed_here from path group rest other it =
    let same : group.path ≡ path = same_bytes group.path path (second_true (is_live group) (bytes_eq group.path path) it) in
    elim (bytes_eq path other) as (λ b. bytes_eq path other ≡ b → (if b then None else rest) ≡ (if b then None else (if is_live group && bytes_eq group.path other then Some from else rest))) [
      | true ↦ λ _. refl
      | false ↦ λ differ. let misses = and_false (is_live group) (bytes_eq group.path other) (ap (λ p. bytes_eq p other) same ∙ differ) in sym (ap (λ b. if b then Some from else rest) misses)
    ] refl

-- the lookup treats a group that isn't removed as before
kept_here : (from : ℕ) (path : List ℕ) (group : GroupLife) (rest : Option ℕ) (other : List ℕ) → (is_live group && bytes_eq group.path path) ≡ false →
    (if is_live group && bytes_eq group.path other then Some from else (if bytes_eq path other then None else rest)) ≡ (if bytes_eq path other then None else (if is_live group && bytes_eq group.path other then Some from else rest))
kept_here from path group rest other it =
    elim (bytes_eq path other) as (λ b. bytes_eq path other ≡ b → (if is_live group && bytes_eq group.path other then Some from else (if b then None else rest)) ≡ (if b then None else (if is_live group && bytes_eq group.path other then Some from else rest))) [
      | true ↦ λ is. let misses : (is_live group && bytes_eq group.path other) ≡ false = subst (λ p. (is_live group && bytes_eq group.path p) ≡ false) (same_bytes path other is) it in ap (λ b. if b then Some from else None) misses
      | false ↦ λ _. refl
    ] refl

-- after a group is removed, a lookup of its path finds nothing, and a lookup of any other path
-- finds the same slot as before
pub removed_not_found : (from at : ℕ) (path : List ℕ) (groups : List GroupLife) (other : List ℕ) → slot_from from (map (marked_removed path at) groups) other ≡ (if bytes_eq path other then None else slot_from from groups other)
removed_not_found from at path [] other = elim (bytes_eq path other) as (λ b. let none : Option ℕ = None in none ≡ (if b then none else none)) [ true ↦ refl | false ↦ refl ]
removed_not_found from at path (group ∷ groups) other =
    let rest = removed_not_found (from + 1) at path groups other in
    elim (is_live group && bytes_eq group.path path) as (λ r. (is_live group && bytes_eq group.path path) ≡ r → slot_from from ((if r then record group { gone = Some at } else group) ∷ map (marked_removed path at) groups) other ≡ (if bytes_eq path other then None else slot_from from (group ∷ groups) other)) [
      | true ↦ λ it. rest ∙ removed_here from path group (slot_from (from + 1) groups other) other it
      | false ↦ λ it. ap (λ o. if is_live group && bytes_eq group.path other then Some from else o) rest ∙ kept_here from path group (slot_from (from + 1) groups other) other it
    ] refl

-- a lookup finds only existing slots
pub found_below : (from : ℕ) (groups : List GroupLife) (path : List ℕ) (slot : ℕ) → slot_from from groups path ≡ Some slot → (from ≤ slot) × (slot < from + length groups)
found_below from [] path slot is = absurd (cc is)
found_below from (group ∷ groups) path slot is =
    let more : length (group ∷ groups) ≡ length groups + 1 = omega arith in
    elim (is_live group && bytes_eq group.path path) as (λ b. (if b then Some from else slot_from (from + 1) groups path) ≡ Some slot → (from ≤ slot) × (slot < from + length (group ∷ groups))) [
      | true ↦ λ i. let same : from ≡ slot = cc i in (omega (arith, same), omega (arith, same, more))
      | false ↦ λ i. let rest = found_below (from + 1) groups path slot i in (omega (arith, rest.0), omega (arith, rest.1, more))
    ] is

-- the group in the slot that a lookup finds has the path
pub found_path : (from : ℕ) (groups : List GroupLife) (path : List ℕ) (slot place : ℕ) → slot_from from groups path ≡ Some slot → from + place ≡ slot → path_at groups place ≡ path
found_path from [] path slot place is at = absurd (cc is)
found_path from (group ∷ groups) path slot zero is at =
    elim (is_live group && bytes_eq group.path path) as (λ b. (is_live group && bytes_eq group.path path) ≡ b → (if b then Some from else slot_from (from + 1) groups path) ≡ Some slot → group.path ≡ path) [
      | true ↦ λ it _. same_bytes group.path path (second_true (is_live group) (bytes_eq group.path path) it)
      | false ↦ λ _ i. let later = (found_below (from + 1) groups path slot i).0 in absurd (omega (arith, later, at))
    ] refl is
found_path from (group ∷ groups) path slot (suc place) is at =
    elim (is_live group && bytes_eq group.path path) as (λ b. (if b then Some from else slot_from (from + 1) groups path) ≡ Some slot → path_at groups place ≡ path) [
      | true ↦ λ i. let same : from ≡ slot = cc i in absurd (omega (arith, same, at))
      | false ↦ λ i. found_path (from + 1) groups path slot place i (omega (arith, at))
    ] is

-- the group in the slot that a lookup finds is live and has the path
pub found_group : (from : ℕ) (groups : List GroupLife) (path : List ℕ) (slot place : ℕ) (group : GroupLife) → slot_from from groups path ≡ Some slot → from + place ≡ slot → slice_get groups place ≡ Some group → (is_live group && bytes_eq group.path path) ≡ true
found_group from [] path slot place group is at got = absurd (cc is)
found_group from (first ∷ groups) path slot zero group is at got =
    elim (is_live first && bytes_eq first.path path) as (λ b. (is_live first && bytes_eq first.path path) ≡ b → (if b then Some from else slot_from (from + 1) groups path) ≡ Some slot → (is_live group && bytes_eq group.path path) ≡ true) [
      | true ↦ λ it _. let same : first ≡ group = cc got in subst (λ (g : GroupLife). (is_live g && bytes_eq g.path path) ≡ true) same it
      | false ↦ λ _ i. let later = (found_below (from + 1) groups path slot i).0 in absurd (omega (arith, later, at))
    ] refl is
found_group from (first ∷ groups) path slot (suc place) group is at got =
    elim (is_live first && bytes_eq first.path path) as (λ b. (if b then Some from else slot_from (from + 1) groups path) ≡ Some slot → (is_live group && bytes_eq group.path path) ≡ true) [
      | true ↦ λ i. let same : from ≡ slot = cc i in absurd (omega (arith, same, at))
      | false ↦ λ i. found_group (from + 1) groups path slot place group i (omega (arith, at)) got
    ] is

-- ---- removing a group

-- removing a group doesn't change its parent
without_parent : (path : List ℕ) (at : ℕ) (group : GroupLife) → (marked_removed path at group).parent ≡ group.parent
without_parent path at group =
    elim (is_live group && bytes_eq group.path path) as (λ b. (let g : GroupLife = if b then record group { gone = Some at } else group in g.parent) ≡ group.parent) [ true ↦ refl | false ↦ refl ]

-- removing a group doesn't change its path
without_path : (path : List ℕ) (at : ℕ) (group : GroupLife) → (marked_removed path at group).path ≡ group.path
without_path path at group =
    elim (is_live group && bytes_eq group.path path) as (λ b. (let g : GroupLife = if b then record group { gone = Some at } else group in g.path) ≡ group.path) [ true ↦ refl | false ↦ refl ]

-- removing a group doesn't change any parent
pub parents_without : (path : List ℕ) (at : ℕ) (groups : List GroupLife) → parents_of (map (marked_removed path at) groups) ≡ parents_of groups
parents_without path at [] = refl
parents_without path at (group ∷ groups) =
    let here = ap number_of_slot (without_parent path at group) in
    let rest = parents_without path at groups in
    cc (here, rest)

-- removing a group doesn't change any path
pub paths_without : (path : List ℕ) (at : ℕ) (groups : List GroupLife) → map (λ (group : GroupLife). group.path) (map (marked_removed path at) groups) ≡ map (λ (group : GroupLife). group.path) groups
paths_without path at [] = refl
paths_without path at (group ∷ groups) =
    let here = without_path path at group in
    let rest = paths_without path at groups in
    cc (here, rest)

-- a live group that isn't removed doesn't have the removed path
other_path : (path : List ℕ) (old new : GroupLife) → (is_live old && bytes_eq old.path path) ≡ false → old ≡ new → is_live old ≡ true → bytes_eq path new.path ≡ false
other_path path old new differ same live =
    elim (bytes_eq path new.path) as (λ b. bytes_eq path new.path ≡ b → b ≡ false) [
      | true ↦ λ is.
          let paths : path ≡ old.path = same_bytes path new.path is ∙ sym (ap (λ (g : GroupLife). g.path) same) in
          let found : (is_live old && bytes_eq old.path path) ≡ true = rw (live, paths) (bytes_itself old.path) in
          absurd (cc (sym found ∙ differ))
      | false ↦ λ _. refl
    ] refl

-- a group that is live after a removal was live before it, and isn't the removed group
still_live : (path : List ℕ) (at : ℕ) (old new : GroupLife) → marked_removed path at old ≡ new → is_live new ≡ true → (old ≡ new) × (is_live old ≡ true) × (bytes_eq path new.path ≡ false)
still_live path at old new is live =
    elim (is_live old && bytes_eq old.path path) as (λ b. (is_live old && bytes_eq old.path path) ≡ b → (if b then record old { gone = Some at } else old) ≡ new → (old ≡ new) × (is_live old ≡ true) × (bytes_eq path new.path ≡ false)) [
      | true ↦ λ _ i. absurd (cc (ap is_live i ∙ live))
      | false ↦ λ differ i. (i, ap is_live i ∙ live, other_path path old new differ i (ap is_live i ∙ live))
    ] refl is

-- a group in the mapped list comes from a group in the original list
mapped_from : (f : GroupLife → GroupLife) (o : Option GroupLife) (new : GroupLife) → option_map f o ≡ Some new → (old : GroupLife) × (o ≡ Some old) × (f old ≡ new)
mapped_from f None new is = absurd (cc is)
mapped_from f (Some old) new is = (old, refl, cc is)

-- after a removal, looking up the path of a live group still finds it
pub one_live_without : (path : List ℕ) (at : ℕ) (groups : List GroupLife) → IsOneLive groups → IsOneLive (map (marked_removed path at) groups)
one_live_without path at groups one slot new is live =
    let old = mapped_from (marked_removed path at) (slice_get groups slot) new (sym (slice_get-map (marked_removed path at) groups slot) ∙ is) in
    let kept = still_live path at old.0 new old.2 live in
    removed_not_found 0 at path groups new.path
    ∙ ap (λ b. if b then None else slot_of groups new.path) kept.2
    ∙ one slot new (old.1 ∙ ap Some kept.0) live
