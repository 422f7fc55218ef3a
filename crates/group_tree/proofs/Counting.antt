-- Lemmas about the number of live children of a group.
use Rattle.std.proofs.Common.{◌≡◌, ℕ, zero, suc, ◌+◌, ◌≤◌, List, [], ◌∷◌, ◌++◌, refl, ap, Bool, true, false, arith, Option, None, Some, nat_lt, length}
use Rattle.std.specs.Prelude.{◌&&◌, ◌||◌, if◌then◌else◌, slice_get, slice_set, slice_index_or}
use Rattle.std.proofs.lemmas.Bool.Decides.{nat_tests}
use Rattle.psi_base.specs.declared.event.Slot.{Slot}
use Rattle.psi_spec.specs.declared.machine.GroupLife.{GroupLife}
use Rattle.psi_spec.specs.World.{is_live}
use Rattle.psi_spec.specs.Refusal.{is_slot, has_child}
use Rattle.psi_spec.specs.Stall.{number_of_slot, parents_of}
use Rattle.group_tree.specs.Tree.{count_children}

-- Returns 1 if the group is a live child of the slot, otherwise 0.
abbrev pub one : ℕ → GroupLife → ℕ
one slot group = if is_live group && is_slot (Some slot) group.parent then 1 else 0

-- A number that is 1 or 0 by a test is at most 1.
once : (b : Bool) → (if b then 1 else 0) ≤ 1
once true = omega arith
once false = omega arith

-- Appending a group adds the group to the count if it is a live child of the slot.
pub count_following : (groups : List GroupLife) (group : GroupLife) (slot : ℕ) → count_children (groups ++ group ∷ []) slot ≡ count_children groups slot + one slot group
count_following [] group slot = refl
count_following (first ∷ groups) group slot =
    let rest = count_following groups group slot in
    let goal : (count_children (groups ++ group ∷ []) slot + one slot first) ≡ (count_children groups slot + one slot first) + one slot group = omega (arith, rest) in
    goal

-- A group has at most as many live children as there are groups.
pub count_few : (groups : List GroupLife) (slot : ℕ) → count_children groups slot ≤ length groups
count_few [] slot = omega arith
count_few (group ∷ groups) slot =
    let rest = count_few groups slot in
    let here : one slot group ≤ 1 = once (is_live group && is_slot (Some slot) group.parent) in
    let goal : count_children groups slot + one slot group ≤ length (group ∷ groups) = omega (arith, rest, here) in
    goal

-- A slot that passes the test for a number has this number.
pub the_slot : (o : Option Slot) (n : ℕ) → is_slot (Some n) o ≡ true → number_of_slot o ≡ Some n
the_slot None n is = cc is
the_slot (Some slot) n is = let same : slot.0 ≡ n = grind (arith, nat_tests) in ap Some same

-- A conjunction with a false second part is false.
and_false : (a b : Bool) → b ≡ false → (a && b) ≡ false
and_false true b h = h
and_false false b h = refl

-- A group with another parent isn't counted.
not_counted : (slot : ℕ) (group : GroupLife) → (number_of_slot group.parent ≡ Some slot → ⊥) → one slot group ≡ 0
not_counted slot group other =
    elim (is_slot (Some slot) group.parent) as (λ b. is_slot (Some slot) group.parent ≡ b → one slot group ≡ 0) [
      | true ↦ λ is. absurd (other (the_slot group.parent slot is))
      | false ↦ λ is. ap (λ b. if b then 1 else 0) (and_false (is_live group) (is_slot (Some slot) group.parent) is)
    ] refl

-- A slot that is the parent of no group has no live children.
pub count_none : (groups : List GroupLife) (slot : ℕ) → ((at : ℕ) → slice_index_or (parents_of groups) at None ≡ Some slot → ⊥) → count_children groups slot ≡ 0
count_none [] slot none = refl
count_none (group ∷ groups) slot none =
    let rest = count_none groups slot (λ at. none (suc at)) in
    let here : one slot group ≡ 0 = not_counted slot group (none 0) in
    let goal : count_children groups slot + one slot group ≡ 0 = omega (arith, rest, here) in
    goal

-- Replacing a group subtracts the old group from the count and adds the new group.
pub count_set : (groups : List GroupLife) (at : ℕ) (old new : GroupLife) (slot : ℕ) → slice_get groups at ≡ Some old → count_children (slice_set groups at new) slot + one slot old ≡ count_children groups slot + one slot new
count_set [] at old new slot is = absurd (cc is)
count_set (group ∷ groups) zero old new slot is =
    let same : group ≡ old = cc is in
    let goal : (count_children groups slot + one slot new) + one slot old ≡ (count_children groups slot + one slot old) + one slot new = omega arith in
    rw same goal
count_set (group ∷ groups) (suc at) old new slot is =
    let rest = count_set groups at old new slot is in
    let goal : (count_children (slice_set groups at new) slot + one slot group) + one slot old ≡ (count_children groups slot + one slot group) + one slot new = omega (arith, rest) in
    goal

-- A test for a positive count can be split when the count increases by 1 or 0.
some_more : (b : Bool) (n : ℕ) (any : Bool) → any ≡ nat_lt 0 n → (b || any) ≡ nat_lt 0 (n + (if b then 1 else 0))
some_more true n any is = grind (arith, nat_tests)
some_more false n any is = grind (arith, nat_tests)

-- A group has a live child exactly if its count isn't 0.
pub some_child : (groups : List GroupLife) (slot : ℕ) → has_child groups (Some slot) ≡ nat_lt 0 (count_children groups slot)
some_child [] slot = refl
some_child (group ∷ groups) slot = some_more (is_live group && is_slot (Some slot) group.parent) (count_children groups slot) (has_child groups (Some slot)) (some_child groups slot)

-- A live child in the list is included in the count of its parent.
pub count_at : (groups : List GroupLife) (at : ℕ) (group : GroupLife) (slot : ℕ) → slice_get groups at ≡ Some group → one slot group ≤ count_children groups slot
count_at [] at group slot is = absurd (cc is)
count_at (first ∷ groups) zero group slot is =
    let same : first ≡ group = cc is in
    let goal : one slot group ≤ count_children groups slot + one slot group = omega arith in
    rw same goal
count_at (first ∷ groups) (suc at) group slot is =
    let rest = count_at groups at group slot is in
    let goal : one slot group ≤ count_children groups slot + one slot first = omega (arith, rest) in
    goal
