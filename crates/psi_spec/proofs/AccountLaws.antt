-- Proofs about the accounting of a group after an event.
use Rattle.std.proofs.Common.{◌≡◌, ℕ, zero, suc, ◌+◌, ◌<◌, List, [], ◌∷◌, ◌++◌, refl, ap, ◌∙◌, sym, Bool, true, false, arith, Option, None, Some, ◌==◌, length, map}
use Rattle.std.specs.Prelude.{◌&&◌, if◌then◌else◌, slice_get}
use Rattle.std.specs.Option.{option_map}
use Rattle.std.specs.Str.{bytes_eq}
use Rattle.std.proofs.lemmas.Bool.Decides.{nat_tests}
use Rattle.std.proofs.lemmas.Option.{slice_get-get_or, slice_get-map}
use Rattle.std.proofs.lemmas.Slice.Eq.{bytes_eq-Decides}
use Rattle.psi_spec.specs.declared.machine.GroupLife.{GroupLife}
use Rattle.psi_spec.specs.World.{root, is_live, is_on, is_on_life, slot_of, marked_removed, marked_switched}
use Rattle.psi_spec.specs.LegalGroups.{IsOneLive}
use Rattle.psi_spec.proofs.GroupLaws.{found_below, found_group}
use Rattle.psi_spec.proofs.RefusalLaws.{first_true, second_true}

-- equal numbers pass the test for equality
equal_numbers : (a b : ℕ) → a ≡ b → (a == b) ≡ true
equal_numbers a b same = grind (arith, nat_tests)

-- numbers that pass the test for equality are equal
number_is : (at slot : ℕ) → (at == slot) ≡ true → 0 + slot ≡ at
number_is at slot same = grind (arith, nat_tests)

-- a slot below the length of the list has a group
past_last : (groups : List GroupLife) (at slot : ℕ) → at < 0 + length groups → (at == slot) ≡ true → slice_get groups slot ≡ None → ⊥
past_last groups at slot below same none =
    let here : slot < length groups = grind (arith, nat_tests) in
    absurd (cc (sym none ∙ slice_get-get_or groups slot root here))

-- removing a group doesn't change its accounting
removed_here : (o : Option GroupLife) (path : List ℕ) (at : ℕ) → is_on_life (option_map (marked_removed path at) o) ≡ is_on_life o
removed_here None path at = refl
removed_here (Some group) path at =
    elim (is_live group && bytes_eq group.path path) as (λ b. (let g : GroupLife = if b then record group { gone = Some at } else group in g.on) ≡ group.on) [ true ↦ refl | false ↦ refl ]

-- switching the accounting of the live group in slot `at` changes that group and no other
switched_here : (path : List ℕ) (on : Bool) (groups : List GroupLife) (at slot : ℕ) → IsOneLive groups → slot_of groups path ≡ Some at → (o : Option GroupLife) → slice_get groups slot ≡ o →
    is_on_life (option_map (marked_switched path on) o) ≡ (if at == slot then on else is_on_life o)
switched_here path on groups at slot one found None is =
    elim (at == slot) as (λ b. (at == slot) ≡ b → true ≡ (if b then on else true)) [
      | true ↦ λ same.
          let below = (found_below 0 groups path at found).1 in
          absurd (past_last groups at slot below same is)
      | false ↦ λ _. refl
    ] refl
switched_here path on groups at slot one found (Some group) is =
    elim (is_live group && bytes_eq group.path path) as (λ b. (is_live group && bytes_eq group.path path) ≡ b → (let g : GroupLife = if b then record group { on = on } else group in g.on) ≡ (if at == slot then on else group.on)) [
      | true ↦ λ it.
          let here = one slot group is (first_true (is_live group) (bytes_eq group.path path) it) in
          let same : group.path ≡ path = (bytes_eq-Decides group.path path).0 (second_true (is_live group) (bytes_eq group.path path) it) in
          let equal : Some at ≡ Some slot = sym found ∙ ap (slot_of groups) (sym same) ∙ here in
          let number : at ≡ slot = cc equal in
          sym (ap (λ b. if b then on else group.on) (equal_numbers at slot number))
      | false ↦ λ other.
          sym (ap (λ b. if b then on else group.on) (elim (at == slot) as (λ b. (at == slot) ≡ b → b ≡ false) [
            | true ↦ λ same. absurd (cc (sym (found_group 0 groups path at slot group found (number_is at slot same) is) ∙ other))
            | false ↦ λ _. refl
          ] refl))
    ] refl

pub switched_on : (path : List ℕ) (on : Bool) (groups : List GroupLife) (at slot : ℕ) → IsOneLive groups → slot_of groups path ≡ Some at →
    is_on (map (marked_switched path on) groups) slot ≡ (if at == slot then on else is_on groups slot)
switched_on path on groups at slot one found =
    ap is_on_life (slice_get-map (marked_switched path on) groups slot) ∙ switched_here path on groups at slot one found (slice_get groups slot) refl

-- removing a group doesn't change the accounting of any group
pub removed_on : (path : List ℕ) (at : ℕ) (groups : List GroupLife) (slot : ℕ) → is_on (map (marked_removed path at) groups) slot ≡ is_on groups slot
removed_on path at groups slot = ap is_on_life (slice_get-map (marked_removed path at) groups slot) ∙ removed_here (slice_get groups slot) path at

-- appending a group whose accounting is on doesn't change `is_on` of any slot, because a group that
-- doesn't exist counts as on
pub made_on : (groups : List GroupLife) (group : GroupLife) (slot : ℕ) → group.on ≡ true → is_on (groups ++ group ∷ []) slot ≡ is_on groups slot
made_on [] group zero on = on
made_on [] group (suc slot) on = refl
made_on (first ∷ groups) group zero on = refl
made_on (first ∷ groups) group (suc slot) on = made_on groups group slot on
