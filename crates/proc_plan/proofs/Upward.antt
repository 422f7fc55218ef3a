-- Lemmas about a walk from a slot up to the root.
use Rattle.std.proofs.Common.{◌≡◌, ℕ, zero, suc, ◌<◌, List, refl, sym, arith, true, false, Option, None, Some}
use Rattle.std.specs.Prelude.{slice_index_or, ◌==◌}
use Rattle.std.proofs.lemmas.Bool.Decides.{nat_tests}
use Rattle.std.proofs.Math.ListN.{get_or-map}
use Rattle.psi_base.specs.declared.event.Slot.{Slot}
use Rattle.psi_spec.specs.Stall.{is_under, number_of_slot}
use Rattle.psi_spec.specs.LegalGroups.{AreOlder, leads_to}
use Rattle.psi_spec.proofs.GroupLaws.{ancestors_older}
use Rattle.slot_clocks.specs.Clocks.{parent_numbers}
use Rattle.slot_clocks.specs.Walk.{height}

-- The number of a slot's parent is the same in the list of slots and in the list of numbers.
pub parent_number : (parents : List (Option Slot)) (slot : ℕ) → number_of_slot (slice_index_or parents slot None) ≡ slice_index_or (parent_numbers parents) slot None
parent_number parents slot = sym (get_or-map number_of_slot parents slot None)

-- Each number passes the equality test with itself.
itself : (n : ℕ) → (n == n) ≡ true
itself n = grind (arith, nat_tests)

-- Each slot is under itself.
pub at_itself : (parents : List (Option ℕ)) (slot : ℕ) → is_under parents slot slot ≡ true
unfolding is_under
at_itself parents zero = refl
at_itself parents (suc slot) = rw (itself (suc slot)) refl

-- The parent of a slot doesn't lead to the slot.
pub not_below : (parents : List (Option ℕ)) (place : ℕ) (o : Option ℕ) → AreOlder parents → slice_index_or parents place None ≡ o → leads_to parents o place ≡ false
not_below parents place None older is = refl
not_below parents place (Some parent) older is =
    let less = older place parent is in
    elim (is_under parents parent place) as (λ b. is_under parents parent place ≡ b → b ≡ false) [
      | true ↦ λ under. let bound = ancestors_older parents parent place older under in absurd (omega (arith, bound, less))
      | false ↦ λ _. refl
    ] refl

-- Each step of the walk decreases the height.
pub falls : (parents : List (Option Slot)) (slot : Slot) → AreOlder (parent_numbers parents) → height (slice_index_or parents slot.0 None) < height (Some slot)
falls parents slot older = by_option (slice_index_or parents slot.0 None) (sym (parent_number parents slot.0))
  where
    by_option : (o : Option Slot) → slice_index_or (parent_numbers parents) slot.0 None ≡ number_of_slot o → height o < height (Some slot)
    by_option None is = omega arith
    by_option (Some parent) is = let less = older slot.0 parent.0 is in omega (arith, less)
